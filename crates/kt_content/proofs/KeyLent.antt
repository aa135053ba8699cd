-- A key may be lent, and so may a job.
use Rattle.std.proofs.Common.{◌≡◌, ◌≤◌, ◌<◌, ℕ, max, ◌-◌, List, [], ◌∷◌, ◌++◌, Some, None, Ok, Result, refl, sym, ap, ◌∙◌, subst, arith, true, Bool, map, inl, inr}
use Rattle.std.specs.Prelude.{is_some}
use Rattle.kt_history.specs.declared.operation.RowOp.{RowOp}
use Rattle.kt_history.specs.declared.target.Target.{Target}
use Rattle.kt_history.specs.Rows.{Row}
use Rattle.kt_history.specs.Operations.{effect}
use Rattle.kt_histlaws.specs.Histories.{first_some, AtMostOne}
use Rattle.kt_history.specs.Stores.{Hist}
use Rattle.kt_histlaws.proofs.Fitting.{sound_raised}
use Rattle.kt_content.specs.Places.{Super, Place, memory, disk, Held, Moves, held_in, at_first, standing, row_there, row_before, needed_in, live_in, moved, OneLive}
use Rattle.kt_content.specs.KeyOps.{KeyOp, seen, played, decided, may_join, with_move, to_each, to_live}
use Rattle.kt_content.specs.Content.{Shown, NumbersDiffer, HoldsKey, IsContent, AreTold, UntoldLiveOnce, SameFrom, AboveFiles, changed_in}
use Rattle.kt_content.specs.Agreement.{OpsRise, Agree}
use Rattle.kt_content.specs.MoreOps.{PlacesDiffer, untold, told as told_of, with_op, TellsPlace, TellsOne}
use Rattle.kt_content.specs.Publishing.{kept}
use Rattle.kt_content.specs.InMemory.{Stores, group, hist_at}
use Rattle.kt_records.specs.declared.entry.Entry.TheVariants.{Replicate, Commit}
use Rattle.kt_records.specs.declared.entry.CommitRow.{CommitRow}
use Rattle.kt_content.specs.Records.{RowsTell}
use Rattle.kt_content.specs.Lending.{a_name_stays_true, a_fate_goes_on, RestsNot, RowsRestNot, NotEarly, Fate, AllFates, with_changes, OverTo, Known, KeyOver, KeyLent, a_key_may_be_lent, MayBeLent, a_job_may_be_lent}
use Rattle.kt_content.specs.Lending.Known.{settled, pending, taken}
use Rattle.kt_content.specs.Lending.Fate.{apart, covered, doubled, stays}
use Rattle.kt_content.proofs.Agreement.{plays_agree, standing-moved}
use Rattle.kt_content.proofs.Recovering.{tells_alike}
use Rattle.kt_history.specs.History.{Past, raise}
use Rattle.kt_histlaws.specs.Histories.{past_hist}
use Rattle.kt_records.specs.declared.entry.Entry.{Entry}
use Rattle.kt_journal.specs.Log.{IsLog}
use Rattle.kt_loglaws.specs.Replay.{last_of}
use Rattle.kt_loglaws.specs.Fronts.{with_records}
use Rattle.kt_content.specs.Recovering.{AllTrue}
use Rattle.kt_content.proofs.MoreOps.{none_in, live_first, all_before, before_is, operation_more, true_names, stay-played, played-append, then_played}
use Rattle.kt_content.proofs.Seen.{seen_rise, first_differ}
use Rattle.kt_content.proofs.Replacing.{each_key_held, raised_is_one}
use Rattle.kt_content.proofs.RunEvents.{last_above, told_is_true}
use Rattle.kt_content.proofs.LentParts.{was as was_all, follows, same_is_recovered}
use Rattle.kt_content.proofs.Publishing.{shows_later}
use Rattle.kt_content.proofs.InMemory.{row_there_is}
use Rattle.kt_content.proofs.LiveOnce.{once_more, shown_once, all_told_once}
use Rattle.kt_content.proofs.Effects.{none_joins}
use Rattle.kt_content.proofs.Lending.{dheld, goes_over, next}
use Rattle.kt_content.proofs.NamesTell.{leaves_tell, needed_tells}
use Rattle.kt_content.proofs.AboveFiles.{more_above, later_above, above_untold}
use Rattle.kt_content.specs.Rules.{Rules}
use Rattle.kt_content.proofs.Options.{two_oks}

-- a key may be lent

fates_told : (fill : Row) (keep : Place → Bool) (old new : Super) (j : ℕ) (outs : Place → Hist) (xs : List KeyOp) (ms ns : List Moves) → AllFates fill keep old new j outs xs ms ns → AreTold xs
fates_told fill keep old new j outs [] ms ns f = tt
fates_told fill keep old new j outs (x ∷ xs) [] ns f = absurd f
fates_told fill keep old new j outs (x ∷ xs) (m ∷ ms) [] f = absurd f
fates_told fill keep old new j outs (x ∷ xs) (m ∷ ms) (n ∷ ns) f = (one f.0, fates_told fill keep old new j outs xs ms ns f.1)
  where
    one : Fate fill keep old new j outs x m n → is_some x.told ≡ true
    one (apart targets told k e now) = ap is_some told
    one (covered targets told g e now) = ap is_some told
    one (doubled targets p c row told g e k lt made now) = ap is_some told
    one (stays targets p c told g e k made now) = ap is_some told

front_told : (xs ys : List KeyOp) → AreTold (xs ++ ys) → AreTold xs
front_told [] ys t = tt
front_told (x ∷ xs) ys t = (t.0, front_told xs ys t.1)

agree_at : (fill : Row) (super : Super) (final : Held) (xs : List KeyOp) (x : KeyOp) (ys : List KeyOp) (ms : List Moves) → Agree fill super final (xs ++ x ∷ ys) ms → (m : Moves) × (decided fill super (standing x.ts final) x.op x.told ≡ Some m)
agree_at fill super final [] x ys [] a = absurd a
agree_at fill super final [] x ys (m ∷ ms) a = (m, a.0)
agree_at fill super final (y ∷ xs) x ys [] a = absurd a
agree_at fill super final (y ∷ xs) x ys (m ∷ ms) a = agree_at fill super final xs x ys ms a.1

pub stays_true : a_name_stays_true
stays_true fill keep old new a b stores q front behind ts op targets held shows rise dheld shown o up lt tells (inl k) =
    leaves_tell fill keep old new held o.next ts op targets dheld k.0 k.1 o.rest (rows_at ts b o.next shows o.shown lt ∙ sym (rows_at ts a held shows shown up)) (one_at ts b o.next shows o.shown lt) tells
  where
    rows_at : (ts a : ℕ) (held : Held) (shows : Hist) → Shown a held shows → a < ts → first_some (map (row_before ts) (held_in held)) ≡ row_before ts shows
    rows_at ts a held shows s up = ap first_some (all_before ts (held_in held) (omega arith)) ∙ s.shows.rows (ts - 1) (omega arith) ∙ sym (before_is ts shows (omega arith))

    one_at : (ts a : ℕ) (held : Held) (shows : Hist) → Shown a held shows → a < ts → AtMostOne (map (row_before ts) (held_in held))
    one_at ts a held shows s up = subst AtMostOne (sym (all_before ts (held_in held) (omega arith))) (s.shows.one_row (ts - 1) (omega arith))
stays_true fill keep old new a b stores q front behind ts op targets held shows rise dheld shown o up lt tells (inr p) =
    let one : AtMostOne (map (row_before ts) (held_in o.next)) = subst AtMostOne (sym (all_before ts (held_in o.next) (omega arith))) (o.shown.shows.one_row (ts - 1) (omega arith)) in
    let rows : first_some (map (row_before ts) (held_in o.next)) ≡ row_before ts shows = ap first_some (all_before ts (held_in o.next) (omega arith)) ∙ o.shown.shows.rows (ts - 1) (omega arith) ∙ sym (before_is ts shows (omega arith)) in
    let agree = plays_agree fill new 0 (at_first q new) o.next (front ++ told_of ts op targets ∷ behind) rise o.is in
    let fit = agree_at fill new o.next front (told_of ts op targets) behind agree.0 agree.2 in
    needed_tells fill new o.next ts op targets p.0 fit.0 fit.1 p.1 one (at_place p.0 p.1 fit.0 fit.1 (λ e none. none_in (live_in (standing ts o.next)) (live_first ts o.next ∙ rows ∙ p.2 e ((o.mirrors memory).rows (ts - 1) (omega arith) ∙ ap (λ r. first_some (r ∷ []))
    (sym (before_is ts (hist_at memory o.next) (omega arith)) ∙ sym (row_there_is ts memory o.next) ∙ none)))))
  where
    at_place : (p : Place) → needed_in new targets ≡ p ∷ [] → (m : Moves) → decided fill new (standing ts o.next) op (Some targets) ≡ Some m → (p ≡ memory → row_there memory (standing ts o.next) ≡ None → live_in (standing ts o.next) ≡ None)
        → row_there p (standing ts o.next) ≡ None → (p ≡ memory) × (live_in (standing ts o.next) ≡ None)
    at_place memory e m fit nowhere none = (refl, nowhere refl none)
    at_place (disk r) e m fit nowhere none = absurd (
        let made : with_move (disk r) (may_join (disk r) (effect fill op.kind op.cells (row_there (disk r) (standing ts o.next))).0) (Some []) ≡ Some m = sym (ap (to_each fill op (standing ts o.next)) e) ∙ fit in
        let same : may_join (disk r) (effect fill op.kind op.cells (row_there (disk r) (standing ts o.next))).0 ≡ None = ap (λ k. may_join (disk r) (effect fill op.kind op.cells k).0) none ∙ none_joins fill r op.kind op.cells in
        let f : with_move (disk r) None (Some []) ≡ Some m = ap (λ k. with_move (disk r) k (Some [])) (sym same) ∙ made in cc)

pub fate_on : a_fate_goes_on
fate_on keep old new stores shows ts r targets e = inr (disk r, e, λ f. absurd (cc))

pub renamed : (low : ℕ) (xs : List KeyOp) (ts : ℕ) (op : RowOp) (targets : List Target) → OpsRise low (xs ++ untold ts op ∷ []) → OpsRise low (xs ++ told_of ts op targets ∷ [])
renamed low [] ts op targets r = r
renamed low (x ∷ xs) ts op targets r = (r.0, renamed _ xs ts op targets r.1)

rise_front : (low : ℕ) (xs ys : List KeyOp) → OpsRise low (xs ++ ys) → OpsRise low xs
rise_front low [] ys r = tt
rise_front low (x ∷ xs) ys r = (r.0, rise_front _ xs ys r.1)

last_moved_of : (fill : Row) (super : Super) (ts : ℕ) (op : RowOp) (r : Result Held ℕ) (next final : Held) → r ≡ Ok next → then_played fill super (untold ts op ∷ []) r ≡ Ok final → final ≡ moved ts (to_live fill op (live_in (standing ts next))) next
last_moved_of fill super ts op r next final e f = let g : then_played fill super (untold ts op ∷ []) (Ok next) ≡ Ok final = subst (λ (x : Result Held ℕ). then_played fill super (untold ts op ∷ []) x ≡ Ok final) e f in cc

rise_before : (low : ℕ) (xs : List KeyOp) (x : KeyOp) (ys : List KeyOp) (z : KeyOp) → OpsRise low ((xs ++ x ∷ ys) ++ z ∷ []) → x.ts ≤ z.ts
rise_before low [] x ys z r = let up = last_above _ ys z r.1 in omega arith
rise_before low (w ∷ xs) x ys z r = rise_before _ xs x ys z r.1

same_shown : (m : ℕ) (held : Held) (g h : Hist) → SameFrom m g h → Shown m held g → Shown m held h
same_shown m held g h same s = record {
  shows = record { rows = λ t le. s.shows.rows t le ∙ same.rows t le; steps = λ t up. s.shows.steps t up ∙ same.steps t up; one_row = s.shows.one_row; one_step = s.shows.one_step };
  sound = s.sound;
}

later_shown : (a b : ℕ) (held : Held) (whole : Hist) → a ≤ b → Shown a held whole → Shown b held whole
later_shown a b held whole le s = record { shows = shows_later a b (held_in held) whole le s.shows; sound = sound_raised a b (held_in held) le s.sound }

module _ (fill : Row) (keep : Place → Bool) (old new : Super) (stores : Stores) (records : List Entry) (q : List ℕ) (whole : Hist)
    (log : IsLog records) (nold : NumbersDiffer old.rowsets) (nnew : NumbersDiffer new.rowsets) (rest : kept keep (at_first q new) ≡ kept keep (at_first q old))
    (others : (p : Place) → keep p ≡ true → group new p stores ≡ group old p stores) (k : KeyOver fill keep old new stores records q whole) where
  abbrev logged : List KeyOp
  logged = seen q records records

  logged_rise : OpsRise 0 logged
  logged_rise = seen_rise q records [] records log

  dold : PlacesDiffer (at_first q old)
  dold = first_differ q old nold

  dnew : PlacesDiffer (at_first q new)
  dnew = first_differ q new nnew

  pub dknown : PlacesDiffer k.held
  dknown = (stay-played fill old (at_first q old) k.held k.known dold refl k.is).0

  abbrev Over : Type 0
  Over = OverTo fill keep new k.b stores q k.known k.held k.shows

  known_rise : Known fill keep old new k.a k.b stores k.held k.shows whole logged k.known → OpsRise 0 k.known
  known_rise (settled same e) = subst (OpsRise 0) same logged_rise
  known_rise (pending ts op same lt made under) = rise_front 0 k.known (untold ts op ∷ []) (subst (OpsRise 0) same logged_rise)
  known_rise (taken front ts op targets same knows lt e tells on) = subst (OpsRise 0) (sym knows) (renamed 0 front ts op targets (subst (OpsRise 0) same logged_rise))

  -- of what is known
  pub over_known : Over
  over_known = goes_over fill keep old new k.a k.b k.low stores q k.known k.held k.shows (known_rise k.stands) dold dnew rest k.is k.shown k.mirrors others k.over k.rise k.job

  known_told : AreTold k.known
  known_told =
      let agree = plays_agree fill old 0 (at_first q old) k.held k.known (known_rise k.stands) k.is in
      let over = k.over agree.0 agree.2 in
      fates_told fill keep old new k.low (with_changes q new k.known over.moves) k.known agree.0 over.moves over.fates

  last_once : (front : List KeyOp) (ts : ℕ) (op : RowOp) (held : Held) (shows : Hist) → logged ≡ front ++ untold ts op ∷ [] → AreTold front → Shown k.b held shows → k.b < ts → UntoldLiveOnce held logged
  last_once front ts op held shows same t s lt = subst (UntoldLiveOnce held) (sym same) (once_more held front (untold ts op) t (shown_once k.b ts held shows s lt))

  -- the content, and that its rows before an operation that is known are those of what is known
  holds : Known fill keep old new k.a k.b stores k.held k.shows whole logged k.known
      → (h : HoldsKey fill new records q whole) × ((front behind : List KeyOp) (ts : ℕ) (op : RowOp) (targets : List Target) → k.known ≡ front ++ told_of ts op targets ∷ behind → standing ts h.held ≡ standing ts over_known.next)
  holds (settled same e) =
      let o = over_known in (
        record {
          held = o.next;
          is = ap (played fill new (at_first q new)) same ∙ o.is;
          shown = same_shown new.a o.next k.shows whole e (later_shown k.b new.a o.next k.shows k.mark o.shown);
          once = subst (UntoldLiveOnce o.next) (sym same) (all_told_once o.next k.known known_told);
          above = subst (AboveFiles fill q new o.next) (sym same) (k.above o.next);
        },
        λ front behind ts op targets i. refl,
      )
  holds (pending ts op same lt made under) =
      let o = over_known in
      let more = operation_more fill new k.b ts (at_first q new) o.next k.shows k.known op dnew refl o.is o.shown under lt in (
        record {
          held = more.0;
          is = ap (played fill new (at_first q new)) same ∙ more.1;
          shown = same_shown new.a more.0 (with_op fill ts op k.shows) whole made (later_shown k.b new.a more.0 (with_op fill ts op k.shows) k.mark more.2);
          once = last_once k.known ts op more.0 (with_op fill ts op k.shows) same known_told more.2 lt;
          above = subst (AboveFiles fill q new more.0) (sym same) (more_above fill q new more.0 k.known (untold ts op) (k.above more.0)
              (later_above fill q new k.b ts o.next k.shows k.known o.is o.shown under lt (changed_in fill new (standing ts more.0) op None)));
        },
        λ front behind t p targets i. (let down = rise_before 0 front (told_of t p targets) behind (untold ts op) (subst (λ (l : List KeyOp). OpsRise 0 (l ++ untold ts op ∷ [])) i (subst (OpsRise 0) same logged_rise)) in
            ap (standing t) (last_moved_of fill new ts op (played fill new (at_first q new) k.known) o.next more.0 o.is (sym (played-append fill new (at_first q new) k.known (untold ts op ∷ [])) ∙ more.1)) ∙ standing-moved t ts (to_live fill op (live_in (standing ts o.next))) o.next down),
      )
  holds (taken front ts op targets same knows lt e tells on) =
      let o = over_known in
      let r : OpsRise 0 (front ++ untold ts op ∷ []) = subst (OpsRise 0) same logged_rise in
      let o_known : OverTo fill keep new k.b stores q (front ++ told_of ts op targets ∷ []) k.held k.shows = subst (λ (l : List KeyOp). OverTo fill keep new k.b stores q l k.held k.shows) knows o in
      let o_is : played fill new (at_first q new) (front ++ told_of ts op targets ∷ []) ≡ Ok o.next = ap (played fill new (at_first q new)) (sym knows) ∙ o.is in
      let o_here : OverTo fill keep new k.b stores q (front ++ told_of ts op targets ∷ []) k.held k.shows = record { next = o.next; is = o_is; rest = o.rest; shown = o.shown; mirrors = o.mirrors } in
      let above : k.a < ts = let up = k.rise in omega arith in
      let now : TellsPlace fill new o.next ts op targets = stays_true fill keep old new k.a k.b stores q front [] ts op targets k.held k.shows (renamed 0 front ts op targets r) dknown k.shown o_here above lt tells on in (
        record {
          held = o.next;
          is = ap (played fill new (at_first q new)) same ∙ (true_names fill new 0 (at_first q new) o.next front ts op targets [] r now).1 o_is;
          shown = same_shown new.a o.next k.shows whole e (later_shown k.b new.a o.next k.shows k.mark o.shown);
          once = last_once front ts op o.next k.shows same (front_told front (told_of ts op targets ∷ []) (subst AreTold knows known_told)) o.shown lt;
          above = subst (AboveFiles fill q new o.next) (sym same)
              (above_untold fill q new o.next ts op targets now front [] (subst (AboveFiles fill q new o.next) knows (k.above o.next)));
        },
        λ front behind ts op targets i. refl,
      )

  pub lent : KeyLent fill keep new k.b stores records q whole k.known k.held k.shows
  lent = record { holds = (holds k.stands).0; over = over_known }

  -- the content under the old superblock has the rows of what is known before an operation that is known
  held_before : (front behind : List KeyOp) (t : ℕ) (p : RowOp) (targets : List Target) → k.known ≡ front ++ told_of t p targets ∷ behind
      → Known fill keep old new k.a k.b stores k.held k.shows whole logged k.known → (held : Held) → played fill old (at_first q old) logged ≡ Ok held → standing t held ≡ standing t k.held
  held_before front behind t p targets i (settled same e) held is = ap (standing t) (two_oks (played fill old (at_first q old) k.known) held k.held (ap (played fill old (at_first q old)) (sym same) ∙ is) k.is)
  held_before front behind t p targets i (pending ts op same lt made under) held is =
      let down = rise_before 0 front (told_of t p targets) behind (untold ts op) (subst (λ (l : List KeyOp). OpsRise 0 (l ++ untold ts op ∷ [])) i (subst (OpsRise 0) same logged_rise)) in
      ap (standing t) (last_moved_of fill old ts op (played fill old (at_first q old) k.known) k.held held k.is (sym (played-append fill old (at_first q old) k.known (untold ts op ∷ [])) ∙ ap (played fill old (at_first q old)) (sym same) ∙ is))
      ∙ standing-moved t ts (to_live fill op (live_in (standing ts k.held))) k.held down
  held_before front behind t p targets i (taken before ts op names same knows lt e tells on) held is =
      let r : OpsRise 0 (before ++ untold ts op ∷ []) = subst (OpsRise 0) same logged_rise in
      let back : played fill old (at_first q old) (before ++ untold ts op ∷ []) ≡ Ok k.held =
      (true_names fill old 0 (at_first q old) k.held before ts op names [] r tells).1 (ap (played fill old (at_first q old)) (sym knows) ∙ k.is) in
      ap (standing t) (two_oks (played fill old (at_first q old) (before ++ untold ts op ∷ [])) held k.held (ap (played fill old (at_first q old)) (sym same) ∙ is) back)

  -- a COMMIT on which the outputs do not rest
  pub row_is_true : (was : HoldsKey fill old records q whole) (ts : ℕ) (op : RowOp) (targets : List Target) → RestsNot keep old new k.a k.b stores k.shows k.known ts op targets
      → ((held : Held) → played fill old (at_first q old) logged ≡ Ok held → TellsOne fill old held ts op targets) → (held : Held) → played fill new (at_first q new) logged ≡ Ok held → TellsOne fill new held ts op targets
  row_is_true was ts op targets r tells held is =
      let o = over_known in
      let o_is : played fill new (at_first q new) (r.front ++ told_of ts op targets ∷ r.behind) ≡ Ok o.next = ap (played fill new (at_first q new)) (sym r.stands) ∙ o.is in
      let o_here : OverTo fill keep new k.b stores q (r.front ++ told_of ts op targets ∷ r.behind) k.held k.shows = record { next = o.next; is = o_is; rest = o.rest; shown = o.shown; mirrors = o.mirrors } in
      let known_tells : TellsPlace fill old k.held ts op targets = tells_alike fill old was.held k.held ts op targets (held_before r.front r.behind ts op targets r.stands k.stands was.held was.is) (tells was.held was.is).0 in
      let now : TellsPlace fill new o.next ts op targets =
      stays_true fill keep old new k.a k.b stores q r.front r.behind ts op targets k.held k.shows (subst (OpsRise 0) r.stands (known_rise k.stands)) dknown k.shown o_here r.mark r.later known_tells r.on in
      let h = holds k.stands in
      let same : h.0.held ≡ held = two_oks (played fill new (at_first q new) logged) h.0.held held h.0.is is in
      let rows : standing ts o.next ≡ standing ts held = sym (h.1 r.front r.behind ts op targets r.stands) ∙ ap (standing ts) same in
      (tells_alike fill new o.next held ts op targets rows now, subst OneLive rows (shown_once k.b ts o.next k.shows o.shown r.later))

pub key_lent : a_key_may_be_lent
key_lent fill keep old new stores records q whole log nold nnew rest others k = lent fill keep old new stores records q whole log nold nnew rest others k

module _ (rules : Rules) (fill : Row) (keep : Place → Bool) (old new : Super) (stores : List ℕ → Stores) (records : List Entry) (past : Past) (log : IsLog records) (c : ℕ) (content : IsContent rules fill old records c (raise past old.a))
    (m : MayBeLent rules fill keep old new stores records past) where
  pub rows_tell : (ts : ℕ) (ops : List RowOp) (rows : List CommitRow) → RowsRestNot rules fill keep old new stores records past m ts ops rows → RowsTell fill old records ts ops rows → RowsTell fill new records ts ops rows
  rows_tell ts [] [] r t = tt
  rows_tell ts [] (row ∷ rows) r t = absurd r
  rows_tell ts (op ∷ ops) [] r t = absurd r
  rows_tell ts (op ∷ ops) (row ∷ rows) r t = (
    λ held is. row_is_true fill keep old new (stores op.key) records op.key (past_hist op.key (raise past old.a)) log content.numbers m.numbers (m.rest op.key) (m.others op.key) (m.keys op.key) (content.keys op.key) ts op row.targets r.0 t.0 held is,
    rows_tell ts ops rows r.1 t.1,
  )

  pub run_is_true : (low high : ℕ) (front run : List Entry) → NotEarly rules fill keep old new stores records past m high front run → AllTrue fill old records low front run → AllTrue fill new records high front run
  run_is_true low high front [] n t = tt
  run_is_true low high front (Replicate ts ops ∷ run) n t = (n.0, t.1, t.2, run_is_true ts ts (front ++ Replicate ts ops ∷ []) run n.1 t.3)
  run_is_true low high front (Commit ts rows ∷ run) n t =
      let same : t.0.ops ≡ n.0.0 = (let f : Some t.0.ops ≡ Some n.0.0 = sym t.0.stands ∙ n.0.1 in cc) in
      (record { ops = n.0.0; stands = n.0.1; tells = rows_tell ts n.0.0 rows n.0.2 (subst (λ (o : List RowOp). RowsTell fill old records ts o rows) same t.0.tells) }, run_is_true low high (front ++ Commit ts rows ∷ []) run n.1 t.1)

pub job_lent : a_job_may_be_lent
job_lent rules fill keep old new durable run low high j past stores log r m l n =
    let all = durable ++ run in
    let whole = raise (with_records fill past run) old.a in
    let content = was_all rules fill old new durable run low high j past log r l in
    let key : (q : List ℕ) → KeyLent fill keep new ((m.keys q).b) (stores q) all q (past_hist q whole) ((m.keys q).known) ((m.keys q).held) ((m.keys q).shows) =
    λ q. key_lent fill keep old new (stores q) all q (past_hist q whole) log content.numbers m.numbers (m.rest q) (m.others q) (m.keys q) in
    let told = told_is_true rules fill old durable run (max old.c (last_of durable)) low (raise past old.a) log r.content (raised_is_one past low old.a r.ends r.marked r.low_enough) r.told in (
      same_is_recovered rules fill old new durable run low high j past log r l
          (λ is. each_key_held rules fill old new all (max old.c (last_of all)) (max new.c (last_of all)) j whole is (follows rules fill old new durable run low high j past log r l) m.numbers m.files (λ q. (key q).holds))
          (run_is_true rules fill keep old new stores all (with_records fill past run) log (max old.c (last_of all)) content m low high durable run n told),
      key,
    )
