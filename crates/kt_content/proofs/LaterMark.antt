-- A superblock that names what the one before it named, told from a later mark on.
use Rattle.std.proofs.Common.{◌≡◌, ◌≤◌, ℕ, max, List, [], ◌∷◌, ◌++◌, Some, None, Option, refl, sym, ap, ◌∙◌, subst, arith, cond}
use Rattle.kt_history.specs.declared.operation.RowOp.{RowOp}
use Rattle.kt_history.specs.declared.target.Target.{Target}
use Rattle.kt_history.specs.declared.target.Target.TheVariants.{Mem, Delta}
use Rattle.kt_history.specs.Rows.{Row}
use Rattle.kt_history.specs.History.{Past, raise}
use Rattle.kt_history.specs.Stores.{Hist}
use Rattle.kt_records.specs.declared.entry.Entry.{Entry}
use Rattle.kt_records.specs.declared.entry.Entry.TheVariants.{Replicate, Commit}
use Rattle.kt_records.specs.declared.entry.CommitRow.{CommitRow}
use Rattle.kt_histlaws.specs.Histories.{past_hist}
use Rattle.kt_histlaws.specs.Jobs.{AreAlike}
use Rattle.kt_histlaws.proofs.Fitting.{sound_raised}
use Rattle.kt_journal.specs.Log.{IsLog}
use Rattle.kt_loglaws.specs.Replay.{last_of}
use Rattle.kt_loglaws.specs.Fronts.{with_records}
use Rattle.kt_content.specs.Rules.{Rules}
use Rattle.kt_content.specs.Places.{Super, Place, memory, disk, Held, held_in, Standing, Moves, moved, standing, at_first, needs, and_place, needed_in, AboveRedos}
use Rattle.kt_content.specs.KeyOps.{KeyOp, seen, decided, to_each, if_fits, played}
use Rattle.kt_content.specs.Content.{SameFrom, changed_in, AboveFiles, HoldsKey, IsContent}
use Rattle.kt_content.specs.MoreOps.{with_op}
use Rattle.kt_content.specs.Records.{TellsIn, RowsTell}
use Rattle.kt_content.specs.InMemory.{Name, mem_rows, rowset, Stores, stands_for, is_at, group, hist_at}
use Rattle.kt_content.specs.Recovering.{AllTrue, IsRecovered, Lends}
use Rattle.kt_content.specs.RunEvents.{Named, NamesAreTrue}
use Rattle.kt_content.specs.Recoverable.{Resident, Stage, KeyStands}
use Rattle.kt_content.specs.Recoverable.Stage.{rests, waits, applied}
use Rattle.kt_content.specs.Keeping.{FliesAbove}
use Rattle.kt_content.specs.LaterMark.{with_marks, WritesAbove, a_later_mark_stands}
use Rattle.kt_content.proofs.Publishing.{shows_later}
use Rattle.kt_content.proofs.Recovering.{runs_up}
use Rattle.kt_content.proofs.Replacing.{raised_same, raised_is_one, each_key_held}
use Rattle.kt_content.proofs.RunEvents.{told_is_true}
use Rattle.kt_content.proofs.LentParts.{follows, same_is_recovered}
use Rattle.kt_content.proofs.Stages.{same_back, same_on, same_later}

module _ (old : Super) (a c need : ℕ) where
  abbrev new : Super
  new = with_marks old a c need

  -- ---- the same stores are needed, and stand for the same places

  same_needs : (t : Target) → needs new t ≡ needs old t
  same_needs (Mem n) = refl
  same_needs (Delta r n) = refl

  same_needed : (targets : List Target) → needed_in new targets ≡ needed_in old targets
  same_needed [] = refl
  same_needed (t ∷ targets) = ap (λ o. and_place o (needed_in new targets)) (same_needs t) ∙ ap (and_place (needs old t)) (same_needed targets)

  same_stands : (n : Name) → stands_for new n ≡ stands_for old n
  same_stands (mem_rows n) = refl
  same_stands (rowset r) = refl

  same_group : (p : Place) (xs : Stores) → group new p xs ≡ group old p xs
  same_group p [] = refl
  same_group p (x ∷ xs) =
      ap (λ o. cond (is_at p o) (x.1 ∷ group new p xs) (group new p xs)) (same_stands x.0)
      ∙ ap (λ (l : List Hist). cond (is_at p (stands_for old x.0)) (x.1 ∷ l) l) (same_group p xs)

  -- ---- so each operation does the same

  same_decided : (fill : Row) (rows : Standing) (op : RowOp) (told : Option (List Target)) → decided fill new rows op told ≡ decided fill old rows op told
  same_decided fill rows op None = refl
  same_decided fill rows op (Some targets) = ap (to_each fill op rows) (same_needed targets)

  same_played : (fill : Row) (held : Held) (xs : List KeyOp) → played fill new held xs ≡ played fill old held xs
  same_played fill held [] = refl
  same_played fill held (x ∷ xs) =
      ap (if_fits x.ts (λ (moves : Moves). played fill new (moved x.ts moves held) xs)) (same_decided fill (standing x.ts held) x.op x.told)
      ∙ elim (decided fill old (standing x.ts held) x.op x.told) as (λ (o : Option Moves). if_fits x.ts (λ (moves : Moves). played fill new (moved x.ts moves held) xs) o ≡ if_fits x.ts (λ (moves : Moves). played fill old (moved x.ts moves held) xs) o) [
        | None ↦ refl
        | Some moves ↦ same_played fill (moved x.ts moves held) xs
      ]

  same_redos : (q : List ℕ) (ts : ℕ) (places : List Place) → AboveRedos q old ts places → AboveRedos q new ts places
  same_redos q ts [] h = tt
  same_redos q ts (memory ∷ places) h = same_redos q ts places h
  same_redos q ts (disk r ∷ places) h = (h.0, same_redos q ts places h.1)

  same_changed : (fill : Row) (rows : Standing) (op : RowOp) (told : Option (List Target)) → changed_in fill new rows op told ≡ changed_in fill old rows op told
  same_changed fill rows op None = refl
  same_changed fill rows op (Some targets) = same_needed targets

  still_above : (fill : Row) (q : List ℕ) (held : Held) (xs : List KeyOp) → AboveFiles fill q old held xs → AboveFiles fill q new held xs
  still_above fill q held [] h = tt
  still_above fill q held (x ∷ xs) h = (
    subst (AboveRedos q new x.ts) (sym (same_changed fill (standing x.ts held) x.op x.told)) (same_redos q x.ts (changed_in fill old (standing x.ts held) x.op x.told) h.0),
    still_above fill q held xs h.1,
  )

  -- ---- what it holds of a key

  still_holds : (fill : Row) (records : List Entry) (q : List ℕ) (whole : Hist) → old.a ≤ a → HoldsKey fill old records q whole → HoldsKey fill new records q whole
  still_holds fill records q whole le h = record {
    held = h.held;
    is = same_played fill (at_first q old) (seen q records records) ∙ h.is;
    shown = record { shows = shows_later old.a a (held_in h.held) whole le h.shown.shows; sound = sound_raised old.a a (held_in h.held) le h.shown.sound };
    once = h.once;
    above = still_above fill q h.held (seen q records records) h.above;
  }

  -- ---- what COMMITs tell

  still_told : (fill : Row) (records : List Entry) (ts : ℕ) (op : RowOp) (targets : List Target) → TellsIn fill old records ts op targets → TellsIn fill new records ts op targets
  still_told fill records ts op targets h = λ held is.
      let t = h held (sym (same_played fill (at_first op.key old) (seen op.key records records)) ∙ is) in
      (same_decided fill (standing ts held) op (Some targets) ∙ t.0, t.1)

  rows_still_told : (fill : Row) (records : List Entry) (ts : ℕ) (ops : List RowOp) (rows : List CommitRow) → RowsTell fill old records ts ops rows → RowsTell fill new records ts ops rows
  rows_still_told fill records ts [] [] h = tt
  rows_still_told fill records ts [] (row ∷ rows) h = absurd h
  rows_still_told fill records ts (op ∷ ops) [] h = absurd h
  rows_still_told fill records ts (op ∷ ops) (row ∷ rows) h = (still_told fill records ts op row.targets h.0, rows_still_told fill records ts ops rows h.1)

  names_still_true : (fill : Row) (records : List Entry) (named : List Named) → NamesAreTrue fill old records named → NamesAreTrue fill new records named
  names_still_true fill records [] h = tt
  names_still_true fill records (n ∷ named) h = (rows_still_told fill records n.ts n.ops n.rows h.0, names_still_true fill records named h.1)

  all_still_true : (fill : Row) (all : List Entry) (low high : ℕ) (log run : List Entry) → WritesAbove high run → AllTrue fill old all low log run → AllTrue fill new all high log run
  all_still_true fill all low high log [] w h = tt
  all_still_true fill all low high log (Replicate ts ops ∷ run) w h = (w.0, h.1, h.2, all_still_true fill all ts ts (log ++ Replicate ts ops ∷ []) run w.1 h.3)
  all_still_true fill all low high log (Commit ts rows ∷ run) w h = (
    record { ops = h.0.ops; stands = h.0.stands; tells = rows_still_told fill all ts h.0.ops rows h.0.tells },
    all_still_true fill all low high (log ++ Commit ts rows ∷ []) run w h.1,
  )

  -- ---- what is known of a key

  module _ (fill : Row) (live : Resident) (records : List Entry) (q : List ℕ) (was now : Hist) (le : old.a ≤ a) (same : SameFrom a was now) (flies : FliesAbove a records q) where
    shows_now : (g : Hist) → SameFrom old.a g was → SameFrom a g now
    shows_now g e = same_on a g was now (same_later old.a a g was le e) same

    stage_now : (mark : ℕ) (held : Held) (shows : Hist) (known : List KeyOp) → Stage fill old mark live q held shows was (seen q records records) known
        → Stage fill new mark live q held shows now (seen q records records) known
    stage_now mark held shows known (rests is told e) = rests is told (shows_now shows e)
    stage_now mark held shows known (waits ts op is told lt up at none under e) = waits ts op is told lt (flies known ts op is) at none under (shows_now (with_op fill ts op shows) e)
    stage_now mark held shows known (applied front ts op targets is knows told lt up at some tells e) =
        applied front ts op targets is knows told lt (flies front ts op is) at some (same_decided fill (standing ts held) op (Some targets) ∙ tells) (shows_now shows e)

    key_now : KeyStands fill old live records q was → KeyStands fill new live records q now
    key_now k = record {
      mark = k.mark;
      low = (let b = k.low in omega arith);
      known = k.known;
      held = k.held;
      shows = k.shows;
      is = same_played fill (at_first q old) k.known ∙ k.is;
      shown = k.shown;
      mirrors = λ p. subst (λ (l : List Hist). AreAlike k.mark l (hist_at p k.held ∷ [])) (sym (same_group p (live.stores q))) (k.mirrors p);
      up = k.up;
      stage = stage_now k.mark k.held k.shows k.known k.stage;
    }

-- ---- the whole

-- what the old superblock held it holds, told from its own mark on
holds_now : (rules : Rules) (fill : Row) (old : Super) (a c need : ℕ) (durable run : List Entry) (low high : ℕ) (past : Past) (log : IsLog (durable ++ run)) (r : IsRecovered rules fill old durable run low past)
    (l : Lends old (with_marks old a c need) durable high 0 past)
    → IsContent rules fill old (durable ++ run) (max old.c (last_of (durable ++ run))) (raise (with_records fill past run) old.a)
    → IsContent rules fill (with_marks old a c need) (durable ++ run) (max c (last_of (durable ++ run))) (raise (raise (with_records fill past run) old.a) a)
holds_now rules fill old a c need durable run low high past log r l is =
    let records = durable ++ run in
    let new = with_marks old a c need in
    let whole = raise (with_records fill past run) old.a in
    each_key_held rules fill old new records (max old.c (last_of records)) (max c (last_of records)) 0 whole is (follows rules fill old new durable run low high 0 past log r l)
    is.numbers is.files (λ q. still_holds old a c need fill records q (past_hist q whole) l.mark (is.keys q))

-- and its COMMITs are true in it
true_now : (rules : Rules) (fill : Row) (old : Super) (a c need : ℕ) (durable run : List Entry) (low high : ℕ) (past : Past) → IsLog (durable ++ run) → IsRecovered rules fill old durable run low past → WritesAbove high run
    → AllTrue fill (with_marks old a c need) (durable ++ run) high durable run
true_now rules fill old a c need durable run low high past log r above =
    all_still_true old a c need fill (durable ++ run) low high durable run above
    (told_is_true rules fill old durable run (max old.c (last_of durable)) low (raise past old.a) log r.content (raised_is_one past low old.a r.ends r.marked r.low_enough) r.told)

pub later_mark_stands : a_later_mark_stands
later_mark_stands rules fill old a c need durable run high past live log s l above up flies =
    let records = durable ++ run in
    let new = with_marks old a c need in
    let whole = with_records fill past run in
    let runs = runs_up fill old s.low durable past run s.recovered.told s.recovered.ends in
    let le : old.a ≤ a = l.mark in
    let low : whole.mark ≤ old.a = let m = s.recovered.marked in let b = runs.2 in omega arith in
    let same : (q : List ℕ) → SameFrom a (past_hist q (raise whole old.a)) (past_hist q (raise whole a)) = λ q.
    same_on a (past_hist q (raise whole old.a)) (past_hist q whole) (past_hist q (raise whole a))
    (same_later old.a a (past_hist q (raise whole old.a)) (past_hist q whole) le (same_back old.a (past_hist q whole) (past_hist q (raise whole old.a)) (raised_same whole old.a q runs.0.is low)))
    (raised_same whole a q runs.0.is (omega arith)) in
    let recovered : IsRecovered rules fill new durable run high past =
    same_is_recovered rules fill old new durable run s.low high 0 past log s.recovered l (holds_now rules fill old a c need durable run s.low high past log s.recovered l)
    (true_now rules fill old a c need durable run s.low high past log s.recovered above) in (
      recovered,
      record {
        low = high;
        recovered = recovered;
        up = up;
        below = s.below;
        keys = λ q. key_now old a c need fill live records q (past_hist q (raise whole old.a)) (past_hist q (raise whole a)) le (same q) (flies q) (s.keys q);
        names = names_still_true old a c need fill records live.named s.names;
        numbers = record { rowsets = s.numbers.rowsets; records_below = s.numbers.records_below; stores = s.numbers.stores; mem = s.numbers.mem; deltas = s.numbers.deltas };
      },
    )
