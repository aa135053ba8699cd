-- Each event keeps what can be recovered.
use Rattle.std.proofs.Common.{◌≡◌, ◌≤◌, ◌<◌, ◌-◌, ℕ, max, List, [], ◌∷◌, ◌++◌, Some, None, Option, Ok, refl, sym, ap, ◌∙◌, subst, arith, true, false, Bool, append_assoc, ◌⊎◌}
use Rattle.std.specs.Prelude.{◌==◌, is_some}
use Rattle.std.specs.Ordering.{eq_by_cmp}
use Rattle.std.specs.FinMap.Entries.{find}
use Rattle.std.proofs.lemmas.Bool.{ne_eqb}
use Rattle.std.proofs.lemmas.Bool.Decides.{nat_tests}
use Rattle.std.proofs.lemmas.List.{append-nil}
use Rattle.kt_history.specs.declared.operation.RowOp.{RowOp}
use Rattle.kt_history.specs.declared.target.Target.{Target}
use Rattle.kt_history.specs.Rows.{Row, key_cmp}
use Rattle.kt_history.specs.History.{Past, IsPastUpTo, raise, rows_at}
use Rattle.kt_history.specs.Operations.{DifferentKeys, effect, effect_on, changes_on}
use Rattle.kt_records.specs.declared.entry.Entry.{Entry}
use Rattle.kt_records.specs.declared.entry.Entry.TheVariants.{Replicate, Commit}
use Rattle.kt_records.specs.declared.entry.CommitRow.{CommitRow}
use Rattle.kt_journal.specs.Log.{IsLog}
use Rattle.kt_histlaws.specs.Histories.{past_hist}
use Rattle.kt_history.specs.Stores.{Hist, Under}
use Rattle.kt_histlaws.proofs.Pending.{same_key}
use Rattle.kt_loglaws.specs.Replay.{last_of}
use Rattle.kt_loglaws.specs.Laws.{with_ops}
use Rattle.kt_loglaws.specs.Fronts.{with_records}
use Rattle.kt_content.specs.Places.{Super, Held, Moves, memory, at_first, standing, row_before, live_in, moved, needed_in, places_of}
use Rattle.kt_content.specs.KeyOps.{KeyOp, seen, played, to_live}
use Rattle.kt_content.specs.Content.{Shown, AreTold, SameFrom}
use Rattle.kt_content.specs.Agreement.{OpsRise}
use Rattle.kt_content.specs.MoreOps.{PlacesDiffer, BeginsInMemory, untold, told, with_op, TellsPlace, TellsOne}
use Rattle.kt_content.specs.Records.{KeysAreTold}
use Rattle.kt_content.specs.Rules.{Rules, OpsPass}
use Rattle.kt_content.specs.InMemory.{Stores, Mirrors}
use Rattle.kt_content.specs.Recovering.{low_after}
use Rattle.kt_content.specs.RunEvents.{NamesAreTrue, NumbersAreFresh}
use Rattle.kt_content.specs.Recoverable.{Resident, names_of, Stage, KeyStands, SuperStands}
use Rattle.kt_content.specs.Recoverable.Stage.{rests, waits, applied}
use Rattle.kt_content.specs.Keeping.{begun, a_begin_keeps_a_superblock, looked, a_look_keeps_a_superblock, row_applied, IsNext, an_applied_row_keeps_a_superblock, a_row_without_a_change_keeps_a_superblock, durable_records_keep_a_superblock}
use Rattle.kt_content.proofs.Agreement.{standing-moved}
use Rattle.kt_content.proofs.MoreOps.{played-append, then_played, stay-played, differ-moved, shown_more, true_names}
use Rattle.kt_content.proofs.LiveOnce.{shown_once}
use Rattle.kt_content.proofs.Names.{names_tell}
use Rattle.kt_content.proofs.Seen.{seen_rise, first_differ}
use Rattle.kt_content.proofs.Records.{order_front, KeyOf, key_of, up_to_under, none_grown, op_grown, each_grown}
use Rattle.kt_content.proofs.Recovering.{sees_all, runs_up, replicate_recovered, become_durable, all_hold}
use Rattle.kt_content.proofs.Replacing.{raised_is_one, ops_raised}
use Rattle.kt_content.proofs.RunEvents.{names_begin}
use Rattle.kt_content.proofs.Applying.{moves, no_moves, applied_mirrors, unchanged_mirrors}
use Rattle.kt_content.proofs.FreshNumbers.{fresh_with_records}
use Rattle.kt_content.proofs.Stages.{same_before, same_with_op, before_op, up_to_with_op, up_to_more, last_same, not_told, names-row_other, names-row_same, row_true, row_below, below_more, stage_stays, key_stands_as}
use Rattle.kt_content.proofs.Options.{two_oks}

-- runs that go on

pub with_records-append : (fill : Row) (past : Past) (xs ys : List Entry) → with_records fill past (xs ++ ys) ≡ with_records fill (with_records fill past xs) ys
with_records-append fill past [] ys = refl
with_records-append fill past (Replicate ts ops ∷ xs) ys = with_records-append fill (with_ops fill past ts ops) xs ys
with_records-append fill past (Commit ts rows ∷ xs) ys = with_records-append fill past xs ys

pub low_after-append : (low : ℕ) (xs ys : List Entry) → low_after low (xs ++ ys) ≡ low_after (low_after low xs) ys
low_after-append low [] ys = refl
low_after-append low (Replicate ts ops ∷ xs) ys = low_after-append ts xs ys
low_after-append low (Commit ts rows ∷ xs) ys = low_after-append low xs ys

-- what stands under a superblock
module _ (rules : Rules) (fill : Row) (super : Super) (durable run : List Entry) (past : Past) (live : Resident) (s : SuperStands rules fill super durable run past live) where
  abbrev whole : Past
  whole = with_records fill past run

  runs : IsPastUpTo (low_after s.low run) whole × (s.low ≤ low_after s.low run) × (whole.mark ≡ past.mark)
  runs = runs_up fill super s.low durable past run s.recovered.told s.recovered.ends

  mark_low : super.a ≤ low_after s.low run
  mark_low = let a = s.recovered.low_enough in let b = runs.1 in omega arith

  later_mark : whole.mark ≤ super.a
  later_mark = let a = s.recovered.marked in let b = runs.2 in omega arith

  told_from : IsPastUpTo (low_after s.low run) (raise whole super.a)
  told_from = raised_is_one whole (low_after s.low run) super.a runs.0 later_mark mark_low

-- a write begins

begun_other : (live : Resident) (ts : ℕ) (q : List ℕ) (t : ℕ) → live.last < ts → t ≤ live.last → names_of (begun ts live).named q t ≡ names_of live.named q t
begun_other live ts q t lt le = let other : (ts == t) ≡ false = ne_eqb ts t (λ e. omega arith) in rw other refl

begun_same : (live : Resident) (ts : ℕ) (q : List ℕ) → names_of (begun ts live).named q ts ≡ None
begun_same live ts q = let same : (ts == ts) ≡ true = grind (arith, nat_tests) in rw same refl

begin_apart : (fill : Row) (super : Super) (live : Resident) (records all : List Entry) (q : List ℕ) (whole later : Hist) (ts : ℕ) → live.last < ts → seen q all all ≡ seen q records records → later ≡ whole
    → KeyStands fill super live records q whole → KeyStands fill super (begun ts live) all q later
begin_apart fill super live records all q whole later ts lt sees same k =
    key_stands_as fill super live (begun ts live) records all q whole later k k.mirrors (up_to_more live.last ts k.shows.steps (omega arith) k.up)
    (subst (λ (l : List KeyOp). Stage fill super k.mark (begun ts live) q k.held k.shows later l k.known) (sym sees)
    (subst (λ (w : Hist). Stage fill super k.mark (begun ts live) q k.held k.shows w (seen q records records) k.known) (sym same)
    (stage_stays fill super k.mark live (begun ts live) q k.held k.shows whole (seen q records records) k.known (omega arith) (λ front t op is le. begun_other live ts q t lt le) k.stage)))

begin_on : (fill : Row) (super : Super) (live : Resident) (records all : List Entry) (q : List ℕ) (whole later : Hist) (ts : ℕ) (op : RowOp) → live.last < ts → super.a ≤ live.last
    → seen q all all ≡ seen q records records ++ untold ts op ∷ [] → AreTold (seen q records records) → later ≡ with_op fill ts op whole
    → KeyStands fill super live records q whole → KeyStands fill super (begun ts live) all q later
begin_on fill super live records all q whole later ts op lt up sees each same k =
    key_stands_as fill super live (begun ts live) records all q whole later k k.mirrors (up_to_more live.last ts k.shows.steps (omega arith) k.up) (next k.stage)
  where
    next : Stage fill super k.mark live q k.held k.shows whole (seen q records records) k.known → Stage fill super k.mark (begun ts live) q k.held k.shows later (seen q all all) k.known
    next (rests is told e) =
        waits ts op (sees ∙ ap (λ l. l ++ untold ts op ∷ []) is) (subst AreTold is told) (let a = k.low in omega arith) (omega arith) (omega arith) (begun_same live ts q)
        (up_to_under live.last ts k.shows.steps k.up lt) (subst (λ (h : Hist). SameFrom super.a (with_op fill ts op k.shows) h) (sym same) (same_with_op fill super.a ts op k.shows whole (omega arith) e))
    next (waits t o is told l u at none under e) = absurd (not_told k.known t o [] (subst AreTold is each))
    next (applied front t o targets is knows told l u at some tells e) = absurd (not_told front t o [] (subst AreTold is each))

module _ (rules : Rules) (fill : Row) (super : Super) (durable run : List Entry) (past : Past) (live : Resident) (ts : ℕ) (ops : List RowOp) (log : IsLog (durable ++ (run ++ Replicate ts ops ∷ [])))
    (s : SuperStands rules fill super durable run past live) (lt : live.last < ts) (keys : DifferentKeys ops) (each : KeysAreTold ops (durable ++ run)) where
  abbrev records : List Entry
  records = durable ++ run

  place : records ++ Replicate ts ops ∷ [] ≡ durable ++ (run ++ Replicate ts ops ∷ [])
  place = append_assoc durable run (Replicate ts ops ∷ [])

  log_behind : IsLog (records ++ Replicate ts ops ∷ [])
  log_behind = subst (λ (l : List Entry). IsLog l) (sym place) log

  low_now : super.a ≤ live.last
  low_now = let a = s.up in let b = mark_low rules fill super durable run past live s in omega arith

  abbrev before : Past
  before = raise (with_records fill past run) super.a

  later_is : (q : List ℕ) → past_hist q (raise (with_records fill past (run ++ Replicate ts ops ∷ [])) super.a) ≡ past_hist q (with_ops fill before ts ops)
  later_is q =
      ap (λ (p : Past). past_hist q (raise p super.a)) (with_records-append fill past run (Replicate ts ops ∷ []))
      ∙ ap (past_hist q) (sym (ops_raised fill (with_records fill past run) super.a ts ops (runs rules fill super durable run past live s).0.is (let a = low_now in omega arith)))

  key_begins : (q : List ℕ) → KeyOf q ts ops → KeyStands fill super (begun ts live) (records ++ Replicate ts ops ∷ []) q (past_hist q (raise (with_records fill past (run ++ Replicate ts ops ∷ [])) super.a))
  key_begins q (KeyOf.not_there lacks none) =
      begin_apart fill super live records (records ++ Replicate ts ops ∷ []) q (past_hist q before) _ ts lt (sees_all fill super records ts ops log_behind q ∙ ap (λ l. seen q records records ++ l) none ∙ append-nil (seen q records records))
      (later_is q ∙ none_grown fill before (low_after s.low run) ts ops (told_from rules fill super durable run past live s) (let a = s.up in omega arith) keys q lacks) (s.keys q)
  key_begins q (KeyOf.there op key one every) =
      begin_on fill super live records (records ++ Replicate ts ops ∷ []) q (past_hist q before) _ ts op lt low_now (sees_all fill super records ts ops log_behind q ∙ ap (λ l. seen q records records ++ l) one)
      (subst (λ (k : List ℕ). AreTold (seen k records records)) key (every (λ (o : RowOp). AreTold (seen o.key records records)) each))
      (later_is q ∙ subst (λ (k : List ℕ). past_hist k (with_ops fill before ts ops) ≡ with_op fill ts op (past_hist k before)) key
      (op_grown fill before (low_after s.low run) ts ops (told_from rules fill super durable run past live s) (let a = s.up in omega arith) keys op
      (every (λ o. find key_cmp o.key (changes_on fill (rows_at before (ts - 1)) ops) ≡ (effect_on fill (rows_at before (ts - 1)) o).0)
      (each_grown fill before (low_after s.low run) ts ops (told_from rules fill super durable run past live s) (let a = s.up in omega arith) keys)))) (s.keys q)

  begins : OpsPass rules fill ops → SuperStands rules fill super durable (run ++ Replicate ts ops ∷ []) past (begun ts live)
  begins takes =
      let content = all_hold rules fill super durable run s.low past (order_front [] records (Replicate ts ops ∷ []) log_behind) s.recovered in
      record {
        low = s.low;
        recovered = replicate_recovered rules fill super durable run s.low past ts ops s.recovered (let a = s.up in omega arith) keys each takes;
        up = let e = low_after-append s.low run (Replicate ts ops ∷ []) in omega arith;
        below = (omega arith, below_more live.last ts live.named (omega arith) s.below);
        keys = λ q. subst (λ (l : List Entry). KeyStands fill super (begun ts live) l q (past_hist q (raise (with_records fill past (run ++ Replicate ts ops ∷ [])) super.a))) place (key_begins q (key_of q ts ops));
        names = subst (λ (l : List Entry). NamesAreTrue fill super l (begun ts live).named) place
            (tt, names_begin rules fill super records (max super.c (last_of records)) before ts ops live.named log_behind content (below_more live.last ts live.named (omega arith) s.below) s.names);
        numbers = subst (λ (l : List Entry). NumbersAreFresh super l live.names live.numbers) place (fresh_with_records super records (Replicate ts ops ∷ []) live.names live.numbers tt s.numbers);
      }

pub begin_keeps : a_begin_keeps_a_superblock
begin_keeps rules fill super durable run past live ts ops log s lt keys each takes = begins rules fill super durable run past live ts ops log s lt keys each takes

-- a scan takes a timestamp

pub look_keeps : a_look_keeps_a_superblock
look_keeps rules fill super durable run past live ts s le = record {
  low = s.low;
  recovered = s.recovered;
  up = let a = s.up in omega arith;
  below = below_more live.last ts live.named le s.below;
  keys = λ q.
      let k = s.keys q in
      let whole = past_hist q (raise (with_records fill past run) super.a) in
      key_stands_as fill super live (looked ts live) (durable ++ run) (durable ++ run) q whole whole k k.mirrors (up_to_more live.last ts k.shows.steps le k.up)
      (stage_stays fill super k.mark live (looked ts live) q k.held k.shows whole (seen q (durable ++ run) (durable ++ run)) k.known le (λ front t op is at. refl) k.stage);
  names = s.names;
  numbers = s.numbers;
}

-- a row is applied

-- what it makes of the stores, whatever they have of the key
abbrev Makes : Super → Resident → Resident → List ℕ → Hist → Row → List Target → ℕ → RowOp → Type 0
Makes super live later q whole fill targets ts op = (mark : ℕ) (held : Held) (shows : Hist) → PlacesDiffer held → BeginsInMemory held → Mirrors mark super (live.stores q) held → Shown mark held shows → Under ts shows.steps
    → mark < ts → row_before ts whole ≡ row_before ts shows
    → Mirrors mark super (later.stores q) (moved ts (to_live fill op (live_in (standing ts held))) held) × (needed_in super targets ≡ places_of (to_live fill op (live_in (standing ts held))))

-- what is known then, and that its names are true
record Taken (fill : Row) (super : Super) (later : Resident) (records : List Entry) (q : List ℕ) (whole : Hist) (targets : List Target) (ts : ℕ) (op : RowOp) : Type 0 where
  key : KeyStands fill super later records q whole
  tells : (held : Held) → played fill super (at_first q super) (seen q records records) ≡ Ok held → TellsOne fill super held ts op targets

module _ (fill : Row) (super : Super) (live later : Resident) (records : List Entry) (q : List ℕ) (whole : Hist) (targets : List Target)
    (rise : OpsRise 0 (seen q records records)) (d : PlacesDiffer (at_first q super)) (le : live.last ≤ later.last) (k : KeyStands fill super live records q whole) where
  takes_it : (ts : ℕ) (op : RowOp) → seen q records records ≡ k.known ++ untold ts op ∷ [] → AreTold k.known → k.mark < ts → super.a < ts → ts ≤ live.last → Under ts k.shows.steps
      → SameFrom super.a (with_op fill ts op k.shows) whole → names_of later.named q ts ≡ Some targets → Makes super live later q whole fill targets ts op → Taken fill super later records q whole targets ts op
  takes_it ts op is told_before lt up at under e names makes =
      let stay = stay-played fill super (at_first q super) k.held k.known d refl k.is in
      let row : row_before ts whole ≡ row_before ts k.shows = sym (same_before super.a ts (with_op fill ts op k.shows) whole up e) ∙ before_op fill ts op k.shows (omega arith) in
      let m = makes k.mark k.held k.shows stay.0 stay.1 k.mirrors k.shown under lt row in
      let ms : Moves = to_live fill op (live_in (standing ts k.held)) in
      let next : Held = moved ts ms k.held in
      let rows : standing ts next ≡ standing ts k.held = standing-moved ts ts ms k.held (omega arith) in
      let tells : TellsPlace fill super next ts op targets = names_tell fill super next ts op targets (differ-moved ts ms k.held stay.0) (m.1 ∙ ap (λ r. places_of (to_live fill op (live_in r))) (sym rows)) in
      let plays : played fill super (at_first q super) (k.known ++ untold ts op ∷ []) ≡ Ok next = played-append fill super (at_first q super) k.known (untold ts op ∷ []) ∙ ap (then_played fill super (untold ts op ∷ [])) k.is in
      let r : OpsRise 0 (k.known ++ untold ts op ∷ []) = subst (OpsRise 0) is rise in
      let shown : Shown k.mark next (with_op fill ts op k.shows) = shown_more fill k.mark ts k.held k.shows op stay.0 stay.1 k.shown under lt in
      record {
        key = record {
          mark = k.mark;
          low = k.low;
          known = k.known ++ told ts op targets ∷ [];
          held = next;
          shows = with_op fill ts op k.shows;
          is = (true_names fill super 0 (at_first q super) next k.known ts op targets [] r tells).0 plays;
          shown = shown;
          mirrors = m.0;
          up = up_to_with_op fill later.last ts op k.shows (up_to_more live.last later.last k.shows.steps le k.up) (omega arith);
          stage = applied k.known ts op targets is refl told_before lt up (omega arith) names tells e;
        };
        tells = λ held h. subst (λ (f : Held). TellsOne fill super f ts op targets) (two_oks (played fill super (at_first q super) (seen q records records)) next held (ap (played fill super (at_first q super)) is ∙ plays) h)
            (tells, shown_once k.mark ts next (with_op fill ts op k.shows) shown lt);
      }

  taken : (front : List KeyOp) (ts : ℕ) (op : RowOp) → seen q records records ≡ front ++ untold ts op ∷ [] → names_of live.named q ts ≡ None → names_of later.named q ts ≡ Some targets
      → Makes super live later q whole fill targets ts op → Taken fill super later records q whole targets ts op
  taken front ts op last none names makes = from k.stage
    where
      from : Stage fill super k.mark live q k.held k.shows whole (seen q records records) k.known → Taken fill super later records q whole targets ts op
      from (rests is told e) = absurd (not_told front ts op [] (subst AreTold last told))
      from (waits t o is told lt up at unnamed under e) =
          let same = last_same k.known front (untold t o) (untold ts op) (sym is ∙ last) in
          subst (λ (x : KeyOp). Taken fill super later records q whole targets x.ts x.op) same.1
          (takes_it t o is told lt up at under e (subst (λ (x : KeyOp). names_of later.named q x.ts ≡ Some targets) (sym same.1) names)
          (subst (λ (x : KeyOp). Makes super live later q whole fill targets x.ts x.op) (sym same.1) makes))
      from (applied before t o named is knows told lt up at some tells e) =
          let same = last_same before front (untold t o) (untold ts op) (sym is ∙ last) in
          absurd (let f : Some named ≡ None = sym (subst (λ (x : KeyOp). names_of live.named q x.ts ≡ Some named) same.1 some) ∙ none in cc)

module _ (rules : Rules) (fill : Row) (super : Super) (durable run : List Entry) (past : Past) (live : Resident) (ts : ℕ) (op : RowOp) (row : CommitRow) (stores : List ℕ → Stores) (log : IsLog (durable ++ run))
    (s : SuperStands rules fill super durable run past live) (n : IsNext (durable ++ run) live ts op) where
  abbrev later : Resident
  later = row_applied ts op row stores live

  abbrev history : List ℕ → Hist
  history q = past_hist q (raise (with_records fill past run) super.a)

  row_keeps : Makes super live later op.key (history op.key) fill row.targets ts op → ((q : List ℕ) → eq_by_cmp key_cmp q op.key ≡ false → stores q ≡ live.stores q)
      → SuperStands rules fill super durable run past later
  row_keeps makes others =
      let here = taken fill super live later (durable ++ run) op.key (history op.key) row.targets (seen_rise op.key (durable ++ run) [] (durable ++ run) log) (first_differ op.key super s.recovered.content.numbers) (omega arith) (s.keys op.key)
      n.front ts op n.last n.unnamed (names-row_same fill super (durable ++ run) live.named ts op row n.flying s.names n.flies n.unnamed) makes in
      record {
        low = s.low;
        recovered = s.recovered;
        up = s.up;
        below = row_below live.last ts op row live.named s.below;
        keys = λ q. key q here (eq_by_cmp key_cmp q op.key) refl;
        names = row_true fill super (durable ++ run) live.named ts op row s.names here.tells;
        numbers = s.numbers;
      }
    where
      key : (q : List ℕ) → Taken fill super later (durable ++ run) op.key (history op.key) row.targets ts op → (b : Bool) → eq_by_cmp key_cmp q op.key ≡ b → KeyStands fill super later (durable ++ run) q (history q)
      key q here true e = subst (λ (k : List ℕ). KeyStands fill super later (durable ++ run) k (history k)) (sym (same_key q op.key e)) here.key
      key q here false e =
          let k = s.keys q in
          key_stands_as fill super live later (durable ++ run) (durable ++ run) q (history q) (history q) k
          (subst (λ (st : Stores). Mirrors k.mark super st k.held) (sym (others q e)) k.mirrors) k.up
          (stage_stays fill super k.mark live later q k.held k.shows (history q) (seen q (durable ++ run) (durable ++ run)) k.known (omega arith)
          (λ front t o is le. names-row_other fill super (durable ++ run) live.named ts op row q t s.names e) k.stage)

pub row_applied_keeps : an_applied_row_keeps_a_superblock
row_applied_keeps rules fill super durable run past live ts op row stores log s n t =
    row_keeps rules fill super durable run past live ts op row stores log s n
    (λ mark held shows d b m shown under lt same.
    let there : (is_some (row_before ts t.h) ≡ true) ⊎ ((row_before ts shows ≡ None) × (t.p ≡ memory)) =
    subst (λ (r : Option Row). (is_some (row_before ts t.h) ≡ true) ⊎ ((r ≡ None) × (t.p ≡ memory))) same t.live_there in
    let made : (effect fill op.kind op.cells (row_before ts shows)).0 ≡ Some t.c = subst (λ (r : Option Row). (effect fill op.kind op.cells r).0 ≡ Some t.c) same t.made in
    let goes = moves fill mark ts super (live.stores op.key) held shows op d b m shown under lt t.n t.h t.p t.c t.is t.stands t.one made there in (
      subst (λ (st : Stores). Mirrors mark super st (moved ts (to_live fill op (live_in (standing ts held))) held)) (sym t.taken)
          (applied_mirrors fill mark ts super (live.stores op.key) held shows t.n t.h t.p op t.c d b m shown under lt t.is t.stands t.one there made),
      t.needs ∙ ap places_of (sym goes.0),
    )) t.others

pub row_without_keeps : a_row_without_a_change_keeps_a_superblock
row_without_keeps rules fill super durable run past live ts op row log s n none needs =
    row_keeps rules fill super durable run past live ts op row live.stores log s n
    (λ mark held shows d b m shown under lt same.
    let nothing : (effect fill op.kind op.cells (row_before ts shows)).0 ≡ None = subst (λ (r : Option Row). (effect fill op.kind op.cells r).0 ≡ None) same none in (
      unchanged_mirrors fill mark ts super (live.stores op.key) held shows op d b m shown under lt nothing,
      needs ∙ ap places_of (sym (no_moves fill mark ts super (live.stores op.key) held shows op d b m shown under lt nothing)),
    )) (λ q e. refl)

-- records become durable

pub durable_keeps : durable_records_keep_a_superblock
durable_keeps rules fill super durable out queued past live log s =
    let place : durable ++ (out ++ queued) ≡ (durable ++ out) ++ queued = sym (append_assoc durable out queued) in
    let same : with_records fill past (out ++ queued) ≡ with_records fill (with_records fill past out) queued = with_records-append fill past out queued in
    record {
      low = low_after s.low out;
      recovered = become_durable rules fill super durable out queued s.low past log s.recovered;
      up = subst (λ n. n ≤ live.last) (low_after-append s.low out queued) s.up;
      below = s.below;
      keys = λ q. subst (λ (p : Past). KeyStands fill super live ((durable ++ out) ++ queued) q (past_hist q (raise p super.a))) same
          (subst (λ (l : List Entry). KeyStands fill super live l q (past_hist q (raise (with_records fill past (out ++ queued)) super.a))) place (s.keys q));
      names = subst (λ (l : List Entry). NamesAreTrue fill super l live.named) place s.names;
      numbers = subst (λ (l : List Entry). NumbersAreFresh super l live.names live.numbers) place s.numbers;
    }
