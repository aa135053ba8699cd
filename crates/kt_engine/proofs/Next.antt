-- The next row of a flying write, in the words of what can be recovered: its operation is the last of its key in the log; the store that takes its change
-- stands for a place; and what is noted of it tells what became of it.
use Rattle.std.proofs.Common.{◌≡◌, ℕ, suc, zero, ◌-◌, ◌<◌, List, [], ◌∷◌, ◌++◌, length, map, Some, None, Option, is_some, refl, sym, true, false, ◌||◌, cond, ap, ◌∙◌, subst, arith, inl, inr}
use Rattle.std.specs.Prelude.{◌==◌, slice_get, take}
use Rattle.std.specs.FinMap.Entries.{find}
use Rattle.std.specs.Ordering.{eq_by_cmp}
use Rattle.std.proofs.lemmas.List.{length-map}
use Rattle.kt_history.specs.declared.change.Change.{Change}
use Rattle.kt_history.specs.declared.change.Outcome.{Outcome}
use Rattle.kt_history.specs.declared.change.Outcome.TheVariants.{Done}
use Rattle.kt_history.specs.declared.operation.OpKind.{OpKind}
use Rattle.kt_history.specs.declared.operation.OpKind.TheVariants.{Insert, Upsert, Update, Delete, InsertIgnore, UpdateIgnore, DeleteIgnore}
use Rattle.kt_history.specs.declared.operation.RowOp.{RowOp}
use Rattle.kt_history.specs.declared.target.Target.{Target}
use Rattle.kt_history.specs.Rows.{Row, key_cmp}
use Rattle.kt_history.specs.History.{Past, IsPast, raise, rows_at}
use Rattle.kt_history.specs.Machine.{State}
use Rattle.kt_history.specs.Operations.{effect, effect_on, DifferentKeys}
use Rattle.kt_history.specs.Stores.{Store, Hist, hist_in, row_of, Under}
use Rattle.kt_history.proofs.RowLaws.{rows_at-raise}
use Rattle.kt_records.specs.declared.entry.Entry.{Entry}
use Rattle.kt_records.specs.declared.entry.Entry.TheVariants.{Replicate, Commit}
use Rattle.kt_records.specs.declared.entry.CommitRow.{CommitRow}
use Rattle.kt_journal.specs.Order.{waiting, newest_first}
use Rattle.kt_journal.specs.Log.{IsLog}
use Rattle.kt_loglaws.specs.Replay.{commit_of}
use Rattle.kt_loglaws.specs.Fronts.{with_records}
use Rattle.kt_loglaws.proofs.LogOrder.{same, Lacks, lacks_around, above_behind, no_commit_yet, commit_of-append}
use Rattle.kt_histlaws.specs.Core.{Core, Stands, flown_by, live, run_past}
use Rattle.kt_histlaws.specs.Events.{advance, IsNextOp, pushed_if}
use Rattle.kt_histlaws.specs.Flights.{AllFly, AllUnder}
use Rattle.kt_histlaws.specs.Histories.{hists, past_hist, on_nth, pushed}
use Rattle.kt_histlaws.specs.Pending.{Aloft, has_key}
use Rattle.kt_histlaws.proofs.Applied.{applies}
use Rattle.kt_histlaws.proofs.Applying.{row-past, row-settled}
use Rattle.kt_histlaws.proofs.Pending.{same_key, itself, hists-pushed_same, hists-pushed_other}
use Rattle.kt_histlaws.proofs.Shown.{in_order, at_most_one}
use Rattle.kt_content.specs.Places.{Super, needed_in, row_before}
use Rattle.kt_content.specs.KeyOps.{KeyOp, op_on, seen}
use Rattle.kt_content.specs.MoreOps.{untold}
use Rattle.kt_content.specs.Rules.{Rules}
use Rattle.kt_content.specs.RunEvents.{Named, Numbers}
use Rattle.kt_content.specs.Recoverable.{row_names, names_in, names_of, KeyStands, SuperStands}
use Rattle.kt_content.specs.Keeping.{IsNext, TakesRow, with_row}
use Rattle.kt_content.specs.Successors.{place_named}
use Rattle.kt_content.proofs.Keeping.{row_applied_keeps, row_without_keeps}
use Rattle.kt_content.proofs.MoreOps.{before_is}
use Rattle.kt_content.proofs.NextOp.{next_of}
use Rattle.kt_content.proofs.Records.{stands_at}
use Rattle.kt_content.proofs.Recovering.{runs_up}
use Rattle.kt_content.proofs.Replacing.{is_past_raised}
use Rattle.kt_content.proofs.Seen.{seen-append}
use Rattle.kt_stores.specs.Shelf.{place_of}
use Rattle.kt_tablet.specs.Rows.{targets_of, commit_row}
use Rattle.kt_tablet.proofs.Targets.{taken_live}
use Rattle.kt_engine.specs.Logged.{Waits, AreApart, LogStands, KeepsFrom}
use Rattle.kt_engine.specs.Memory.{name_of, by_name, named_write, named_writes, resident, IsNamed, AreNamed}
use Rattle.kt_engine.proofs.Lists.{all_at, beside_it}
use Rattle.kt_engine.proofs.Memory.{name_found, name_joined, one_grouped, HasItsPlace, its_place, first_place, named_applied, named_there}
use Rattle.kt_engine.proofs.Waiting.{or_true}

-- ---- its write waits for its COMMIT

none_stays : (ts : ℕ) (before records : List Entry) → Lacks ts records → waiting ts before ≡ None → waiting ts (newest_first before records) ≡ None
none_stays ts before [] lacks h = h
none_stays ts before (Replicate t o ∷ records) lacks h = none_stays ts (Replicate t o ∷ before) records lacks.1 (rw lacks.0 h)
none_stays ts before (Commit t rows ∷ records) lacks h =
    none_stays ts (Commit t rows ∷ before) records lacks (elim (t == ts) as (λ b. cond b None (waiting ts before) ≡ None) [ true ↦ refl | false ↦ h ])

still_waits : (ts n : ℕ) (before records : List Entry) → Lacks ts records → waiting ts (newest_first before records) ≡ Some n → commit_of ts records ≡ None
still_waits ts n before [] lacks h = refl
still_waits ts n before (Replicate t o ∷ records) lacks h = still_waits ts n (Replicate t o ∷ before) records lacks.1 h
still_waits ts n before (Commit t rows ∷ records) lacks h = elim (t == ts) as (λ b. (t == ts) ≡ b → cond b (Some rows) (commit_of ts records) ≡ None) [
  | true ↦ λ e. absurd (let none : waiting ts (newest_first (Commit t rows ∷ before) records) ≡ None = none_stays ts (Commit t rows ∷ before) records lacks (rw e refl) in let no : Some n ≡ None = sym h ∙ none in cc)
  | false ↦ λ e. still_waits ts n (Commit t rows ∷ before) records lacks h
] refl

newest_join : (before xs ys : List Entry) → newest_first before (xs ++ ys) ≡ newest_first (newest_first before xs) ys
newest_join before [] ys = refl
newest_join before (x ∷ xs) ys = newest_join (x ∷ before) xs ys

not_committed : (xs ys : List Entry) (ts n : ℕ) (ops : List RowOp) → IsLog (xs ++ Replicate ts ops ∷ ys) → waiting ts (newest_first [] (xs ++ Replicate ts ops ∷ ys)) ≡ Some n → commit_of ts (xs ++ Replicate ts ops ∷ ys) ≡ None
not_committed xs ys ts n ops log waits =
    let lacks : Lacks ts ys = (lacks_around ts [] [] ys (above_behind [] xs ts ops ys log)).1 in
    let behind : commit_of ts ys ≡ None = still_waits ts n (Replicate ts ops ∷ newest_first [] xs) ys lacks (ap (waiting ts) (sym (newest_join [] xs (Replicate ts ops ∷ ys))) ∙ waits) in
    commit_of-append ts xs (Replicate ts ops ∷ ys) behind ∙ no_commit_yet [] xs ts ops ys refl log

-- ---- its operation

key_in : (n : ℕ) (ops : List RowOp) (op : RowOp) → slice_get ops n ≡ Some op → has_key op.key ops ≡ true
key_in n [] op at = absurd (let e : None ≡ Some op = at in cc)
key_in zero (o ∷ ops) op at =
    let e : o ≡ op = cc in
    ap (λ (x : RowOp). eq_by_cmp key_cmp op.key x.key || has_key op.key ops) e ∙ ap (λ b. b || has_key op.key ops) (itself op.key)
key_in (suc n) (o ∷ ops) op at = or_true (eq_by_cmp key_cmp op.key o.key) (has_key op.key ops) (key_in n ops op at)

other_key : (o : RowOp) (n : ℕ) (ops : List RowOp) (op : RowOp) → has_key o.key ops ≡ false → slice_get ops n ≡ Some op → eq_by_cmp key_cmp op.key o.key ≡ false
other_key o n ops op lacks at = elim (eq_by_cmp key_cmp op.key o.key) as (λ b. eq_by_cmp key_cmp op.key o.key ≡ b → b ≡ false) [
  | true ↦ λ e. absurd (let there : has_key o.key ops ≡ true = ap (λ q. has_key q ops) (sym (same_key op.key o.key e)) ∙ key_in n ops op at in let no : true ≡ false = sym there ∙ lacks in cc)
  | false ↦ λ e. refl
] refl

op_there : (n ts : ℕ) (ops : List RowOp) (op : RowOp) → DifferentKeys ops → slice_get ops n ≡ Some op → op_on op.key ts ops None ≡ untold ts op ∷ []
op_there n ts [] op differ at = absurd (let e : None ≡ Some op = at in cc)
op_there zero ts (o ∷ ops) op differ at =
    let e : o ≡ op = cc in
    ap (λ b. cond b (untold ts o ∷ []) (op_on op.key ts ops None)) (ap (λ (x : RowOp). eq_by_cmp key_cmp op.key x.key) e ∙ itself op.key) ∙ ap (λ (x : RowOp). untold ts x ∷ []) e
op_there (suc n) ts (o ∷ ops) op differ at =
    ap (λ b. cond b (untold ts o ∷ []) (op_on op.key ts ops None)) (other_key o n ops op differ.0 at) ∙ op_there n ts ops op differ.1 at

-- no row before it has its key
not_before : (n : ℕ) (ops : List RowOp) (op : RowOp) (rows : List CommitRow) → DifferentKeys ops → slice_get ops n ≡ Some op → row_names op.key (take n ops) rows ≡ None
not_before n [] op rows differ at = absurd (let e : None ≡ Some op = at in cc)
not_before zero (o ∷ ops) op rows differ at = refl
not_before (suc n) (o ∷ ops) op [] differ at = refl
not_before (suc n) (o ∷ ops) op (r ∷ rows) differ at =
    ap (λ b. cond b (Some r.targets) (row_names op.key (take n ops) rows)) (other_key o n ops op differ.0 at) ∙ not_before n ops op rows differ.1 at

fly_keys : (fill : Row) (past : Past) (a c j : ℕ) (aloft : List Aloft) (w : Aloft) → AllFly fill past a c (map flown_by aloft) → slice_get aloft j ≡ Some w → DifferentKeys w.ops
fly_keys fill past a c j [] w fly at = absurd (let e : None ≡ Some w = at in cc)
fly_keys fill past a c zero (v ∷ aloft) w fly at = let e : v ≡ w = cc in subst (λ (x : Aloft). DifferentKeys x.ops) e fly.2
fly_keys fill past a c (suc j) (v ∷ aloft) w fly at = fly_keys fill past a c j aloft w fly.4 at

-- the one that goes on
pub record GoesOn (aloft : List Aloft) (j ts : ℕ) (op : RowOp) : Type 0 where
  pub w : Aloft
  pub at : slice_get aloft j ≡ Some w
  pub time : w.ts ≡ ts
  pub row : slice_get w.ops w.applied ≡ Some op

pub goes_on : (j : ℕ) (aloft : List Aloft) (ts : ℕ) (op : RowOp) → IsNextOp j aloft ts op → GoesOn aloft j ts op
goes_on j [] ts op next = absurd next
goes_on zero (w ∷ aloft) ts op next = record { w = w; at = refl; time = next.0; row = next.1 }
goes_on (suc j) (w ∷ aloft) ts op next = let rest = goes_on j aloft ts op next in record { w = rest.w; at = rest.at; time = rest.time; row = rest.row }

sees_op : (q : List ℕ) (ts : ℕ) (ops : List RowOp) (op : RowOp) (all xs ys : List Entry) → all ≡ xs ++ Replicate ts ops ∷ ys → commit_of ts all ≡ None → op_on q ts ops None ≡ untold ts op ∷ []
    → seen q all all ≡ seen q all xs ++ untold ts op ∷ seen q all ys
sees_op q ts ops op all xs ys is none one =
    ap (seen q all) is ∙ seen-append q all xs (Replicate ts ops ∷ ys) ∙ ap (λ o. seen q all xs ++ (op_on q ts ops o ++ seen q all ys)) none
    ∙ ap (λ (l : List KeyOp). seen q all xs ++ (l ++ seen q all ys)) one

-- It is the last of its key, it lies above the superblock's mark, and nothing is known of it yet.
is_next : (fill : Row) (super : Super) (core : Core) (names : List Target) (notes : List (List CommitRow)) (numbers : Numbers) (log : List Entry) (places : List (ℕ × ℕ)) (whole : Hist) (j : ℕ) (w : Aloft) (op : RowOp)
    → IsLog log → Waits log places w → AreApart core.aloft → slice_get core.aloft j ≡ Some w → slice_get w.ops w.applied ≡ Some op → DifferentKeys w.ops → length notes ≡ length core.aloft
    → KeyStands fill super (resident core names notes numbers) log op.key whole → IsNext log (resident core names notes numbers) w.ts op × (super.a < w.ts)
is_next fill super core names notes numbers log places whole j w op order waits apart at row differ many k =
    let rows = beside_it core.aloft notes j w many at in
    let flies = named_there j core.aloft notes w rows.0 apart at rows.1 in
    let none : names_of (named_writes core.aloft notes) op.key w.ts ≡ None = ap (names_in op.key) flies ∙ not_before w.applied w.ops op rows.0 differ row in
    let st = stands_at w.ts w.ops log waits.ops in
    let committed : commit_of w.ts log ≡ None = subst (λ (l : List Entry). commit_of w.ts l ≡ None) (sym st.2)
    (not_committed st.0 st.1 w.ts (length w.ops) w.ops (subst (λ (l : List Entry). IsLog l) st.2 order) (subst (λ (l : List Entry). waiting w.ts (newest_first [] l) ≡ Some (length w.ops)) st.2 waits.waits)) in
    let sees = sees_op op.key w.ts w.ops op log st.0 st.1 st.2 committed (op_there w.applied w.ts w.ops op differ row) in
    let next = next_of fill super (resident core names notes numbers) log op.key whole (seen op.key log st.0) (seen op.key log st.1) w.ts op sees none k in
    (record { front = next.front; last = next.last; flying = named_write w rows.0; flies = flies; unnamed = none }, next.above)

-- ---- what is noted of it

made_done : (fill : Row) (kind : OpKind) (cells : Row) (row : Option Row) (c : Change) → (effect fill kind cells row).0 ≡ Some c → (effect fill kind cells row).1 ≡ Done
made_done fill Insert cells None c e = refl
made_done fill Insert cells (Some row) c e = absurd (let no : None ≡ Some c = e in cc)
made_done fill Upsert cells None c e = refl
made_done fill Upsert cells (Some row) c e = refl
made_done fill Update cells None c e = absurd (let no : None ≡ Some c = e in cc)
made_done fill Update cells (Some row) c e = refl
made_done fill Delete cells None c e = absurd (let no : None ≡ Some c = e in cc)
made_done fill Delete cells (Some row) c e = refl
made_done fill InsertIgnore cells None c e = refl
made_done fill InsertIgnore cells (Some row) c e = absurd (let no : None ≡ Some c = e in cc)
made_done fill UpdateIgnore cells None c e = absurd (let no : None ≡ Some c = e in cc)
made_done fill UpdateIgnore cells (Some row) c e = refl
made_done fill DeleteIgnore cells None c e = absurd (let no : None ≡ Some c = e in cc)
made_done fill DeleteIgnore cells (Some row) c e = refl

some_not : {A : Type 0} {G : Type 0} (x : A) → Some x ≡ None → G
some_not x e = cc

none_told : (name : Target) (fill : Row) (kind : OpKind) (cells : Row) (row : Option Row) → (effect fill kind cells row).0 ≡ None → targets_of name (effect fill kind cells row).1 ≡ []
none_told name fill Insert cells None e = some_not _ e
none_told name fill Insert cells (Some row) e = refl
none_told name fill Upsert cells None e = some_not _ e
none_told name fill Upsert cells (Some row) e = some_not _ e
none_told name fill Update cells None e = refl
none_told name fill Update cells (Some row) e = some_not _ e
none_told name fill Delete cells None e = refl
none_told name fill Delete cells (Some row) e = some_not _ e
none_told name fill InsertIgnore cells None e = some_not _ e
none_told name fill InsertIgnore cells (Some row) e = refl
none_told name fill UpdateIgnore cells None e = refl
none_told name fill UpdateIgnore cells (Some row) e = some_not _ e
none_told name fill DeleteIgnore cells None e = refl
none_told name fill DeleteIgnore cells (Some row) e = some_not _ e

under_there : (ts : ℕ) (hs : List Hist) (i : ℕ) (h : Hist) → AllUnder ts hs → slice_get hs i ≡ Some h → Under ts h.steps
under_there ts [] i h under at = absurd (let e : None ≡ Some h = at in cc)
under_there ts (g ∷ hs) zero h under at = let e : g ≡ h = cc in subst (λ (x : Hist). Under ts x.steps) e under.0
under_there ts (g ∷ hs) (suc i) h under at = under_there ts hs i h under.1 at

-- ---- it is applied

module _ (rules : Rules) (core : Core) (super : Super) (names : List Target) (notes : List (List CommitRow)) (records run : List Entry) (places : List (ℕ × ℕ)) (from : ℕ) (first : Past) (k : KeepsFrom rules core super names notes records run from first)
    (st : Stands core) (log : LogStands core records places run) (named : AreNamed super names) (apart : AreApart core.aloft) (stored : length names ≡ length core.stores) (noted : length notes ≡ length core.aloft)
    (j : ℕ) (w : Aloft) (op : RowOp) (at : slice_get core.aloft j ≡ Some w) (next : IsNextOp j core.aloft w.ts op) (row : slice_get w.ops w.applied ≡ Some op)
    (name : Target) (there : slice_get names (place_of op.key core.stores) ≡ Some name) (outcome : Outcome) (is_outcome : outcome ≡ (effect_on core.work.fill (rows_at (run_past core) (w.ts - 1)) op).1) where
  abbrev fill : Row
  fill = core.work.fill

  abbrev past : Past
  past = with_records fill first run

  abbrev whole : Hist
  whole = past_hist op.key (raise past super.a)

  abbrev now_there : Option Row
  now_there = live core.stores op.key w.ts

  own_place : HasItsPlace super name
  own_place = its_place super name (all_at (IsNamed super) names (place_of op.key core.stores) name there named.each)

  its_next : IsNext (records ++ run) (resident core names notes k.numbers) w.ts op × (super.a < w.ts)
  its_next = is_next fill super core names notes k.numbers (records ++ run) places whole j w op log.log (all_at (Waits (records ++ run) places) core.aloft j w at log.flying) apart at row
      (fly_keys fill st.past core.a core.c j core.aloft w st.flown.fly at) noted (k.stands.keys op.key)

  past_is : run_past core ≡ st.past
  past_is = ap (λ (s : State). s.past) st.run.state

  -- the row just before it, as all records hold it, is the one that the stores have now
  before : row_before w.ts whole ≡ now_there
  before =
      let g = applies core st j w.ts op next in
      let up = runs_up fill super from records first run k.recovered.told k.recovered.ends in
      let raised : IsPast (raise past super.a) = is_past_raised past super.a up.0.is (omega (arith, up.2, k.recovered.marked)) in
      let above : super.a < w.ts = its_next.1 in
      before_is w.ts whole (omega arith) ∙ row-past (w.ts - 1) op.key (raise past super.a) raised
      ∙ ap (find key_cmp op.key) (rows_at-raise past super.a (w.ts - 1) up.0.is (omega arith) ∙ ap (λ (p : Past). rows_at p (w.ts - 1)) (k.writes ∙ past_is))
      ∙ sym g.live_is

  outcome_now : outcome ≡ (effect fill op.kind op.cells now_there).1
  outcome_now =
      let g = applies core st j w.ts op next in
      is_outcome ∙ ap (λ (r : Option Row). (effect fill op.kind op.cells r).1) (ap (λ (p : Past). find key_cmp op.key (rows_at p (w.ts - 1))) past_is ∙ sym g.live_is)

  under : AllUnder w.ts (hists op.key core.stores)
  under = let g = applies core st j w.ts op next in in_order core st op.key w.ts (g.goes.before w.ts ∙ same w.ts)

  -- the engine with it, as it is recovered
  abbrev Recovers : List Store → Type 0
  Recovers stores = SuperStands rules fill super records run first (resident (record core { aloft = on_nth j advance core.aloft; stores = stores }) names (on_nth j (λ rows. rows ++ commit_row name outcome ∷ []) notes) k.numbers)

  -- with what is known of the flying writes
  as_noted : (stores : List Store) → SuperStands rules fill super records run first
      (record { last = core.c; named = with_row w.ts op (commit_row name outcome) (named_writes core.aloft notes); stores = λ q. by_name names (hists q stores); names = map name_of names; numbers = k.numbers }) → Recovers stores
  as_noted stores s = subst (λ (ns : List Named). SuperStands rules fill super records run first (record { last = core.c; named = ns; stores = λ q. by_name names (hists q stores); names = map name_of names; numbers = k.numbers }))
      (sym (named_applied j w.ts op (commit_row name outcome) core.aloft notes apart next)) s

  -- it makes no change
  unchanged : (effect fill op.kind op.cells now_there).0 ≡ None → Recovers core.stores
  unchanged none =
      let told : (commit_row name outcome).targets ≡ [] = ap (targets_of name) outcome_now ∙ none_told name fill op.kind op.cells now_there none in
      as_noted core.stores (row_without_keeps rules fill super records run first (resident core names notes k.numbers) w.ts op (commit_row name outcome) log.log k.stands its_next.0
      (ap (λ (r : Option Row). (effect fill op.kind op.cells r).0) before ∙ none) (ap (needed_in super) told))

  -- or its change reaches the store of that name
  takes : (c : Change) → (effect fill op.kind op.cells now_there).0 ≡ Some c
      → TakesRow fill super (resident core names notes k.numbers) w.ts op (commit_row name outcome) whole (λ q. by_name names (hists q (pushed (place_of op.key core.stores) op.key w.ts c core.stores)))
  takes c made =
      let i = place_of op.key core.stores in
      let hs = hists op.key core.stores in
      let above : core.a < w.ts = (applies core st j w.ts op next).above in
      let here = beside_it names hs i name (length-map core.stores (hist_in op.key) ∙ sym stored) there in
      let h = here.0 in
      let settled : row_before w.ts h ≡ row_of w.ts h =
      before_is w.ts h (omega arith) ∙ row-settled w.ts (w.ts - 1) w.ts h.steps h.first (under_there w.ts hs i h under here.1) (omega arith) (omega arith) in
      let told : (commit_row name outcome).targets ≡ name ∷ [] = ap (targets_of name) (outcome_now ∙ made_done fill op.kind op.cells now_there c made) in
      record {
        n = name_of name;
        h = h;
        p = place_named name;
        c = c;
        stands = own_place.stands;
        is = name_found names hs i name h named.differ there here.1;
        one = one_grouped super (place_named name) (row_of (w.ts - 1)) names hs (at_most_one core st (w.ts - 1) op.key (omega arith));
        live_there = elim (taken_live op.key w.ts core.stores h under here.1) [
          | inl its_row ↦ inl (ap is_some settled ∙ its_row)
          | inr no_one ↦ inr (before ∙ no_one.0, first_place names name named.first (ap (slice_get names) (sym no_one.1) ∙ there))
        ];
        made = ap (λ (r : Option Row). (effect fill op.kind op.cells r).0) before ∙ made;
        needs = ap (needed_in super) told ∙ own_place.needed;
        taken = ap (by_name names) (hists-pushed_same i op.key w.ts c core.stores) ∙ name_joined names hs i name w.ts c named.differ there;
        others = λ q e. ap (by_name names) (hists-pushed_other i q op.key w.ts c core.stores e);
      }

  changed : (c : Change) → (effect fill op.kind op.cells now_there).0 ≡ Some c → Recovers (pushed (place_of op.key core.stores) op.key w.ts c core.stores)
  changed c made =
      let stores = pushed (place_of op.key core.stores) op.key w.ts c core.stores in
      as_noted stores (row_applied_keeps rules fill super records run first (resident core names notes k.numbers) w.ts op (commit_row name outcome) (λ q. by_name names (hists q stores)) log.log k.stands its_next.0 (takes c made))

  -- so it can be recovered with the row
  pub row_stands : (stores : List Store) → stores ≡ pushed_if (place_of op.key core.stores) op.key w.ts (effect fill op.kind op.cells now_there).0 core.stores → Recovers stores
  row_stands stores is = by (effect fill op.kind op.cells now_there).0 refl is
    where
      by : (o : Option Change) → (effect fill op.kind op.cells now_there).0 ≡ o → stores ≡ pushed_if (place_of op.key core.stores) op.key w.ts o core.stores → Recovers stores
      by None none is = subst Recovers (sym is) (unchanged none)
      by (Some c) made is = subst Recovers (sym is) (changed c made)
