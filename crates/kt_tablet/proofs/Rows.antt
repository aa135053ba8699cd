-- A row of a flying write is applied, and the write ends, as the goals of the events say it.
use Rattle.std.proofs.Common.{◌≡◌, ℕ, zero, suc, ◌+◌, ◌-◌, ◌*◌, ◌<◌, ◌≤◌, List, [], ◌∷◌, ◌++◌, Option, Some, true, Bool, refl, sym, ap, ◌∙◌, subst, arith, map, length, take, drop, length-drop, get_or}
use Rattle.std.specs.Prelude.{◌==◌, slice_get, slice_set, vec_len, vec_capacity}
use Rattle.kt_history.specs.declared.change.Outcome.{Outcome}
use Rattle.kt_history.specs.declared.operation.RowOp.{RowOp}
use Rattle.kt_history.specs.declared.target.Target.{Target}
use Rattle.kt_history.specs.History.{Past, rows_at}
use Rattle.kt_history.specs.Machine.{start, state_after}
use Rattle.kt_history.specs.Operations.{effect, effect_on, outcomes_on}
use Rattle.kt_history.specs.Rows.{Row}
use Rattle.kt_mvcc.specs.declared.flier.Flier.{Flier}
use Rattle.kt_diskrowset.specs.Rowset.{HeldFiles}
use Rattle.kt_pool.specs.Contents.{Contents}
use Rattle.kt_records.specs.declared.entry.CommitRow.{CommitRow}
use Rattle.kt_histlaws.specs.Histories.{hists, on_nth, Alone, AtMostOne}
use Rattle.kt_history.specs.Stores.{Store, row_of, share}
use Rattle.kt_histlaws.specs.Flights.{AllUnder}
use Rattle.kt_histlaws.specs.Parts.{IsOfAnother}
use Rattle.kt_histlaws.specs.Pending.{Aloft}
use Rattle.kt_histlaws.specs.Core.{Core, Stands, live}
use Rattle.kt_histlaws.specs.Events.{IsNextOp, IsOver, advance, applied, pushed_if}
use Rattle.kt_histlaws.proofs.Applied.{applies, apply_stands, outcome_told}
use Rattle.kt_histlaws.proofs.Applying.{stores_under}
use Rattle.kt_histlaws.proofs.Shown.{at_most_one}
use Rattle.kt_stores.specs.Shelf.{place_of}
use Rattle.kt_tablet.specs.Filling.{all_told}
use Rattle.kt_tablet.specs.declared.tablet.FlyingWrite.{FlyingWrite}
use Rattle.std.specs.List.{list_any, position_or_len, remove}
use Rattle.kt_tablet.specs.Rows.{IsNoted, AreNoted, commit_row, AreRecorded, AreWritten}
use Rattle.kt_tablet.specs.Views.{View, IsSound, IsReady, IsProvided, AreProvided, AreTold, Opens, rows_of, aloft_of, flier_of}
use Rattle.kt_tablet.specs.Visits.{MayApply, HasApplied, HasNoted, IsRunOutcome, IsDone, IsWritten, HasHandedOut, flight_of}
use Rattle.kt_tablet.proofs.Flights.{IsPlaceOf, of_another, placed_at, flying_one, owed_of, owed_at, flight_at, flight_on, next_at, within, owed_set, provided_set, provided_at, fliers_set, length_set, apart_set, place_own, aloft_there, notes_there, notes_set, notes_removed}
use Rattle.kt_tablet.proofs.Applying.{need_at}
use Rattle.kt_tablet.proofs.Several.{alone_at_place, place_told}
use Rattle.kt_tablet.proofs.Written.{written_at}
use Rattle.kt_tablet.proofs.Visits.{same_flight}

-- everything that the stores have of the key of the next row lies below the write, in each past that opening found
pub under_next : {C : Type 0} (readings : C → Option (List ℕ)) (view : View C) (j ts : ℕ) (op : RowOp) → IsSound readings view → IsNextOp j view.core.aloft ts op
    → (first : Past) → Opens view.opening view.mark view.core.opened first → AllUnder ts (hists op.key view.core.stores)
under_next readings view j ts op sound next first opens =
    let core = record view.core { first = first } in
    let st = sound.stands first opens in
    let g = applies core st j ts op next in
    stores_under view.core.stores view.core.aloft (on_nth j advance view.core.aloft) st.past view.core.a op.key ts st.stores.same g.above g.goes g.awaits

-- and but for the store that the row goes to none has it
pub alone_next : {C : Type 0} (readings : C → Option (List ℕ)) (view : View C) (j ts : ℕ) (op : RowOp) (fill : Row) (memory : ℕ) (stores : List Store) → IsSound readings view → view.core.stores ≡ all_told fill memory stores → IsNextOp j view.core.aloft ts op → place_of op.key stores < length stores
    → (first : Past) → Opens view.opening view.mark view.core.opened first → Alone (place_of op.key stores) (map (row_of ts) (hists op.key view.core.stores))
alone_next readings view j ts op fill memory stores sound same next low first opens =
    let core = record view.core { first = first } in
    let st = sound.stands first opens in
    let above = (applies core st j ts op next).above in
    let one = at_most_one core st ts op.key (omega (arith, above)) in
    subst (λ ss. Alone (place_of op.key stores) (map (row_of ts) (hists op.key ss))) (sym same)
    (alone_at_place fill memory op.key ts stores (subst (λ ss. AllUnder ts (hists op.key ss)) same (under_next readings view j ts op sound next first opens)) (omega (arith, low)) (subst (λ ss. AtMostOne (map (row_of ts) (hists op.key ss))) same one))

new_applied : (core : Core) (j i ts : ℕ) (op : RowOp) (aloft : List Aloft) (stores : List Store) → aloft ≡ on_nth j advance core.aloft → stores ≡ pushed_if i op.key ts (effect core.work.fill op.kind op.cells (live core.stores op.key ts)).0 core.stores
    → record core { aloft = aloft; stores = stores } ≡ applied core j i ts op
new_applied core j i ts op aloft stores flies kept = λ k. record core { aloft = flies k; stores = kept k }

pub apply_sound : {C : Type 0} {files : List HeldFiles} (readings : C → Option (List ℕ)) (view : View C) (j i ts : ℕ) (op : RowOp) (aloft : List Aloft) (stores : List Store) (names : List Target) (notes : List (List CommitRow)) (places : List (ℕ × ℕ)) (pool : Contents) (frozen : ℕ)
    → IsSound readings view → IsNextOp j view.core.aloft ts op → aloft ≡ on_nth j advance view.core.aloft → i < length view.core.stores
    → ((first : Past) → Opens view.opening view.mark view.core.opened first → Alone i (map (row_of ts) (hists op.key view.core.stores)))
    → ((first : Past) → Opens view.opening view.mark view.core.opened first → stores ≡ pushed_if i op.key ts (effect view.core.work.fill op.kind op.cells (live view.core.stores op.key ts)).0 view.core.stores)
    → IsSound readings (record view { core = record view.core { aloft = aloft; stores = stores }; names = names; notes = notes; places = places; pool = pool; frozen = frozen; files = files })
apply_sound readings view j i ts op aloft stores names notes places pool frozen sound next flies low alone kept = record {
  stands = λ first told. subst Stands (sym (new_applied (record view.core { first = first }) j i ts op aloft stores flies (kept first told)))
      (apply_stands (record view.core { first = first }) (sound.stands first told) j i ts op next low (alone first told));
  clock = sound.clock;
  plan = sound.plan;
}

-- the flying write at its place, and its next row
pub record Applying (flights : List FlyingWrite) (s at j : ℕ) (w : FlyingWrite) (op : RowOp) : Type 0 where
  pub place : IsPlaceOf s flights j
  pub here : w ≡ get_or flights j w
  pub applied : w.applied ≡ at
  pub more : at < length w.ops
  pub row : slice_get w.ops at ≡ Some op

got : (ops : List RowOp) (n : ℕ) (op : RowOp) → n < length ops → op ≡ get_or ops n op → slice_get ops n ≡ Some op
got [] n op lt is = absurd (omega (arith, lt))
got (x ∷ ops) zero op lt is = ap Some (sym is)
got (x ∷ ops) (suc n) op lt is = got ops n op (omega (arith, lt)) is

pub placed_is : (s j : ℕ) (flights shown : List FlyingWrite) (flight : Aloft) → flight_of s (map aloft_of flights) ≡ Some flight → shown ≡ flights → j ≡ position_or_len (λ f. f.who == s) shown → IsPlaceOf s flights j
placed_is s j flights shown flight flies same is = subst (IsPlaceOf s flights) (sym (is ∙ ap (position_or_len (λ f. f.who == s)) same)) (placed_at s flights (flying_one s flights flight flies))

pub any_shown : (s : ℕ) (flights shown : List FlyingWrite) (flight : Aloft) → flight_of s (map aloft_of flights) ≡ Some flight → shown ≡ flights → list_any (λ f. f.who == s) shown ≡ true
any_shown s flights shown flight flies same = ap (list_any (λ f. f.who == s)) same ∙ flying_one s flights flight flies

pub flight_is : (s j : ℕ) (flights : List FlyingWrite) (w : FlyingWrite) (flight : Aloft) → flight_of s (map aloft_of flights) ≡ Some flight → IsPlaceOf s flights j → w ≡ get_or flights j w → flight ≡ aloft_of w
flight_is s j flights w flight flies place here = same_flight flight (aloft_of w) (sym flies ∙ flight_at s flights j w place here)

pub more_at : (core : Core) (s at j : ℕ) (flights : List FlyingWrite) (w : FlyingWrite) → core.aloft ≡ map aloft_of flights → MayApply core s at → IsPlaceOf s flights j → w ≡ get_or flights j w → at < length w.ops
more_at core s at j flights w flown may place here = subst (λ f. at < length f.ops) (flight_is s j flights w may.flight (ap (flight_of s) (sym flown) ∙ may.flies) place here) may.more

pub applying : (core : Core) (s at j : ℕ) (flights : List FlyingWrite) (w : FlyingWrite) (op : RowOp) → core.aloft ≡ map aloft_of flights → MayApply core s at → IsPlaceOf s flights j → w ≡ get_or flights j w
    → op ≡ get_or w.ops at op → Applying flights s at j w op
applying core s at j flights w op flown may place here is = record {
  place = place;
  here = here;
  applied = sym (ap (λ f. f.applied) (flight_is s j flights w may.flight (ap (flight_of s) (sym flown) ∙ may.flies) place here)) ∙ may.next;
  more = more_at core s at j flights w flown may place here;
  row = got w.ops at op (more_at core s at j flights w flown may place here) is;
}

pub next_here : (flights : List FlyingWrite) (s at j : ℕ) (w : FlyingWrite) (op : RowOp) → Applying flights s at j w op → IsNextOp j (map aloft_of flights) w.ts op
next_here flights s at j w op a = next_at flights j w op (within s flights j a.place) a.here (ap (slice_get w.ops) a.applied ∙ a.row)

-- what is at one place is one
pub same_place : (flights : List FlyingWrite) (j : ℕ) (v w : FlyingWrite) → j < length flights → v ≡ get_or flights j v → w ≡ get_or flights j w → v ≡ w
same_place [] j v w lt one two = absurd (omega (arith, lt))
same_place (x ∷ flights) zero v w lt one two = one ∙ sym two
same_place (x ∷ flights) (suc j) v w lt one two = same_place flights j v w (omega (arith, lt)) one two

-- its cells and its room are there
pub record HasRoom (fill : Row) (pool : Contents) (w : FlyingWrite) (op : RowOp) : Type 0 where
  pub needs : 2 * share op ≤ pool.reserved
  pub more : w.applied < length w.ops
  pub outcomes : vec_len w.outcomes < vec_capacity w.outcomes
  pub rows : vec_len w.rows < vec_capacity w.rows

pub has_room : (fill : Row) (stopped : Bool) (flights : List FlyingWrite) (flying : List Flier) (lines room : ℕ) (pool : Contents) (s at j : ℕ) (w : FlyingWrite) (op : RowOp) → IsReady fill stopped flights flying lines room pool → Applying flights s at j w op → HasRoom fill pool w op
has_room fill stopped flights flying lines room pool s at j w op ready a =
    let lt = within s flights j a.place in
    let p = provided_at fill flights j w ready.provided lt a.here in
    let more : w.applied < length w.ops = subst (λ n. n < length w.ops) (sym a.applied) a.more in
    record {
      needs = let n = need_at w.ops w.applied op (ap (slice_get w.ops) a.applied ∙ a.row) in let h = owed_at flights j w lt a.here in let c = ready.cells in omega (arith, n, h, c);
      more = more;
      outcomes = let n = p.noted.0 in let c = p.room.0 in omega (arith, n, c, more);
      rows = let n = p.noted.1 in let c = p.room.1 in omega (arith, n, c, more);
    }

pub has_applied : {C : Type 0} (view old : View C) (s at j : ℕ) (flights : List FlyingWrite) (w : FlyingWrite) (op : RowOp) (outcome : Outcome) (aloft : List Aloft) (stores : List Store) → view ≡ old
    → view.core.aloft ≡ map aloft_of flights → Applying flights s at j w op → aloft ≡ on_nth j advance view.core.aloft
    → (AllUnder w.ts (hists op.key view.core.stores) → stores ≡ pushed_if (place_of op.key view.core.stores) op.key w.ts (effect view.core.work.fill op.kind op.cells (live view.core.stores op.key w.ts)).0 view.core.stores) → length stores ≡ length view.core.stores
    → HasApplied old.core (record view.core { aloft = aloft; stores = stores }) s at outcome
has_applied view old s at j flights w op outcome aloft stores e flown a flies kept many = subst (λ v. HasApplied v.core (record view.core { aloft = aloft; stores = stores }) s at outcome) e (record {
  j = j;
  flight = aloft_of w;
  flies = ap (flight_of s) flown ∙ flight_at s flights j w a.place a.here;
  op = op;
  next = subst (λ fs. IsNextOp j fs w.ts op) (sym flown) (next_at flights j w op (within s flights j a.place) a.here (ap (slice_get w.ops) a.applied ∙ a.row));
  row = a.row;
  core = λ k. record view.core { aloft = flies k; stores = stores };
  stores = λ under. new_applied view.core j (place_of op.key view.core.stores) w.ts op aloft stores flies (kept under);
  many = many;
  now = ap (flight_of s) (flies ∙ ap (on_nth j advance) flown) ∙ flight_on s flights j w a.place a.here;
  own = λ k ne. subst (λ fs. IsOfAnother j fs k) (sym flown) (of_another s flights j a.place k ne);
})

-- its outcome is the run's
pub run_outcome : {C : Type 0} (readings : C → Option (List ℕ)) (view old : View C) (s at j : ℕ) (flights : List FlyingWrite) (w : FlyingWrite) (op : RowOp) (outcome : Outcome) → view ≡ old → IsSound readings view
    → view.core.aloft ≡ map aloft_of flights → Applying flights s at j w op
    → ((first : Past) → Opens view.opening view.mark view.core.opened first → outcome ≡ (effect view.core.work.fill op.kind op.cells (live view.core.stores op.key w.ts)).1)
    → (first : Past) → Opens old.opening old.mark old.core.opened first → IsRunOutcome (record old.core { first = first }) s at outcome
run_outcome readings view old s at j flights w op outcome e sound flown a is =
    subst (λ v. (first : Past) → Opens v.opening v.mark v.core.opened first → IsRunOutcome (record v.core { first = first }) s at outcome) e (λ first opens. record {
      flight = aloft_of w;
      flies = ap (flight_of s) flown ∙ flight_at s flights j w a.place a.here;
      op = op;
      row = a.row;
      outcome_is = is first opens ∙ outcome_told (record view.core { first = first }) (sound.stands first opens) j w.ts op
          (subst (λ fs. IsNextOp j fs w.ts op) (sym flown) (next_at flights j w op (within s flights j a.place) a.here (ap (slice_get w.ops) a.applied ∙ a.row)));
    })

-- what is noted of one row more
take_more : (f : RowOp → Outcome) (ops : List RowOp) (n : ℕ) (op : RowOp) → slice_get ops n ≡ Some op → take (n + 1) (map f ops) ≡ take n (map f ops) ++ f op ∷ []
take_more f [] n op h = cc
take_more f (x ∷ ops) zero op h = ap (λ o. f o ∷ []) (one x op h)
  where
    one : (x op : RowOp) → Some x ≡ Some op → x ≡ op
    one x op e = cc
take_more f (x ∷ ops) (suc n) op h = let e : suc n + 1 ≡ suc (n + 1) = omega arith in ap (λ m. take m (f x ∷ map f ops)) e ∙ ap (λ os. f x ∷ os) (take_more f ops n op h)

noted_one : (fill : Row) (past : Past) (w x : FlyingWrite) (op : RowOp) (outcome : Outcome) → IsNoted fill past w
    → x ≡ record w { applied = w.applied + 1; outcomes = x.outcomes; rows = x.rows } → slice_get w.ops w.applied ≡ Some op
    → x.outcomes.items ≡ w.outcomes.items ++ outcome ∷ [] → outcome ≡ (effect_on fill (rows_at past (w.ts - 1)) op).1 → IsNoted fill past x
noted_one fill past w x op outcome noted is at outcomes run =
    subst (IsNoted fill past) (sym is) (record {
      outcomes = outcomes ∙ ap (λ os. os ++ outcome ∷ []) noted.outcomes ∙ ap (λ o. take w.applied (outcomes_on fill (rows_at past (w.ts - 1)) w.ops) ++ o ∷ []) run
          ∙ sym (take_more (λ o. (effect_on fill (rows_at past (w.ts - 1)) o).1) w.ops w.applied op at);
    })

noted_set : (fill : Row) (past : Past) (flights : List FlyingWrite) (j : ℕ) (x : FlyingWrite) → AreNoted fill past flights → IsNoted fill past x → AreNoted fill past (slice_set flights j x)
noted_set fill past [] j x all one = tt
noted_set fill past (v ∷ flights) zero x all one = (one, all.1)
noted_set fill past (v ∷ flights) (suc j) x all one = (all.0, noted_set fill past flights j x all.1 one)

noted_at : (fill : Row) (past : Past) (flights : List FlyingWrite) (j : ℕ) (w : FlyingWrite) → AreNoted fill past flights → j < length flights → w ≡ get_or flights j w → IsNoted fill past w
noted_at fill past [] j w all lt is = absurd (omega (arith, lt))
noted_at fill past (v ∷ flights) zero w all lt is = subst (IsNoted fill past) (sym is) all.0
noted_at fill past (v ∷ flights) (suc j) w all lt is = noted_at fill past flights j w all.1 (omega (arith, lt)) is

pub told_applied : {C : Type 0} (readings : C → Option (List ℕ)) (view : View C) (s at j : ℕ) (flights : List FlyingWrite) (w x : FlyingWrite) (op : RowOp) (outcome : Outcome) → IsSound readings view
    → view.core.aloft ≡ map aloft_of flights → Applying flights s at j w op
    → ((first : Past) → Opens view.opening view.mark view.core.opened first → outcome ≡ (effect view.core.work.fill op.kind op.cells (live view.core.stores op.key w.ts)).1)
    → x ≡ record w { applied = w.applied + 1; outcomes = x.outcomes; rows = x.rows } → x.outcomes.items ≡ w.outcomes.items ++ outcome ∷ []
    → AreTold view.core.work view.opening view.mark view.core.opened view.core.trail flights
    → AreTold view.core.work view.opening view.mark view.core.opened view.core.trail (slice_set flights j x)
told_applied readings view s at j flights w x op outcome sound flown a is more outcomes told = λ first opens.
    let past = (state_after view.core.work (start view.core.work first view.core.opened) view.core.trail).past in
    let next = next_at flights j w op (within s flights j a.place) a.here (ap (slice_get w.ops) a.applied ∙ a.row) in
    let run = is first opens ∙ outcome_told (record view.core { first = first }) (sound.stands first opens) j w.ts op (subst (λ fs. IsNextOp j fs w.ts op) (sym flown) next) in
    noted_set view.core.work.fill past flights j x (told first opens)
    (noted_one view.core.work.fill past w x op outcome
    (noted_at view.core.work.fill past flights j w (told first opens) (within s flights j a.place) a.here)
    more (ap (slice_get w.ops) a.applied ∙ a.row) outcomes run)

-- what is promised is there still
provided_one : (fill : Row) (w x : FlyingWrite) → IsProvided fill w → x ≡ record w { applied = w.applied + 1; outcomes = x.outcomes; rows = x.rows }
    → (vec_len x.outcomes ≡ vec_len w.outcomes + 1) × (vec_capacity x.outcomes ≡ vec_capacity w.outcomes) → (vec_len x.rows ≡ vec_len w.rows + 1) × (vec_capacity x.rows ≡ vec_capacity w.rows)
    → IsProvided fill x
provided_one fill w x p is outcomes rows = subst (IsProvided fill) (sym is) (record {
  count = p.count;
  each = p.each;
  few = p.few;
  noted = (let e = outcomes.0 in let n = p.noted.0 in omega (arith, e, n), let e = rows.0 in let n = p.noted.1 in omega (arith, e, n));
  room = (let e = outcomes.1 in let n = p.room.0 in omega (arith, e, n), let e = rows.1 in let n = p.room.1 in omega (arith, e, n));
})

pub ready_applied : (fill : Row) (stopped : Bool) (flights : List FlyingWrite) (flying : List Flier) (lines room : ℕ) (pool after : Contents) (s j at : ℕ) (w x : FlyingWrite) (op : RowOp)
    → IsReady fill stopped flights flying lines room pool → Applying flights s at j w op
    → x ≡ record w { applied = w.applied + 1; outcomes = x.outcomes; rows = x.rows }
    → (vec_len x.outcomes ≡ vec_len w.outcomes + 1) × (vec_capacity x.outcomes ≡ vec_capacity w.outcomes) → (vec_len x.rows ≡ vec_len w.rows + 1) × (vec_capacity x.rows ≡ vec_capacity w.rows)
    → after.reserved + 2 * share op ≡ pool.reserved
    → IsReady fill stopped (slice_set flights j x) flying lines room after
ready_applied fill stopped flights flying lines room pool after s j at w x op ready a is outcomes rows promised =
    let lt = within s flights j a.place in
    let p = provided_at fill flights j w ready.provided lt a.here in
    record {
      held = ready.held ∙ sym (fliers_set flights j w x a.here (ap flier_of is));
      cells = let h = owed_set flights j w x lt a.here in let c = ready.cells in let n = need_at w.ops w.applied op (ap (slice_get w.ops) a.applied ∙ a.row) in let now = ap owed_of is in omega (arith, h, c, n, now, promised);
      provided = provided_set fill flights j x ready.provided (provided_one fill w x p is outcomes rows);
      apart = apart_set flights j w x a.here (ap (λ y. y.who) is) ready.apart;
      end = λ goes. let e = length_set flights j x in let fits = ready.end goes in omega (arith, e, fits);
    }

-- what is told of a write that has ended
all_taken : (f : RowOp → Outcome) (ops : List RowOp) (n : ℕ) → drop n ops ≡ [] → take n (map f ops) ≡ map f ops
all_taken f [] zero none = refl
all_taken f [] (suc n) none = refl
all_taken f (x ∷ ops) zero none = ap (map f) (sym none)
all_taken f (x ∷ ops) (suc n) none = ap (λ os. f x ∷ os) (all_taken f ops n none)

over_at : (s : ℕ) (flights : List FlyingWrite) (j : ℕ) (w : FlyingWrite) → IsOver s (map aloft_of flights) → IsPlaceOf s flights j → w ≡ get_or flights j w → drop w.applied w.ops ≡ []
over_at s [] j w over place is = absurd place
over_at s (v ∷ flights) zero w over place is = ap (λ y. drop y.applied y.ops) is ∙ over.0 place
over_at s (v ∷ flights) (suc j) w over place is = over_at s flights j w over.1 place.1 is

recorded_as : (names : List Target) (os outcomes : List Outcome) (rs rows : List CommitRow) → outcomes ≡ os → rows ≡ rs → AreRecorded names os rs → AreRecorded names outcomes rows
recorded_as names os outcomes rs rows e f all = subst (λ os. AreRecorded names os rows) (sym e) (subst (AreRecorded names os) (sym f) all)

pub is_done : {C : Type 0} (view old : View C) (s j : ℕ) (flights : List FlyingWrite) (w : FlyingWrite) (outcomes : List Outcome) (rows : List CommitRow) → view ≡ old → view.core.aloft ≡ map aloft_of flights → IsPlaceOf s flights j → w ≡ get_or flights j w
    → IsOver s view.core.aloft → outcomes ≡ w.outcomes.items → rows ≡ w.rows.items
    → AreTold view.core.work view.opening view.mark view.core.opened view.core.trail flights → AreWritten view.names flights
    → (first : Past) → Opens old.opening old.mark old.core.opened first → IsDone (record old.core { first = first }) old.names s outcomes rows
is_done view old s j flights w outcomes rows e flown place here over outcomes_are rows_are told written =
    subst (λ v. (first : Past) → Opens v.opening v.mark v.core.opened first → IsDone (record v.core { first = first }) v.names s outcomes rows) e (λ first opens.
    let past = (state_after view.core.work (start view.core.work first view.core.opened) view.core.trail).past in
    let noted = noted_at view.core.work.fill past flights j w (told first opens) (within s flights j place) here in
    record {
      flight = aloft_of w;
      flies = ap (flight_of s) flown ∙ flight_at s flights j w place here;
      each = outcomes_are ∙ noted.outcomes ∙ all_taken (λ o. (effect_on view.core.work.fill (rows_at past (w.ts - 1)) o).1) w.ops w.applied (over_at s flights j w (subst (IsOver s) flown over) place here);
      told = recorded_as view.names w.outcomes.items outcomes w.rows.items rows outcomes_are rows_are (written_at view.names flights j w written (within s flights j place) here).rows;
    })

-- and so whatever opening found
pub is_written : {C : Type 0} (view old : View C) (fill : Row) (s j : ℕ) (flights : List FlyingWrite) (w : FlyingWrite) (outcomes : List Outcome) (rows : List CommitRow) → view ≡ old → view.core.aloft ≡ map aloft_of flights → IsPlaceOf s flights j → w ≡ get_or flights j w
    → IsOver s view.core.aloft → outcomes ≡ w.outcomes.items → rows ≡ w.rows.items → AreProvided fill flights → AreWritten view.names flights
    → IsWritten old.core old.names s outcomes rows
is_written view old fill s j flights w outcomes rows e flown place here over outcomes_are rows_are provided all =
    let lt = within s flights j place in
    let written = written_at view.names flights j w all lt here in
    let none = ap length (over_at s flights j w (subst (IsOver s) flown over) place here) in
    let noted = (provided_at fill flights j w provided lt here).noted.0 in
    let long = w.outcomes.ok.0 in
    let few = written.few in
    let same = ap length outcomes_are in
    subst (λ v. IsWritten v.core v.names s outcomes rows) e (record {
      flight = aloft_of w;
      flies = ap (flight_of s) flown ∙ flight_at s flights j w place here;
      count = omega (arith, length-drop w.applied w.ops, none, noted, long, few, same);
      told = recorded_as view.names w.outcomes.items outcomes w.rows.items rows outcomes_are rows_are written.rows;
    })

-- nothing else has changed where the names and the places are the same, and as many stores are frozen
pub applied_beside : {C : Type 0} (view old : View C) (core : Core) (names : List Target) (notes : List (List CommitRow)) (places : List (ℕ × ℕ)) (pool : Contents) (frozen : ℕ) (files : List HeldFiles) → view ≡ old → names ≡ view.names → places ≡ view.places → frozen ≡ view.frozen → files ≡ view.files
    → record view { core = core; names = names; notes = notes; places = places; pool = pool; frozen = frozen; files = files } ≡ record old { core = core; notes = notes; pool = pool }
applied_beside view old core names notes places pool frozen files e same kept still filed =
    let f = same ∙ ap (λ v. v.names) e in
    let p = kept ∙ ap (λ v. v.places) e in
    let n = still ∙ ap (λ v. v.frozen) e in
    let h = filed ∙ ap (λ v. v.files) e in
    λ k. record (e k) { core = core; names = f k; notes = notes; places = p k; pool = pool; frozen = n k; files = h k }

-- what was written of the row
pub has_noted : {C : Type 0} (view old new : View C) (s at j : ℕ) (flights : List FlyingWrite) (w x : FlyingWrite) (op : RowOp) (outcome : Outcome) (row : CommitRow) (fill : Row) (memory : ℕ) (stores : List Store) (name : Target) → view ≡ old
    → view.core.aloft ≡ map aloft_of flights → view.notes ≡ map rows_of flights → view.core.stores ≡ all_told fill memory stores → Applying flights s at j w op
    → slice_get view.names (place_of op.key stores) ≡ Some name → row ≡ commit_row name outcome → x.rows.items ≡ w.rows.items ++ row ∷ [] → new.notes ≡ map rows_of (slice_set flights j x) → HasNoted old new s at outcome
has_noted view old new s at j flights w x op outcome row fill memory stores name e flown noted same a named row_is rows now = subst (λ v. HasNoted v new s at outcome) e (record {
  j = j;
  flight = aloft_of w;
  flies = ap (λ ws. slice_get ws j) flown ∙ aloft_there flights j w (within s flights j a.place) a.here;
  own = place_own s flights j w a.place a.here;
  op = op;
  row = a.row;
  name = name;
  named = ap (λ ss. slice_get view.names (place_of op.key ss)) same ∙ ap (slice_get view.names) (place_told fill memory op.key stores) ∙ named;
  notes = now ∙ notes_set flights j w x row a.here rows ∙ ap (λ r. on_nth j (λ rs. rs ++ r ∷ []) (map rows_of flights)) row_is ∙ ap (on_nth j (λ rs. rs ++ commit_row name outcome ∷ [])) (sym noted);
})

-- and what is handed out in the end
pub is_handed : {C : Type 0} (view old new : View C) (s j : ℕ) (flights : List FlyingWrite) (w : FlyingWrite) (rows : List CommitRow) → view ≡ old → view.core.aloft ≡ map aloft_of flights → view.notes ≡ map rows_of flights → IsPlaceOf s flights j → w ≡ get_or flights j w
    → rows ≡ w.rows.items → new.notes ≡ map rows_of (remove flights j) → HasHandedOut old new s rows
is_handed view old new s j flights w rows e flown noted place here rows_are now = subst (λ v. HasHandedOut v new s rows) e (record {
  j = j;
  flight = aloft_of w;
  flies = ap (λ ws. slice_get ws j) flown ∙ aloft_there flights j w (within s flights j place) here;
  own = place_own s flights j w place here;
  rows_are = ap (λ ns. slice_get ns j) noted ∙ notes_there flights j w (within s flights j place) here ∙ ap Some (sym rows_are);
  notes = now ∙ notes_removed flights j ∙ ap (λ ns. remove ns j) (sym noted);
})
