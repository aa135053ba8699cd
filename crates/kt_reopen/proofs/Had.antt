-- Whether a store of an opening has a row, and the change that joins it.
use Rattle.std.proofs.Common.{◌≡◌, ◌≢◌, ◌+◌, ◌-◌, ℕ, zero, suc, Bool, true, false, cond, List, [], ◌∷◌, map, Option, Some, Result, is_some, refl, sym, ap, ◌∙◌, arith}
use Rattle.std.specs.Prelude.{IfOk, slice_get, nat_le, not}
use Rattle.std.specs.Option.{option_map}
use Rattle.std.proofs.lemmas.Bool.Decides.{nat_tests}
use Rattle.std.proofs.lemmas.Bool.{false≢true}
use Rattle.kt_history.specs.declared.change.Change.{Change}
use Rattle.kt_history.specs.declared.operation.RowOp.{RowOp}
use Rattle.kt_history.specs.declared.target.Kindly.{Kindly}
use Rattle.kt_history.specs.declared.target.Kindly.TheVariants.{Ins, Upd, Del}
use Rattle.kt_history.specs.Rows.{Row, apply, fits}
use Rattle.kt_history.specs.Stores.{Hist, Steps, Store, Under, after_steps, apply_all, last_row, row_of, hist_in, never, change_of}
use Rattle.kt_diskrowset.specs.declared.rowset.DiskRowSet.{DiskRowSet}
use Rattle.kt_diskrowset.specs.Rowset as rowset
use Rattle.kt_stores.proofs.Beside.{map_at}
use Rattle.kt_content.specs.Places.{memory, disk, row_before}
use Rattle.kt_content.specs.Opening.{Placed}
use Rattle.kt_tablet.specs.Filling.{filled, filled_change, filled_hist}
use Rattle.kt_reopen.specs.declared.stores.Opening.{Opening}
use Rattle.kt_reopen.specs.Standing.{placed, names_in, change_by}
use Rattle.kt_reopen.specs.Steps.{had_in, had_at, MayJoin}
use Rattle.kt_tablet.proofs.Filling.{find-filled, last_alike}

-- ---- the row just before a time that lies above all changes

all_below : (t : ℕ) (steps : Steps) (row : Option Row) → Under (suc t) steps → after_steps t steps row ≡ apply_all steps row
all_below t [] row h = refl
all_below t (c ∷ steps) row h =
    let le : nat_le c.0 t ≡ true = (let lt = h.0 in grind (arith, nat_tests)) in
    ap (λ b. after_steps t steps (cond b (apply c.1 row) row)) le ∙ all_below t steps (apply c.1 row) h.1

none_under : (steps : Steps) (row : Option Row) → Under 0 steps → row ≡ apply_all steps row
none_under [] row h = refl
none_under (c ∷ steps) row h = absurd (let lt = h.0 in omega arith)

last_before : (ts : ℕ) (h : Hist) → Under ts h.steps → row_before ts h ≡ last_row h
last_before zero h under = none_under h.steps h.first under
last_before (suc t) h under = all_below t h.steps h.first under

filled_under : (fill : Row) (ts : ℕ) (steps : Steps) → Under ts steps → Under ts (map (λ (c : ℕ × Change). (c.0, filled_change fill c.1)) steps)
filled_under fill ts [] h = tt
filled_under fill ts (c ∷ steps) h = (h.0, filled_under fill ts steps h.1)

pub mem_had : (fill : Row) (ts : ℕ) (q : List ℕ) (store : Store) → Under ts (hist_in q store).steps → is_some (row_before ts (hist_in q (filled fill store))) ≡ is_some (last_row (hist_in q store))
mem_had fill ts q store under =
    ap (λ (h : Hist). is_some (row_before ts h)) (find-filled fill q store)
    ∙ ap (λ (row : Option Row). is_some row) (last_before ts (filled_hist fill (hist_in q store)) (filled_under fill ts (hist_in q store).steps under)) ∙ last_alike fill (hist_in q store)

pub disk_had : {E : Type 0} (r : Result Bool E) (ts : ℕ) (h : Hist) → (ts ≡ 0 → IfOk r (λ had. had ≡ is_some h.first)) → ((t : ℕ) → ts ≡ t + 1 → IfOk r (λ had. had ≡ is_some (row_of t h))) → IfOk r (λ had. had ≡ is_some (row_before ts h))
disk_had r zero h first later = first refl
disk_had r (suc t) h first later = later t (let e : suc t ≡ t + 1 = omega arith in e)

-- ---- the store at a place

module _ (o : Opening) (fill : Row) (ts : ℕ) (q : List ℕ) (i : ℕ) (d : DiskRowSet) (at : slice_get o.rowsets.items i ≡ Some d) where
  pub rowset_had : had_at ts q (suc i) (placed fill o) ≡ Some (is_some (row_before ts (hist_in q (rowset.store_of d o.pool))))
  rowset_had = ap (option_map (had_in ts q)) (map_at i (λ (d : DiskRowSet). (disk (rowset.held_of d).number, rowset.store_of d o.pool)) d o.rowsets.items at)

pub rowset_named : (o : Opening) (i : ℕ) (d : DiskRowSet) → slice_get o.rowsets.items i ≡ Some d → slice_get (names_in o) (suc i) ≡ Some (rowset.name_of d)
rowset_named o i d at = map_at i rowset.name_of d o.rowsets.items at

some_is : {X : Type 0} (x y : X) → Some x ≡ Some y → x ≡ y
some_is x y e = cc

pub mem_fits : (kind : Kindly) (fill : Row) (ts : ℕ) (op : RowOp) (store : Store) (rest : Placed) → Under ts (hist_in op.key store).steps → MayJoin ts op.key 0 kind ((memory, filled fill store) ∷ rest)
    → fits (change_of kind op.cells) (last_row (hist_in op.key store)) ≡ true
mem_fits Ins fill ts op store rest under may = ap not (sym (mem_had fill ts op.key store under) ∙ some_is (had_in ts op.key (memory, filled fill store)) false may.1)
mem_fits Upd fill ts op store rest under may = sym (mem_had fill ts op.key store under) ∙ some_is (had_in ts op.key (memory, filled fill store)) true may
mem_fits Del fill ts op store rest under may = sym (mem_had fill ts op.key store under) ∙ some_is (had_in ts op.key (memory, filled fill store)) true may

never_had : (ts : ℕ) → is_some (row_before ts never) ≡ false
never_had zero = refl
never_had (suc t) = refl

-- a change that may join a disk rowset is no insert, and the rowset has the row
pub plain_there : (kind : Kindly) (ts : ℕ) (q : List ℕ) (i : ℕ) (stores : Placed) → MayJoin ts q (suc i) kind stores → had_at ts q (suc i) stores ≡ Some true
plain_there Ins ts q i stores may = absurd (let e = may.0 in omega arith)
plain_there Upd ts q i stores may = may
plain_there Del ts q i stores may = may

pub plain_change : (kind : Kindly) (ts : ℕ) (q : List ℕ) (i : ℕ) (stores : Placed) → MayJoin ts q (suc i) kind stores → (fill : Row) (op : RowOp) → change_by fill kind op ≡ change_of kind op.cells
plain_change Ins ts q i stores may fill op = absurd (let e = may.0 in omega arith)
plain_change Upd ts q i stores may fill op = refl
plain_change Del ts q i stores may fill op = refl

pub there_not_never : (o : Opening) (kind : Kindly) (ts : ℕ) (q : List ℕ) (i : ℕ) (d : DiskRowSet) → slice_get o.rowsets.items i ≡ Some d → MayJoin ts q (suc i) kind (placed [] o) → hist_in q (rowset.store_of d o.pool) ≢ never
there_not_never o kind ts q i d at may e =
    let had = some_is (is_some (row_before ts (hist_in q (rowset.store_of d o.pool)))) true (sym (rowset_had o [] ts q i d at) ∙ plain_there kind ts q i (placed [] o) may) in
    false≢true (sym (never_had ts) ∙ ap (λ (h : Hist). is_some (row_before ts h)) (sym e) ∙ had)
