-- One of the outputs of a job at most has a key.
use Rattle.std.proofs.Common.{◌≡◌, ℕ, suc, Bool, true, false, cond, List, [], ◌∷◌, ◌++◌, map, Option, Some, None, refl, sym, ap, ◌∙◌, subst}
use Rattle.std.specs.List.{AllByRecursion, flat_map}
use Rattle.std.specs.Ordering.{is_eq, eq_by_cmp}
use Rattle.std.specs.declared.cmp.Ordering.TheVariants.{Less}
use Rattle.kt_history.specs.Rows.{Row, key_cmp}
use Rattle.kt_history.specs.Views.{AreRising}
use Rattle.kt_histlaws.specs.Histories.{or_else, first_some, AtMostOne}
use Rattle.kt_baseset.specs.declared.rows.KeyedRow.{KeyedRow}
use Rattle.kt_baseset.specs.Rows.{keys_in}
use Rattle.kt_rowfiles.specs.Files.{DiskRowset, row_under}
use Rattle.kt_diskrowset.specs.declared.data.RowSetData.{RowSetData}
use Rattle.kt_diskrowset.specs.Data.{files_in}
use Rattle.kt_diskrowset.specs.Rows.{rows_of}
use Rattle.kt_merge.specs.Told.{rows_in}
use Rattle.kt_merge.proofs.KeyChanges.{same_key}
use Rattle.kt_joblaws.specs.Late.{outputs_have_a_key_once}

-- each of these keys lies above one
abbrev AllAfter : List ℕ → List (List ℕ) → Type 0
AllAfter q keys = AllByRecursion (λ (other : List ℕ). key_cmp q other ≡ Less) keys

-- a key that is found is one of the keys
found_key : (P : List ℕ → Type 0) (q : List ℕ) (n : ℕ) (rows : List KeyedRow) (found : ℕ × Row) → row_under q n (rows_of rows) ≡ Some found → AllByRecursion P (keys_in rows) → P q
found_key P q n [] found e all = absurd (cc)
found_key P q n (r ∷ rows) found e all = by (eq_by_cmp key_cmp q r.key) refl e (λ rest. found_key P q (suc n) rows found rest all.1)
  where
    by : (b : Bool) → eq_by_cmp key_cmp q r.key ≡ b → cond b (Some (n, r.cells)) (row_under q (suc n) (rows_of rows)) ≡ Some found → (row_under q (suc n) (rows_of rows) ≡ Some found → P q) → P q
    by true tied is rest = subst P (sym (same_key q r.key tied)) all.0
    by false apart is rest = rest is

-- and below all keys none is found
none_found : (q : List ℕ) (n : ℕ) (rows : List KeyedRow) → AllAfter q (keys_in rows) → row_under q n (rows_of rows) ≡ None
none_found q n [] after = refl
none_found q n (r ∷ rows) after = ap (λ (b : Bool). cond b (Some (n, r.cells)) (row_under q (suc n) (rows_of rows))) (ap is_eq after.0) ∙ none_found q (suc n) rows after.1

-- of two lists of keys, one behind the other
all_front : (P : List ℕ → Type 0) (xs ys : List (List ℕ)) → AllByRecursion P (xs ++ ys) → AllByRecursion P xs
all_front P [] ys all = tt
all_front P (x ∷ xs) ys all = (all.0, all_front P xs ys all.1)

all_behind : (P : List ℕ → Type 0) (xs ys : List (List ℕ)) → AllByRecursion P (xs ++ ys) → AllByRecursion P ys
all_behind P [] ys all = all
all_behind P (x ∷ xs) ys all = all_behind P xs ys all.1

rise_behind : (xs ys : List (List ℕ)) → AreRising (xs ++ ys) → AreRising ys
rise_behind [] ys rise = rise
rise_behind (x ∷ xs) ys rise = rise_behind xs ys rise.1

each_below : (xs ys : List (List ℕ)) → AreRising (xs ++ ys) → AllByRecursion (λ (k : List ℕ). AllAfter k ys) xs
each_below [] ys rise = tt
each_below (x ∷ xs) ys rise = (all_behind (λ (other : List ℕ). key_cmp x other ≡ Less) xs ys rise.0, each_below xs ys rise.1)

abbrev keys_of_all : List RowSetData → List (List ℕ)
keys_of_all outputs = flat_map (λ (d : RowSetData). keys_in (rows_in d)) outputs

abbrev found_in : List ℕ → RowSetData → Option (ℕ × Row)
found_in q d = row_under q 0 (rows_of (rows_in d))

none_in_all : (q : List ℕ) (outputs : List RowSetData) → AllAfter q (keys_of_all outputs) → first_some (map (found_in q) outputs) ≡ None
none_in_all q [] after = refl
none_in_all q (d ∷ outputs) after =
    ap (λ (o : Option (ℕ × Row)). or_else o (first_some (map (found_in q) outputs)))
    (none_found q 0 (rows_in d) (all_front (λ (other : List ℕ). key_cmp q other ≡ Less) (keys_in (rows_in d)) (keys_of_all outputs) after))
    ∙ none_in_all q outputs (all_behind (λ (other : List ℕ). key_cmp q other ≡ Less) (keys_in (rows_in d)) (keys_of_all outputs) after)

found_once : (q : List ℕ) (outputs : List RowSetData) → AreRising (keys_of_all outputs) → AtMostOne (map (found_in q) outputs)
found_once q [] rise = tt
found_once q (d ∷ outputs) rise = by (found_in q d) refl (found_once q outputs (rise_behind (keys_in (rows_in d)) (keys_of_all outputs) rise))
  where
    by : (o : Option (ℕ × Row)) → found_in q d ≡ o → AtMostOne (map (found_in q) outputs) → AtMostOne (o ∷ map (found_in q) outputs)
    by None e rest = rest
    by (Some found) e rest = none_in_all q outputs (found_key (λ (k : List ℕ). AllAfter k (keys_of_all outputs)) q 0 (rows_in d) found e (each_below (keys_in (rows_in d)) (keys_of_all outputs) rise))

-- the same by what their files tell
as_told : (q : List ℕ) (outputs : List RowSetData) → map (λ (d : DiskRowset). row_under q 0 d.base) (map files_in outputs) ≡ map (found_in q) outputs
as_told q [] = refl
as_told q (d ∷ outputs) = ap (λ (l : List (Option (ℕ × Row))). found_in q d ∷ l) (as_told q outputs)

pub once_each : outputs_have_a_key_once
once_each columns outputs q are = subst AtMostOne (sym (as_told q outputs)) (found_once q outputs are.rise)
