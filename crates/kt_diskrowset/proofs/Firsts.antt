-- The first change above a time, among changes one behind the other.
use Rattle.std.proofs.Common.{◌≡◌, ℕ, suc, Bool, true, false, cond, List, [], ◌∷◌, ◌++◌, map, Some, None, refl, sym, ap, ◌∙◌}
use Rattle.std.specs.Prelude.{nat_lt}
use Rattle.std.specs.List.{find, flat_map}
use Rattle.std.specs.Option.{option_map, option_or}
use Rattle.std.proofs.lemmas.Bool.{le-ltb}
use Rattle.std.proofs.lemmas.List.{append-nil}
use Rattle.std.proofs.lemmas.List.Elements.{filter-append}
use Rattle.kt_baseset.specs.declared.rows.KeyedRow.{KeyedRow}
use Rattle.kt_dms.specs.Stores.{deltas_of, steps_for}
use Rattle.kt_dms.specs.declared.store.DeltaMem.{DeltaMem}
use Rattle.kt_history.specs.declared.change.Change.{Change}
use Rattle.kt_history.specs.declared.changes.KeyChange.{KeyChange}
use Rattle.kt_history.specs.Rows.{Row}
use Rattle.kt_history.specs.Stores.{Steps, key_change}
use Rattle.kt_histlaws.specs.Fitting.{steps_above}
use Rattle.kt_histlaws.specs.Flights.{UpTo}
use Rattle.kt_pool.specs.Contents.{Contents}
use Rattle.kt_rowfiles.specs.Files.{DiskRowset, row_with}
use Rattle.kt_diskrowset.specs.First.{first_above, changes_are_in_memory}
use Rattle.kt_diskrowset.specs.Mems.{steps_in_mems}
use Rattle.kt_diskrowset.specs.Missed.{changes_from}
use Rattle.kt_diskrowset.specs.Rows.{Fresh, rows_of, hists_from}
use Rattle.kt_diskrowset.specs.Rowset.{files_of, fresh_of}
use Rattle.kt_diskrowset.proofs.Beside.{steps-append}

pub first-append : (above : ℕ) (xs ys : Steps) → first_above above (xs ++ ys) ≡ option_or (first_above above xs) (first_above above ys)
first-append above [] ys = refl
first-append above (x ∷ xs) ys = by (nat_lt above x.0) (first-append above xs ys)
  where
    by : (b : Bool) → first_above above (xs ++ ys) ≡ option_or (first_above above xs) (first_above above ys)
        → option_map (λ (c : ℕ × Change). c.0) (cond b (Some x) (find (λ (c : ℕ × Change). nat_lt above c.0) (xs ++ ys)))
        ≡ option_or (option_map (λ (c : ℕ × Change). c.0) (cond b (Some x) (find (λ (c : ℕ × Change). nat_lt above c.0) xs))) (first_above above ys)
    by true h = refl
    by false h = h

pub none_first : (above : ℕ) (xs : Steps) → UpTo above xs → first_above above xs ≡ None
none_first above [] up = refl
none_first above (x ∷ xs) up =
    ap (λ b. option_map (λ (c : ℕ × Change). c.0) (cond b (Some x) (find (λ (c : ℕ × Change). nat_lt above c.0) xs))) (le-ltb above x.0 up.0) ∙ none_first above xs up.1

-- one store more
pub first_more : (pool : Contents) (n above : ℕ) (front : List DeltaMem) (m : DeltaMem)
    → first_above above (steps_in_mems pool n (front ++ m ∷ [])) ≡ option_or (first_above above (steps_in_mems pool n front)) (first_above above (steps_for n (deltas_of m pool)))
first_more pool n above front m =
    ap (first_above above) (steps-append pool n front (m ∷ [])) ∙ first-append above (steps_in_mems pool n front) (steps_for n (deltas_of m pool) ++ [])
    ∙ ap (λ (steps : Steps). option_or (first_above above (steps_in_mems pool n front)) (first_above above steps)) (append-nil (steps_for n (deltas_of m pool)))

-- the changes of a store above the time are those in memory
none_above : (above : ℕ) (xs : Steps) → UpTo above xs → steps_above above xs ≡ []
none_above above [] up = refl
none_above above (x ∷ xs) up = ap (λ b. cond b (x ∷ steps_above above xs) (steps_above above xs)) (le-ltb above x.0 up.0) ∙ none_above above xs up.1

rows_told : (above : ℕ) (d : DiskRowset) (fresh : Fresh) (n : ℕ) (rows : List KeyedRow) → ((found : ℕ × Row) → UpTo above (row_with d (Some found)).steps)
    → changes_from above fresh n rows ≡ flat_map (λ row. map (key_change row.0) (steps_above above row.1.steps)) (hists_from d fresh n (rows_of rows))
rows_told above d fresh n [] up = refl
rows_told above d fresh n (r ∷ rows) up =
    let before = (row_with d (Some (n, r.cells))).steps in
    let here : steps_above above (before ++ fresh n) ≡ steps_above above (fresh n) =
    filter-append (λ (c : ℕ × Change). nat_lt above c.0) before (fresh n) ∙ ap (λ xs. xs ++ steps_above above (fresh n)) (none_above above before (up (n, r.cells))) in
    ap (λ (xs : Steps). map (key_change r.key) xs ++ changes_from above fresh (suc n) rows) (sym here)
    ∙ ap (λ (rest : List KeyChange). map (key_change r.key) (steps_above above (before ++ fresh n)) ++ rest) (rows_told above d fresh (suc n) rows up)

pub in_memory : changes_are_in_memory
in_memory above s pool up = rows_told above (files_of s) (fresh_of s pool) 0 s.base.set.value.rows up
