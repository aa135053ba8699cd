-- What an output tells with the late changes of its rows.
use Rattle.std.proofs.Common.{◌≡◌, ℕ, List, [], ◌∷◌, ◌++◌, Option, Some, None, refl, sym, ap, ◌∙◌, map}
use Rattle.std.specs.Prelude.{nat_lt}
use Rattle.std.proofs.lemmas.Bool.{le-ltb}
use Rattle.std.proofs.lemmas.List.{append-nil}
use Rattle.std.proofs.lemmas.List.Elements.{filter-append}
use Rattle.std.specs.List.{AllByRecursion}
use Rattle.kt_history.specs.declared.change.Change.{Change}
use Rattle.kt_history.specs.declared.changes.Delta.{Delta}
use Rattle.kt_history.specs.Rows.{Row}
use Rattle.kt_history.specs.Stores.{Steps, Hist, hist_in}
use Rattle.kt_histlaws.specs.Fitting.{steps_above}
use Rattle.kt_histlaws.specs.Flights.{UpTo}
use Rattle.kt_rowfiles.specs.Files.{DiskRowset, row_under, records_for, rising, row_with, hist_in_files}
use Rattle.kt_rowfiles.specs.Merging.{all_above}
use Rattle.kt_diskrowset.specs.declared.data.RowSetData.{RowSetData}
use Rattle.kt_diskrowset.specs.Data.{files_in, fresh_in, store_in}
use Rattle.kt_diskrowset.specs.Rows.{Fresh, hist_found, store_with, rows_of}
use Rattle.kt_diskrowset.proofs.Histories.{hist_is}
use Rattle.kt_merge.specs.Late.{push_there, hist_with, fresh_at, fresh_above, fresh_in_all, HasNoneAbove, late_changes_are_in_memory}

-- without changes in memory it tells what its files tell
found_bare : (d : DiskRowset) (o : Option (ℕ × Row)) → hist_found d (λ n. []) o ≡ row_with d o
found_bare d None = refl
found_bare d (Some found) = ap (λ (s : Steps). record (row_with d (Some found)) { steps = s }) (append-nil (row_with d (Some found)).steps)

pub bare_told : (d : DiskRowset) (q : List ℕ) → hist_in q (store_with d (λ n. [])) ≡ hist_in_files q d
bare_told d q = hist_is d (λ n. []) q ∙ found_bare d (row_under q 0 d.base)

pub none_told : (d : RowSetData) (q : List ℕ) → d.fresh ≡ [] → hist_in q (store_in d) ≡ hist_in_files q (files_in d)
none_told d q none = ap (λ (l : List Delta). hist_in q (store_with (files_in d) (λ n. records_for n l))) none ∙ bare_told (files_in d) q

-- and with those of its row it tells these behind
found_late : (d : DiskRowset) (fresh : Fresh) (late : Steps) (o : Option (ℕ × Row)) → ((found : ℕ × Row) → o ≡ Some found → fresh found.0 ≡ late) → hist_found d fresh o ≡ push_there late o (row_with d o)
found_late d fresh late None is = refl
found_late d fresh late (Some found) is = ap (λ (s : Steps). record (row_with d (Some found)) { steps = (row_with d (Some found)).steps ++ s }) (is found refl)

pub late_told : (d : RowSetData) (q : List ℕ) (late : Steps) → ((found : ℕ × Row) → row_under q 0 (files_in d).base ≡ Some found → records_for found.0 d.fresh ≡ late) → hist_in q (store_in d) ≡ hist_with q late (files_in d)
late_told d q late is = hist_is (files_in d) (fresh_in d) q ∙ found_late (files_in d) (fresh_in d) late (row_under q 0 (files_in d).base) is

-- ---- what lies above the bound is in memory

none_over : (bound : ℕ) (steps : Steps) → UpTo bound steps → steps_above bound steps ≡ []
none_over bound [] u = refl
none_over bound (c ∷ steps) u = rw (le-ltb bound c.0 u.0) (none_over bound steps u.1)

found_over : (bound : ℕ) (d : RowSetData) (o : Option (ℕ × Row)) → UpTo bound (row_with (files_in d) o).steps → fresh_at bound d o ≡ steps_above bound (hist_found (files_in d) (fresh_in d) o).steps
found_over bound d None none = refl
found_over bound d (Some found) none =
    let files : Steps = (row_with (files_in d) (Some found)).steps in
    sym (filter-append (λ (c : ℕ × Change). nat_lt bound c.0) files (records_for found.0 d.fresh) ∙ ap (λ (s : Steps). s ++ steps_above bound (records_for found.0 d.fresh)) (none_over bound files none))

one_over : (bound : ℕ) (q : List ℕ) (d : RowSetData) → HasNoneAbove bound d → fresh_above bound q d ≡ steps_above bound (hist_in q (store_in d)).steps
one_over bound q d none =
    found_over bound d (row_under q 0 (rows_of d.base.set.value.rows)) (none q) ∙ sym (ap (λ (h : Hist). steps_above bound h.steps) (hist_is (files_in d) (fresh_in d) q))

all_over : (bound : ℕ) (q : List ℕ) (inputs : List RowSetData) → AllByRecursion (HasNoneAbove bound) inputs → fresh_in_all bound q inputs ≡ all_above bound (map (λ (d : RowSetData). hist_in q (store_in d)) inputs)
all_over bound q [] none = refl
all_over bound q (d ∷ inputs) none =
    ap (λ (s : Steps). s ++ fresh_in_all bound q inputs) (one_over bound q d none.0) ∙ ap (λ (s : Steps). steps_above bound (hist_in q (store_in d)).steps ++ s) (all_over bound q inputs none.1)

pub in_memory : late_changes_are_in_memory
in_memory bound q inputs none = ap rising (all_over bound q inputs none)
