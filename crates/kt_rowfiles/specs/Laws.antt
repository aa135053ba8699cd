-- What rows of files keep to.
use Rattle.std.specs.Prelude.{◌≡◌, ◌≢◌, ◌+◌, ◌++◌, ◌∷◌, ℕ, List, length, Option, None, Some}
use Rattle.std.specs.List.{AllByRecursion}
use Rattle.kt_history.specs.declared.changes.Delta.{Delta}
use Rattle.kt_history.specs.Rows.{Row, Rows}
use Rattle.kt_history.specs.Stores.{Steps, row_of}
use Rattle.kt_histlaws.specs.Disks.{AreUndos}
use Rattle.kt_rowfiles.specs.Files.{DiskRowset, row_under, records_for, records_in, rising, falling, hist_in_files}
use Rattle.kt_rowfiles.specs.Reading.{steps_in, all_rising, all_falling, row_in_files, UndosFit}

-- what is read at a time is what the history of the key shows, where each of its UNDO records leads back
abbrev pub rows_are_read_from_histories : Type 0
rows_are_read_from_histories = (t top : ℕ) (q : List ℕ) (d : DiskRowset) → ((found : ℕ × Row) → row_under q 0 d.base ≡ Some found → AreUndos top (falling (records_in found.0 d.undos)) (Some found.1))
    → row_in_files t q d ≡ row_of t (hist_in_files q d)

-- UNDO records that fit whole rows lead back
abbrev pub undos_that_fit_lead_back : Type 0
undos_that_fit_lead_back = (top : ℕ) (undos : Steps) (row : Option Row) → UndosFit top undos row → AreUndos top undos row

-- the records of several files are put in order one file after the other
abbrev pub records_of_files_rise : Type 0
records_of_files_rise = (n : ℕ) (xs : List Delta) (files : List (List Delta)) → rising (records_for n xs ++ records_in n files) ≡ all_rising (records_for n xs) (rising (records_in n files))

abbrev pub records_of_files_fall : Type 0
records_of_files_fall = (n : ℕ) (xs : List Delta) (files : List (List Delta)) → falling (records_for n xs ++ records_in n files) ≡ all_falling (records_for n xs) (falling (records_in n files))

-- each record is of this row, or none is
abbrev pub AreOf : ℕ → List Delta → Type 0
AreOf n records = AllByRecursion (λ (d : Delta). d.ordinal ≡ n) records

abbrev pub AreOfOthers : ℕ → List Delta → Type 0
AreOfOthers n records = AllByRecursion (λ (d : Delta). d.ordinal ≢ n) records

-- the records of a row that stand together in a file are all that it has there
abbrev pub records_stand_together : Type 0
records_stand_together = (n : ℕ) (front own behind : List Delta) → AreOfOthers n front → AreOf n own → AreOfOthers n behind → records_for n (front ++ own ++ behind) ≡ steps_in own

-- where no earlier row has the key, its row is the one at its place
abbrev pub rows_are_found : Type 0
rows_are_found = (q : List ℕ) (n : ℕ) (front : Rows) (row : Row) (behind : Rows) → AllByRecursion (λ (r : List ℕ × Row). r.0 ≢ q) front → row_under q n (front ++ (q, row) ∷ behind) ≡ Some (n + length front, row)

-- and where none has it, there is none
abbrev pub rows_are_missed : Type 0
rows_are_missed = (q : List ℕ) (n : ℕ) (rows : Rows) → AllByRecursion (λ (r : List ℕ × Row). r.0 ≢ q) rows → row_under q n rows ≡ None
