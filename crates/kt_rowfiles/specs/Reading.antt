-- A row of a disk rowset at a time, as it is read: its base row, the UNDO records above the time taken back from the newest, and
-- the REDO records at or below it from the oldest.
use Rattle.std.specs.Prelude.{ℕ, List, [], ◌∷◌, map, nat_lt, Option, Some, None, IsTrue}
use Rattle.kt_history.specs.declared.change.Change.{Change}
use Rattle.kt_history.specs.declared.changes.Delta.{Delta}
use Rattle.kt_history.specs.Rows.{Row, apply, fits, has_columns, IsRow}
use Rattle.kt_history.specs.Stores.{Steps}
use Rattle.kt_histlaws.specs.Disks.{DiskRow, disk_row_at}
use Rattle.kt_rowfiles.specs.Files.{DiskRowset, row_under, records_in, put_rising, rising, put_falling, falling}

-- a record, without its ordinal
abbrev pub step_in : Delta → ℕ × Change
step_in d = (d.ts, d.change)

abbrev pub steps_in : List Delta → Steps
steps_in records = map step_in records

-- some changes put among others, which rise, or fall
abbrev pub all_rising : Steps → Steps → Steps
all_rising [] others = others
all_rising (c ∷ steps) others = put_rising c (all_rising steps others)

abbrev pub all_falling : Steps → Steps → Steps
all_falling [] others = others
all_falling (c ∷ steps) others = put_falling c (all_falling steps others)

-- a row with its records
abbrev pub disk_row : DiskRowset → ℕ × Row → DiskRow
disk_row d found = record { base = found.1; undos = falling (records_in found.0 d.undos); redos = rising (records_in found.0 d.redos) }

abbrev pub row_found : ℕ → DiskRowset → Option (ℕ × Row) → Option Row
row_found t d None = None
row_found t d (Some found) = disk_row_at t (disk_row d found)

-- the row of a key at a time
abbrev pub row_in_files : ℕ → List ℕ → DiskRowset → Option Row
row_in_files t q d = row_found t d (row_under q 0 d.base)

-- each UNDO record fits the row from which it leads back, which has its columns, and their timestamps fall
abbrev pub UndosFit : ℕ → Steps → Option Row → Type 0
UndosFit top [] row = Unit {0}
UndosFit top (u ∷ undos) row = IsTrue (nat_lt u.0 top) × IsRow row × IsTrue (fits u.1 row) × IsTrue (has_columns u.1 row) × UndosFit u.0 undos (apply u.1 row)
