-- The files of a disk rowset, as lists of records.
use Rattle.std.specs.Prelude.{ℕ, List, map}
use Rattle.kt_history.specs.declared.changes.Delta.{Delta}
use Rattle.kt_history.specs.Rows.{Row}
use Rattle.kt_histlaws.specs.Disks.{DiskRow}
use Rattle.kt_rowfiles.specs.Files.{records_in, rising, falling}
use Rattle.kt_deltafile.specs.File.{FileView}
use Rattle.kt_diskrowset.specs.declared.files.FileHeld.{FileHeld}

-- the records of each file
abbrev pub lists_of : List FileHeld → List (List Delta)
lists_of files = map (λ (f : FileHeld). f.deltas.value.list) files

-- a row with its records in these UNDO and REDO files, put in order whatever file they stand in
abbrev pub row_with_files : List FileHeld → List FileHeld → ℕ → Row → DiskRow
row_with_files undo redo n base = record { base = base; undos = falling (records_in n (lists_of undo)); redos = rising (records_in n (lists_of redo)) }

-- a file, whoever owns it
abbrev pub as_file : FileHeld → ℕ × ℕ × FileView
as_file f = (f.file, f.len, f.deltas.value)

abbrev pub as_files : List FileHeld → List (ℕ × ℕ × FileView)
as_files files = map as_file files
