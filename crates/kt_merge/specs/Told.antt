-- The rows that written disk rowsets tell.
use Rattle.std.specs.Prelude.{◌≡◌, ◌≤◌, ◌<◌, ◌+◌, ◌||◌, ℕ, suc, nat_le, Bool, true, false, List, [], ◌∷◌, ◌++◌, length, map, min, Option, Some, None}
use Rattle.std.specs.List.{AllByRecursion, flat_map, sum_by}
use Rattle.kt_base.specs.declared.cell.Cell.{Cell}
use Rattle.kt_history.specs.Operations.{cell_len}
use Rattle.kt_history.specs.Views.{AreRising}
use Rattle.kt_history.specs.declared.change.Change.TheVariants.{Del}
use Rattle.kt_history.specs.declared.changes.Delta.{Delta}
use Rattle.kt_histlaws.specs.Disks.{DiskRow}
use Rattle.kt_baseset.specs.declared.schema.ColumnShape.{ColumnShape}
use Rattle.kt_baseset.specs.declared.rows.KeyedRow.{KeyedRow}
use Rattle.kt_baseset.specs.Rows.{AllFit, keys_in}
use Rattle.kt_deltafile.specs.declared.file.Way.TheVariants.{Undo, Redo}
use Rattle.kt_deltafile.specs.declared.file.Way.{Way}
use Rattle.kt_deltafile.specs.Rules.{FileFits, IsFile}
use Rattle.kt_rowfiles.specs.Files.{records_for}
use Rattle.kt_diskrowset.specs.declared.data.RowSetData.{RowSetData}
use Rattle.kt_diskrowset.specs.declared.files.FileHeld.{FileHeld}
use Rattle.kt_merge.specs.Minor.{held_records}
use Rattle.kt_merge.specs.declared.output.Growing.{Growing}

-- rows under their keys, each with its records
abbrev pub Told : Type 0
Told = List (List ℕ × DiskRow)

-- what base rows, counted from n, with the records of UNDO and REDO files tell
abbrev pub told_from : ℕ → List KeyedRow → List Delta → List Delta → Told
told_from n [] undos redos = []
told_from n (r ∷ rows) undos redos = (r.key, record { base = r.cells; undos = records_for n undos; redos = records_for n redos }) ∷ told_from (suc n) rows undos redos

-- what a disk rowset tells, and several
abbrev pub told_in : RowSetData → Told
told_in d = told_from 0 d.base.set.value.rows (held_records d.undo) (held_records d.redo)

abbrev pub told_by_all : List RowSetData → Told
told_by_all rowsets = flat_map told_in rowsets

-- how many bytes a row takes as an insert
abbrev pub insert_len : KeyedRow → ℕ
insert_len r = 5 + length r.key + sum_by (λ (c : ℕ × Cell). 2 + cell_len c.1) r.cells

-- a rowset takes rows until it has 65,536 of them, or they have 33,554,432 bytes as inserts
abbrev pub is_full : List KeyedRow → Bool
is_full rows = nat_le 65536 (length rows) || nat_le 33554432 (sum_by insert_len rows)

-- so the rows before its last one do not fill it, and of several rowsets each but the last is full
abbrev pub IsOpen : List KeyedRow → Type 0
IsOpen rows = is_full rows ≡ false

pub record IsCut (rows : List KeyedRow) : Type 0 where
  pub front : List KeyedRow
  pub last : KeyedRow
  pub are : rows ≡ front ++ last ∷ []
  pub opened : IsOpen front

abbrev pub AreCut : List (List KeyedRow) → Type 0
AreCut [] = Unit {0}
AreCut (rows ∷ []) = IsCut rows
AreCut (rows ∷ more ∷ rest) = IsCut rows × (is_full rows ≡ true) × AreCut (more ∷ rest)

-- files that are not written yet: one of this number of records, or none where there would be none
abbrev pub IsNewFile : FileHeld → Type 0
IsNewFile f = (f.file ≡ 0) × (f.len ≡ 0)

abbrev pub AreNewFiles : List FileHeld → Type 0
AreNewFiles [] = Unit {0}
AreNewFiles (f ∷ []) = IsNewFile f × (0 < length f.deltas.value.list)
AreNewFiles (f ∷ g ∷ files) = ⊥

abbrev pub rows_in : RowSetData → List KeyedRow
rows_in d = d.base.set.value.rows

-- files of this way, whose records are of so many rows
abbrev pub AreFilesOver : Way → ℕ → List FileHeld → Type 0
AreFilesOver way rows files = AllByRecursion (λ (f : FileHeld). (f.deltas.value.way ≡ way) × FileFits way rows f.deltas.value.list) files

-- A disk rowset that is written: its number and its files are still to be given, it has these columns, its records are of its rows,
-- and it has no change in memory
pub record IsOutput (columns : List ColumnShape) (d : RowSetData) : Type 0 where
  pub number : d.number ≡ 0
  pub base : (d.base.file ≡ 0) × (d.base.len ≡ 0)
  pub schema : d.base.set.value.schema ≡ columns
  pub undo : AreNewFiles d.undo × AreFilesOver Undo (length (rows_in d)) d.undo
  pub redo : AreNewFiles d.redo × AreFilesOver Redo (length (rows_in d)) d.redo
  pub fresh : d.fresh ≡ []

-- Disk rowsets that were written in turn: their keys rise from one to the next, and each takes rows until it is full
pub record AreOutputs (columns : List ColumnShape) (rowsets : List RowSetData) : Type 0 where
  pub each : AllByRecursion (IsOutput columns) rowsets
  pub rise : AreRising (flat_map (λ (d : RowSetData). keys_in (rows_in d)) rowsets)
  pub cut : AreCut (map rows_in rowsets)

-- ---- on the way

-- each record is of one of so many rows
abbrev pub AreOfRows : ℕ → List Delta → Type 0
AreOfRows n records = AllByRecursion (λ (d : Delta). d.ordinal < n) records

-- the delete of a row at a place, if it is deleted
abbrev pub deletes_of : ℕ → Option ℕ → List Delta
deletes_of n None = []
deletes_of n (Some ts) = record { ordinal = n; ts = ts; change = Del } ∷ []

-- the rows and their records can be files
pub record Grown (columns : List ColumnShape) (g : Growing) : Type 0 where
  pub cells : AllFit columns g.rows.items
  pub rise : AreRising (keys_in g.rows.items)
  pub short : AllByRecursion (λ (key : List ℕ). length key ≤ 16384) (keys_in g.rows.items)
  pub bytes : g.bytes ≡ min (sum_by insert_len g.rows.items) 33554432
  pub undos : IsFile Undo g.undos.items
  pub redos : IsFile Redo g.redos.items
  pub undone : AreOfRows (length g.rows.items) g.undos.items
  pub redone : AreOfRows (length g.rows.items) g.redos.items
  pub ghosts : length g.redos.items ≤ length g.rows.items

-- the rows before the last one do not fill it
abbrev pub IsTaken : List KeyedRow → Type 0
IsTaken rows = (front : List KeyedRow) (last : KeyedRow) → rows ≡ front ++ last ∷ [] → IsOpen front

-- and there is room for a row
pub record Grows (columns : List ColumnShape) (g : Growing) : Type 0 where
  pub grown : Grown columns g
  pub opened : IsOpen g.rows.items

-- what it tells so far
abbrev pub told_so_far : Growing → Told
told_so_far g = told_from 0 g.rows.items g.undos.items g.redos.items
