-- The columns of a table as a base file has them, and changes that a file of them can hold.
use Rattle.std.specs.Prelude.{◌≡◌, ◌≤◌, ◌<◌, ◌^◌, ℕ, List, [], ◌∷◌, map, length}
use Rattle.std.specs.List.{AllByRecursion}
use Rattle.kt_history.specs.declared.changes.KeyChange.{KeyChange}
use Rattle.kt_schema.specs.declared.column.Column.{Column}
use Rattle.kt_baseset.specs.declared.schema.ColumnShape.{ColumnShape}
use Rattle.kt_baseset.specs.Rows.{AreShapes}
use Rattle.kt_diskrowset.specs.declared.inputs.Inputs.{Inputs}
use Rattle.kt_diskrowset.specs.Data.{store_in}
use Rattle.kt_merge.specs.Merge.{IsReadable, rows_and_changes}
use Rattle.kt_joblaws.specs.Apart.{IsOfTable, AreOfTable}
use Rattle.kt_joblaws.specs.Compacts.{TellsTable}
use Rattle.kt_stores.specs.Takes.{rowsets}
use Rattle.kt_tablet.specs.Views.{View}
use Rattle.kt_tablet.specs.Jobs.{changes_in_memory, taken_stores}
use Rattle.kt_engine.specs.Outside.{FilesAreUpTo}

abbrev pub shape_of : Column → ColumnShape
shape_of c = record { id = c.id; kind = c.kind; nullable = c.nullable }

-- its key is not too long, and it is of the columns
abbrev pub FitsTable : List ColumnShape → KeyChange → Type 0
FitsTable columns c = (length c.key ≤ 16384) × IsOfTable columns c.change

-- The changes of the stores in memory up to a time, as a flush reads them: of columns that a file can have, and not too many
pub record ReadsMemory {C : Type 0} (tablet : View C) (upto : ℕ) (inputs : Inputs) : Type 0 where
  pub mems : inputs.mems ≡ changes_in_memory upto tablet
  pub rowsets : inputs.rowsets ≡ []
  pub shapes : AreShapes inputs.columns
  pub table : AllByRecursion (AreOfTable inputs.columns) inputs.mems
  pub few : rows_and_changes inputs < 2 ^ 31

-- All that the tablet has of the disk rowsets that a compaction takes, as it reads them: of columns that a file can have, each change of the table and in its order,
-- and not too much
pub record ReadsRowsets {C : Type 0} (tablet : View C) (taken : List ℕ) (inputs : Inputs) : Type 0 where
  pub mems : inputs.mems ≡ []
  pub rowsets_are : map store_in inputs.rowsets ≡ taken_stores (rowsets taken) tablet
  pub shapes : AreShapes inputs.columns
  pub readable : AllByRecursion IsReadable inputs.rowsets
  pub table : AllByRecursion (TellsTable inputs.columns) inputs.rowsets
  pub files : FilesAreUpTo taken tablet
  pub few : rows_and_changes inputs < 2 ^ 31

-- what a job reads as of a time: of the disk rowsets that it takes, or of the MemRowSets where it takes none
abbrev pub ReadsInputs : {C : Type 0} → View C → List ℕ → ℕ → Inputs → Type 0
ReadsInputs tablet [] upto inputs = ReadsMemory tablet upto inputs
ReadsInputs tablet (r ∷ taken) upto inputs = ReadsRowsets tablet (r ∷ taken) inputs
