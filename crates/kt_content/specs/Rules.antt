-- What the schema of a table takes, and that a log and files have nothing else.
use Rattle.std.specs.Prelude.{◌≡◌, ◌⊎◌, ℕ, Bool, true, List, [], ◌∷◌, Option, Some, None}
use Rattle.std.specs.List.{filter}
use Rattle.kt_history.specs.declared.change.Change.{Change}
use Rattle.kt_history.specs.declared.change.Change.TheVariants.{Ins, Upd, Del}
use Rattle.kt_history.specs.declared.changes.Delta.{Delta}
use Rattle.kt_history.specs.declared.operation.RowOp.{RowOp}
use Rattle.kt_history.specs.Rows.{Row, Rows, with_cells, cells_under}
use Rattle.kt_history.specs.Operations.{effect}
use Rattle.kt_records.specs.declared.entry.Entry.{Entry}
use Rattle.kt_records.specs.declared.entry.Entry.TheVariants.{Replicate, Commit}
use Rattle.kt_history.specs.Stores.{Steps, Hist, row_of, never}
use Rattle.kt_histlaws.specs.Flights.{AllOps}
use Rattle.kt_rowfiles.specs.Files.{DiskRowset}
use Rattle.kt_rowfiles.specs.Fitting.{undos_fit}

-- the keys that are the one spelling of key cells, the rows that the columns take, and the cells that a row may have in some of its columns
pub record Rules : Type 0 where
  pub key : List ℕ → Bool
  pub row : Row → Bool
  pub cells : Row → Bool

-- a row with such cells in place of its own is one that they take, and its own cells in some columns are such cells
pub record AreRules (rules : Rules) : Type 0 where
  pub changed : (cells row : Row) → rules.cells cells ≡ true → rules.row row ≡ true → rules.row (with_cells cells row) ≡ true
  pub part : (columns row : Row) → rules.row row ≡ true → rules.cells (cells_under columns row) ≡ true

-- rules that take everything
abbrev pub no_rules : Rules
no_rules = record { key = λ q. true; row = λ r. true; cells = λ r. true }

abbrev pub RowPasses : Rules → Option Row → Type 0
RowPasses rules None = Unit {0}
RowPasses rules (Some row) = rules.row row ≡ true

abbrev pub ChangePasses : Rules → Change → Type 0
ChangePasses rules (Ins row) = rules.row row ≡ true
ChangePasses rules (Upd cells) = rules.cells cells ≡ true
ChangePasses rules Del = Unit {0}

abbrev pub EffectPasses : Rules → Option Change → Type 0
EffectPasses rules None = Unit {0}
EffectPasses rules (Some c) = ChangePasses rules c

-- an operation on such a key, of which each change that it may make passes
abbrev pub OpPasses : Rules → Row → RowOp → Type 0
OpPasses rules fill op = (rules.key op.key ≡ true) × ((row : Option Row) → EffectPasses rules (effect fill op.kind op.cells row).0)

abbrev pub OpsPass : Rules → Row → List RowOp → Type 0
OpsPass rules fill ops = AllOps (OpPasses rules fill) ops

-- the operations of a log
abbrev pub RecordsPass : Rules → Row → List Entry → Type 0
RecordsPass rules fill [] = Unit {0}
RecordsPass rules fill (Replicate ts ops ∷ records) = OpsPass rules fill ops × RecordsPass rules fill records
RecordsPass rules fill (Commit ts rows ∷ records) = RecordsPass rules fill records

-- the base rows of a rowset, those of deleted rows among them, and its UNDO and REDO records
abbrev pub BasePasses : Rules → Rows → Type 0
BasePasses rules [] = Unit {0}
BasePasses rules (r ∷ rows) = (rules.key r.0 ≡ true) × (rules.row r.1 ≡ true) × BasePasses rules rows

abbrev pub FilePasses : Rules → List Delta → Type 0
FilePasses rules [] = Unit {0}
FilePasses rules (d ∷ file) = ChangePasses rules d.change × FilePasses rules file

abbrev pub FilesPass : Rules → List (List Delta) → Type 0
FilesPass rules [] = Unit {0}
FilesPass rules (file ∷ files) = FilePasses rules file × FilesPass rules files

-- a rowset of such rows and records, of which the UNDO records fit the rows from which they lead back
pub record RowsetPasses (rules : Rules) (d : DiskRowset) : Type 0 where
  pub base : BasePasses rules d.base
  pub undos : FilesPass rules d.undos
  pub redos : FilesPass rules d.redos
  pub fits : undos_fit d ≡ true

abbrev pub RowsetsPass : Rules → List DiskRowset → Type 0
RowsetsPass rules [] = Unit {0}
RowsetsPass rules (d ∷ rowsets) = RowsetPasses rules d × RowsetsPass rules rowsets

-- changes that pass
abbrev pub StepsPass : Rules → Steps → Type 0
StepsPass rules [] = Unit {0}
StepsPass rules (c ∷ steps) = ChangePasses rules c.1 × StepsPass rules steps

-- a history of a key: it has nothing, or its key is such a key, and its first row and its changes pass
pub record HistPasses (rules : Rules) (q : List ℕ) (h : Hist) : Type 0 where
  pub key : (h ≡ never) ⊎ (rules.key q ≡ true)
  pub first : RowPasses rules h.first
  pub steps : StepsPass rules h.steps

-- then its rows pass at each time, and so do those that it would have without some of its changes, as without those of a DeltaMemStore
abbrev pub rows_of_a_history_pass : Type 0
rows_of_a_history_pass = (rules : Rules) (q : List ℕ) (h : Hist) (t : ℕ) (which : ℕ × Change → Bool) → AreRules rules → HistPasses rules q h
    → RowPasses rules (row_of t h) × RowPasses rules (row_of t (record h { steps = filter which h.steps }))
