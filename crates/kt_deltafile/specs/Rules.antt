-- What delta files keep to: the lists that have a spelling.
use Rattle.std.specs.Prelude.{◌≡◌, ℕ, ◌^◌, ◌<◌, Bool, true, false, List, [], length}
use Rattle.kt_base.specs.declared.cell.Cell.{Cell}
use Rattle.kt_history.specs.declared.change.Change.{Change}
use Rattle.kt_history.specs.declared.change.Change.TheVariants.{Ins, Upd, Del}
use Rattle.kt_history.specs.declared.changes.Delta.{Delta}
use Rattle.kt_cells.specs.Rules.{EachAfter, FollowingCell}
use Rattle.kt_deltafile.specs.declared.file.Way.{Way}
use Rattle.kt_deltafile.specs.declared.file.Way.TheVariants.{Redo, Undo}
use Rattle.kt_deltafile.specs.Order.{may_come, may_follow}

-- whether a record of this way may be an insert
abbrev pub may_insert : Way → Bool
may_insert Redo = false
may_insert Undo = true

-- cells by rising id, fewer than their count can say
pub record CellsFit (cells : List (ℕ × Cell)) : Type 0 where
  pub count : length cells < 2 ^ 16
  pub each : EachAfter FollowingCell [] cells

pub record InsertFits (way : Way) (listed : List (ℕ × Cell)) : Type 0 where
  pub allowed : may_insert way ≡ true
  pub cells : CellsFit listed

abbrev pub ChangeFits : Way → Change → Type 0
ChangeFits way (Ins cells) = InsertFits way cells
ChangeFits way (Upd cells) = CellsFit cells
ChangeFits way Del = Unit {0}

-- the record stands behind those before it, its row is one of so many, and its values fit their fields
pub record Follows (way : Way) (rows : ℕ) (front : List Delta) (d : Delta) : Type 0 where
  pub comes : may_come rows front d.ordinal ≡ true
  pub ordinal : d.ordinal < 2 ^ 32
  pub order : may_follow way front d.ordinal d.ts ≡ true
  pub ts : d.ts < 2 ^ 64
  pub change : ChangeFits way d.change

-- the records of a file of this way over so many rows
pub record FileFits (way : Way) (rows : ℕ) (list : List Delta) : Type 0 where
  pub count : length list < 2 ^ 32
  pub each : EachAfter (Follows way rows) [] list

-- the list has the order and the form of the way, and so has a spelling
abbrev pub IsFile : Way → List Delta → Type 0
IsFile way list = FileFits way (2 ^ 32) list
