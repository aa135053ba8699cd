-- Changes in places of a pool.
use Rattle.std.specs.Prelude.{ℕ, zero, suc, ◌+◌, List, ◌∷◌, drop, slice_index}
use Rattle.std.specs.List.{sum_by}
use Rattle.kt_base.specs.declared.cell.Cell.{Cell}
use Rattle.kt_cells.specs.Spelling.{cell_list}
use Rattle.kt_cells.specs.Spelled.{SpellsCells}
use Rattle.kt_cells.specs.Reading.{cells_behind}
use Rattle.kt_history.specs.declared.change.Change.{Change}
use Rattle.kt_history.specs.declared.target.Kindly.{Kindly}
use Rattle.kt_history.specs.declared.target.Kindly.TheVariants.{Ins, Upd, Del}
use Rattle.kt_history.specs.Rows.{Row}
use Rattle.kt_history.specs.Operations.{cell_len}
use Rattle.kt_history.specs.Stores.{change_of}

abbrev pub kind_byte : Kindly → ℕ
kind_byte Ins = 1
kind_byte Upd = 2
kind_byte Del = 3

abbrev pub kind_of : ℕ → Kindly
kind_of zero = Del
kind_of (suc zero) = Ins
kind_of (suc (suc zero)) = Upd
kind_of (suc (suc (suc b))) = Del

-- the bytes of a change: its kind, and its cells as they are spelled behind their count
abbrev pub spelling : Kindly → Row → List ℕ
spelling kind cells = kind_byte kind ∷ cell_list cells

-- how many these are
abbrev pub change_len : Row → ℕ
change_len cells = 3 + sum_by (λ (c : ℕ × Cell). 2 + cell_len c.1) cells

-- the change that some bytes say
abbrev pub change_in : List ℕ → Change
change_in bytes = change_of (kind_of (slice_index bytes 0)) (cells_behind (drop 1 bytes))

-- they are a change's: cells that have a spelling stand behind the kind
abbrev pub SpellsChange : List ℕ → Type 0
SpellsChange bytes = SpellsCells (drop 1 bytes)
