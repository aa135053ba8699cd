-- The one spelling of a delta file. Numbers are little-endian.
use Rattle.std.specs.Prelude.{ℕ, List, [], ◌∷◌, ◌++◌, length}
use Rattle.std.specs.List.{flat_map}
use Rattle.std.specs.Int.{w32, w64, to_le_bytes}
use Rattle.kt_history.specs.declared.change.Change.{Change}
use Rattle.kt_history.specs.declared.change.Change.TheVariants.{Ins, Upd, Del}
use Rattle.kt_history.specs.declared.changes.Delta.{Delta}
use Rattle.kt_cells.specs.Spelling.{cell_list}
use Rattle.kt_deltafile.specs.declared.file.Way.{Way}
use Rattle.kt_deltafile.specs.declared.file.Way.TheVariants.{Redo, Undo}

-- which way the records lead
abbrev pub way_byte : Way → ℕ
way_byte Redo = 1
way_byte Undo = 2

-- a change: what it is, and the cells that it lists
abbrev pub change_bytes : Change → List ℕ
change_bytes (Ins cells) = 1 ∷ cell_list cells
change_bytes (Upd cells) = 2 ∷ cell_list cells
change_bytes Del = 3 ∷ []

-- a record: its row's ordinal, its timestamp and its change
abbrev pub record_bytes : Delta → List ℕ
record_bytes d = to_le_bytes w32 d.ordinal ++ to_le_bytes w64 d.ts ++ change_bytes d.change

-- the letters KTD1, as a number
abbrev pub ktd1 : ℕ
ktd1 = 0x3144544b

-- a delta file: the letters KTD1, the way, and the records behind their count
abbrev pub spelling : Way → List Delta → List ℕ
spelling way list = to_le_bytes w32 ktd1 ++ (way_byte way ∷ (to_le_bytes w32 (length list) ++ flat_map record_bytes list))
