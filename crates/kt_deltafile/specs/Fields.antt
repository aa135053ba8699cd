-- The fields of a delta file, which tell the place of a fault.
use Rattle.std.specs.Prelude.{ℕ, List, [], ◌∷◌, length}
use Rattle.std.specs.List.{flat_map}
use Rattle.std.specs.Int.{w32, w64, to_le_bytes}
use Rattle.kt_history.specs.declared.change.Change.{Change}
use Rattle.kt_history.specs.declared.change.Change.TheVariants.{Ins, Upd, Del}
use Rattle.kt_history.specs.declared.changes.Delta.{Delta}
use Rattle.kt_bytes.specs.Places.{IsSpelled}
use Rattle.kt_cells.specs.Fields.{cell_list_fields}
use Rattle.kt_deltafile.specs.File.{FileView}
use Rattle.kt_deltafile.specs.Rules.{FileFits}
use Rattle.kt_deltafile.specs.Spelling.{way_byte, ktd1}

-- a change: what it is, and the cells that it lists
abbrev pub change_fields : Change → List (List ℕ)
change_fields (Ins cells) = (1 ∷ []) ∷ cell_list_fields cells
change_fields (Upd cells) = (2 ∷ []) ∷ cell_list_fields cells
change_fields Del = (3 ∷ []) ∷ []

-- a record: its row's ordinal, its timestamp and its change
abbrev pub record_fields : Delta → List (List ℕ)
record_fields d = to_le_bytes w32 d.ordinal ∷ to_le_bytes w64 d.ts ∷ change_fields d.change

-- a file: the letters KTD1, the way, the count of the records, and the records
abbrev pub file_fields : FileView → List (List ℕ)
file_fields f = to_le_bytes w32 ktd1 ∷ (way_byte f.way ∷ []) ∷ to_le_bytes w32 (length f.list) ∷ flat_map record_fields f.list

-- the fields are those of a file over so many rows
abbrev pub Spelled : ℕ → List (List ℕ) → Type 0
Spelled rows all = IsSpelled file_fields (λ f. FileFits f.way rows f.list) all
