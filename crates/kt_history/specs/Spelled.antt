-- How operations are spelled, in the log and in memory. Numbers are little-endian.
use Rattle.std.specs.Prelude.{◌≡◌, ℕ, zero, suc, ◌+◌, ◌^◌, ◌<◌, List, ◌∷◌, ◌++◌, length, take, drop, get_or, map}
use Rattle.std.specs.Int.{w16, to_le_bytes, from_le_bytes}
use Rattle.kt_cells.specs.Spelling.{cell_list}
use Rattle.kt_cells.specs.Rules.{CellListFits}
use Rattle.kt_cells.specs.Reading.{cells_behind}
use Rattle.kt_history.specs.declared.operation.OpKind.{OpKind}
use Rattle.kt_history.specs.declared.operation.OpKind.TheVariants.{Insert, Upsert, Update, Delete, InsertIgnore, UpdateIgnore, DeleteIgnore}
use Rattle.kt_history.specs.declared.operation.RowOp.{RowOp}

abbrev pub kind : OpKind → ℕ
kind Insert = 1
kind Upsert = 2
kind Update = 3
kind Delete = 4
kind InsertIgnore = 5
kind UpdateIgnore = 6
kind DeleteIgnore = 7

-- the kind of a number, and a delete that ignores where it is none
abbrev pub kind_of : ℕ → OpKind
kind_of zero = DeleteIgnore
kind_of (suc zero) = Insert
kind_of (suc (suc zero)) = Upsert
kind_of (suc (suc (suc zero))) = Update
kind_of (suc (suc (suc (suc zero)))) = Delete
kind_of (suc (suc (suc (suc (suc zero))))) = InsertIgnore
kind_of (suc (suc (suc (suc (suc (suc zero)))))) = UpdateIgnore
kind_of (suc (suc (suc (suc (suc (suc (suc n))))))) = DeleteIgnore

-- an operation: its kind, its key behind the key's length, and its cells
abbrev pub operation : RowOp → List ℕ
operation op = kind op.kind ∷ (to_le_bytes w16 (length op.key) ++ op.key ++ cell_list op.cells)

-- the operation that some bytes spell
abbrev pub key_len : List ℕ → ℕ
key_len bytes = from_le_bytes w16 (take 2 (drop 1 bytes))

abbrev pub op_in : List ℕ → RowOp
op_in bytes = record { kind = kind_of (get_or bytes 0 0); key = take (key_len bytes) (drop 3 bytes); cells = cells_behind (drop (3 + key_len bytes) bytes) }

abbrev pub ops_in : List (List ℕ) → List RowOp
ops_in texts = map op_in texts

-- its key is not too long for its length, and its cells have a spelling
pub record OpFits (op : RowOp) : Type 0 where
  pub key : length op.key < 2 ^ 16
  pub cells : CellListFits op.cells

-- the operation that is read has a spelling, and it is these bytes
pub record SpellsOp (bytes : List ℕ) : Type 0 where
  pub fits : OpFits (op_in bytes)
  pub is : bytes ≡ operation (op_in bytes)
