-- Which rows a schema takes.
use Rattle.std.specs.Prelude.{ℕ, max, Bool, true, false, not, ◌&&◌, ◌||◌, List, length, take, Option, Some, None, if◌then◌else◌, nat_lt}
use Rattle.std.specs.List.{slice_get}
use Rattle.std.specs.Option.{option_or, option_map}
use Rattle.kt_base.specs.declared.cell.Cell.{Cell}
use Rattle.kt_base.specs.declared.cell.Cell.TheVariants as cell
use Rattle.kt_key.specs.Fit.{has_kind}
use Rattle.kt_key.specs.Spelling.{spelling}
use Rattle.kt_schema.specs.declared.column.Column.{Column}
use Rattle.kt_schema.specs.declared.row.RowNo.{RowNo}
use Rattle.kt_schema.specs.declared.row.RowNo.TheVariants as no
use Rattle.kt_schema.specs.First.{first, passes_at}
use Rattle.kt_schema.specs.Columns.{key_kinds}

abbrev pub is_null : Cell → Bool
is_null cell.Null = true
is_null _ = false

-- one of column and cell is missing, or the cell is neither null nor of the column's kind
abbrev pub is_unlike : Option Column → Option Cell → Bool
is_unlike None None = false
is_unlike None (Some cell) = true
is_unlike (Some column) None = true
is_unlike (Some column) (Some cell) = not (is_null cell || has_kind column.kind cell)

-- null under a column that takes no null
abbrev pub is_forbidden : Option Column → Option Cell → Bool
is_forbidden None cell = false
is_forbidden (Some column) None = false
is_forbidden (Some column) (Some cell) = is_null cell && not column.nullable

-- more than 65,536 bytes
abbrev pub is_long : Cell → Bool
is_long (cell.Bytes bytes) = nat_lt 65536 (length bytes)
is_long _ = false

abbrev pub unlike_cell : List Column → List Cell → Option ℕ
unlike_cell columns row = first (λ k. is_unlike (slice_get columns k) (slice_get row k)) (max (length columns) (length row))

abbrev pub forbidden_null : List Column → List Cell → Option ℕ
forbidden_null columns row = first (λ k. is_forbidden (slice_get columns k) (slice_get row k)) (length row)

abbrev pub long_cell : List Cell → Option ℕ
long_cell row = first (passes_at is_long row) (length row)

-- the length of the row's encoded key
abbrev pub key_length : List Column → List Cell → ℕ
key_length columns row = length (spelling (key_kinds columns) (take (length (key_kinds columns)) row))

-- why the columns do not take the row: the least reason, and in it the least place
abbrev pub row_no : List Column → List Cell → Option RowNo
row_no columns row = option_or (option_map no.S6 (unlike_cell columns row))
    (option_or (option_map no.S7 (forbidden_null columns row))
    (option_or (option_map no.S8 (long_cell row))
    (if nat_lt 16384 (key_length columns row) then Some (no.S9 (key_length columns row)) else None)))
