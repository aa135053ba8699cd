-- The rules of a table: the keys, the rows and the cells that its columns take.
use Rattle.std.specs.Prelude.{ℕ, Bool, ◌&&◌, ◌==◌, nat_le, List, length}
use Rattle.std.specs.Ordering.{eq_by_cmp}
use Rattle.kt_base.specs.declared.cell.Kind.{Kind}
use Rattle.kt_base.specs.Keys.{key_cells}
use Rattle.kt_key.specs.Fit.{is_key}
use Rattle.kt_key.specs.Spelling.{spelling}
use Rattle.kt_schema.specs.declared.column.Column.{Column}
use Rattle.kt_schema.specs.Columns.{key_kinds, other_columns}
use Rattle.kt_history.specs.Rows.{Row, key_cmp}
use Rattle.kt_script.specs.Fit.{is_part}
use Rattle.kt_content.specs.Rules.{Rules}

-- the one spelling of key cells of these kinds
abbrev pub is_spelling : List Kind → List ℕ → Bool
is_spelling kinds key = is_key kinds (key_cells kinds key) && eq_by_cmp key_cmp (spelling kinds (key_cells kinds key)) key

-- a cell for each of the columns in their order, which takes it
abbrev pub is_row : List Column → Row → Bool
is_row columns row = is_part columns row && (length row == length columns)

-- a key is a spelling of at most 16,384 bytes, a row has a cell for each column that is no key, and an update cells for some of them
abbrev pub rules_of : List Column → Rules
rules_of columns = record {
  key = λ key. is_spelling (key_kinds columns) key && nat_le (length key) 16384;
  row = is_row (other_columns columns);
  cells = is_part (other_columns columns);
}
