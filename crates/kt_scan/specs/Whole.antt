-- A whole row, as it is read for a scan.
use Rattle.std.specs.Prelude.{ℕ, Bool, List, Option, Some, None, true, ◌||◌, ◌++◌, map}
use Rattle.std.specs.List.{list_any}
use Rattle.std.specs.Ordering.{nat_cmp, eq_by_cmp}
use Rattle.kt_schema.specs.declared.column.Column.{Column}
use Rattle.kt_history.specs.Rows.{Row}
use Rattle.kt_history.specs.declared.scan.Scan.{Scan}
use Rattle.kt_base.specs.Borrowed.{cell_in}
use Rattle.kt_scan.specs.declared.row.WholeRow.{WholeRow}
use Rattle.kt_scan.specs.Encoded.{ids_with}

-- every cell by its column, the key's first
abbrev pub whole_in : List Column → WholeRow → Row
whole_in columns row = ids_with columns (map cell_in row.key.items) ++ row.others

-- whether a column of this id is among these
abbrev pub has_id : List Column → ℕ → Bool
has_id columns id = list_any (λ c. eq_by_cmp nat_cmp id c.id) columns

-- whether a selection shows a key column
abbrev pub shows_key : List Column → Option (List ℕ) → Bool
shows_key columns None = true
shows_key columns (Some ids) = list_any (has_id columns) ids

-- whether a scan shows or tests a key column
abbrev pub reads_key : List Column → Scan → Bool
reads_key columns scan = list_any (λ p. has_id columns p.column) scan.preds || shows_key columns scan.columns
