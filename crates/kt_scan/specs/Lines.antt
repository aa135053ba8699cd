-- The line that a scan shows of one key.
use Rattle.std.specs.Prelude.{ℕ, List, Option, Some, None, if◌then◌else◌}
use Rattle.kt_base.specs.declared.cell.Kind.{Kind}
use Rattle.kt_base.specs.declared.cell.Cell.{Cell}
use Rattle.kt_history.specs.declared.scan.Scan.{Scan}
use Rattle.kt_history.specs.Rows.{Row}
use Rattle.kt_history.specs.Replies.{whole_row, kept, selected}

-- the selected cells of a whole row that passes the tests
abbrev pub cut : Scan → Row → Option (List Cell)
cut scan whole = if kept scan.preds whole then Some (selected scan.columns whole) else None

abbrev pub line_of : List (ℕ × Kind) → Scan → List ℕ → Option Row → Option (List Cell)
line_of keys scan key None = None
line_of keys scan key (Some row) = cut scan (whole_row keys (key, row))
