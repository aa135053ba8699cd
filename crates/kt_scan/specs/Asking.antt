-- What a scan asks of the other cells of a row.
use Rattle.std.specs.Prelude.{ℕ, not, List, [], ◌++◌, map, unwrap_or}
use Rattle.std.specs.List.{filter}
use Rattle.kt_schema.specs.declared.column.Column.{Column}
use Rattle.kt_history.specs.declared.scan.Scan.{Scan}
use Rattle.kt_scan.specs.Whole.{has_id}

-- the columns of these that are no key
abbrev pub others_in : List Column → List ℕ → List ℕ
others_in keys ids = filter (λ id. not (has_id keys id)) ids

-- those that it tests, and those that it selects
abbrev pub asked_ids : List Column → Scan → List ℕ
asked_ids keys scan = others_in keys (map (λ p. p.column) scan.preds) ++ others_in keys (unwrap_or scan.columns [])
