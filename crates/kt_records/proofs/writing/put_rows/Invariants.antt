use Rattle.std.proofs.Common.{◌≡◌, ◌++◌, take}
use Rattle.std.specs.List.{flat_map}
use Rattle.kt_records.specs.Spelling.{commit_row}
use Rattle.kt_records.proofs.writing.put_rows.Given as goal

abbrev pub invariant-rows : goal.invariant-rows
invariant-rows l = (l.out.front ≡ l.initial.out.front) × (l.out.added ≡ l.initial.out.added ++ flat_map commit_row (take l.row-index l.rows))
