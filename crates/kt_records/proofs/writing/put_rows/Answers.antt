use Rattle.std.proofs.Common.{[], length, sym, subst}
use Rattle.kt_records.specs.declared.entry.CommitRow.{CommitRow}
use Rattle.kt_records.specs.Rules.{RowFits}
use Rattle.kt_cells.proofs.Items.{each_at}
use Rattle.kt_records.proofs.Commits.{few_targets}
use Rattle.kt_records.proofs.writing.put_rows.Goals as goal

pub put_row-requires : goal.put_row-requires
put_row-requires c =
    let row = subst (λ (row : CommitRow). RowFits row) (sym c.row-item.is) (each_at (λ front row. RowFits row) c.args.rows.now [] c.rows.row-index c.row-item.result c.requires c.rows-test.true) in
    few_targets c.row-item.result.outcome (length c.row-item.result.targets) row.count
