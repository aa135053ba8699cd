use Rattle.std.proofs.Common.{sym, subst, arith}
use Rattle.std.specs.List.{between}
use Rattle.kt_history.specs.Rows.{Rows}
use Rattle.kt_diskrowset.specs.Data.{keys_of}
use Rattle.kt_diskrowset.specs.Gathered.{Holds}
use Rattle.kt_diskrowset.specs.Page.{told_at, rows_under}
use Rattle.kt_diskrowset.proofs.Pages.{rows_more}
use Rattle.kt_diskrowset.proofs.data.RowSetData.rows_between.Goals as goal

pub rows-preserved : goal.rows-preserved
rows-preserved c =
    let d = c.args.self.now in
    subst (λ (rs : Rows). Holds c.args.columns.now rs c.push_row.new.gathered) (sym (rows_more (told_at c.args.t d) d.base.set.value.rows c.args.start c.rows.ordinal (omega arith) (omega arith)))
    (c.in_ok-push_row.ensures (rows_under (told_at c.args.t d) (between c.args.start c.rows.ordinal (keys_of d))) c.rows.invariant)
