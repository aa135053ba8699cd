use Rattle.std.proofs.Common.{◌++◌, take, ap, subst, arith}
use Rattle.kt_reopen.specs.Numbers.{named_of}
use Rattle.kt_reopen.specs.Opened.{IsNamedBy}
use Rattle.kt_reopen.proofs.Adding.{row_more}
use Rattle.kt_reopen.proofs.numbers.add_rows.Goals as goal

pub rows-preserved : goal.rows-preserved
rows-preserved c before h =
    let so_far = before ++ named_of (take c.rows.row-index c.args.rows.now) in
    row_more c.add_all.new.named before c.args.rows.now c.rows.row-index c.row-item.result (omega arith) c.row-item.is
    (subst (IsNamedBy c.add_all.new.named) (ap (λ ts. so_far ++ ts) c.as_slice.ensures) (c.in_ok-add_all.ensures so_far (c.rows.invariant before h)))
