use Rattle.std.proofs.Common.{◌<◌, ◌-◌, length, get_or, sym, ap, ◌∙◌, arith}
use Rattle.kt_base.specs.declared.cell.Cell.TheVariants.{Null}
use Rattle.kt_column.proofs.KeyFalls.{last_cell, last_text}
use Rattle.kt_column.proofs.rising.last_key.Goals as goal

pub unreachable-requires : goal.unreachable-requires
unreachable-requires c =
    let some : 0 < length c.args.column.now.cells = omega arith in
    c.in_default.not-Bytes _ (c.in_ok-key.ensures ∙ (ap (λ n. get_or c.args.column.now.cells (n - 1) Null) c.len-count.ensures ∙ last_cell c.args.column.now.cells c.requires some))

pub returns : goal.returns
returns c =
    let some : 0 < length c.args.column.now.cells = omega arith in
    last_text c.args.column.now.cells c.in-Bytes.key c.requires some (sym c.in-Bytes.is ∙ (c.in_ok-key.ensures ∙ ap (λ n. get_or c.args.column.now.cells (n - 1) Null) c.len-count.ensures))
