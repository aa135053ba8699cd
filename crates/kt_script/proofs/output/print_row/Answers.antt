use Rattle.std.proofs.Common.{arith, sym, ◌∙◌, ap, ◌++◌, length, ◌<◌, get_or}
use mathlib.Core.List.{append-nil}
use Rattle.kt_base.specs.declared.cell.Kind.TheVariants.{Bool}
use Rattle.kt_base.specs.Borrowed.{cell_in}
use Rattle.kt_base.specs.Literals.{literal}
use Rattle.kt_script.specs.Texts.{words}
use Rattle.kt_script.proofs.Words.{row_more, literals_end, space_first, space_later}
use Rattle.kt_script.proofs.output.print_row.Goals as goal
use Rattle.kt_script.proofs.output.print_row.Goals.{then-at-gt0+in_ok-push, else-at-gt0}

pub cells-preserved : goal.cells-preserved
cells-preserved c =
    let at = c.cells.at in
    let kinds = c.args.kinds.now in
    let cells = c.args.row.now in
    let cell = cell_in c.at-cell.result in
    let below : at < length cells = omega arith in
    let kind_below : at < length kinds = omega arith in
    let printed = c.in_ok-append_literal.ensures.ok ∙ ap (λ x. c.if-at-gt0.out ++ literal (get_or kinds at Bool) x) c.at-cell.ensures in
    let step = row_more Bool cell kinds cells at c.args.out.now c.cells.out c.if-at-gt0.out c.append_literal.new.out kind_below below c.cells.invariant in
    elim c.if-at-gt0.branch [
      | then-at-gt0+in_ok-push w ↦ step (w.out-is ∙ (w.in_ok-push.ensures.ok ∙ ap (λ s. c.cells.out ++ s) (sym (space_later at w.if-at-gt0.true)))) printed
      | else-at-gt0 w ↦ step (w.out-is ∙ (sym (append-nil c.cells.out) ∙ ap (λ s. c.cells.out ++ s) (sym (space_first at w.if-at-gt0.false)))) printed
    ]

pub returns : goal.returns
returns c = record { ok = c.cells.invariant ∙ ap (λ ws. c.args.out.now ++ words ws) (literals_end c.args.kinds.now c.args.row.now c.cells.at (omega arith) (omega arith)) }
