use Rattle.std.proofs.Common.{◌∙◌, Some, None, sym, ap, arith}
use Rattle.std.specs.Prelude.{if◌then◌else◌}
use Rattle.kt_opening.specs.OpeningTexts.{joined}
use Rattle.kt_opening.proofs.OpeningSteps.{row_more}
use Rattle.kt_opening.proofs.parts.read_rows.Goals as goal

pub loop-left-preserved : goal.loop-left-preserved
loop-left-preserved c =
    let l = c.loop-left in (
      c.in-Some.ensures.1,
      λ a c'.
          row_more c.args.schema.now c.args.text.now a c' c.args.due c.args.start l.left l.at l.rows.items (l.invariant.1 a c') (omega arith) c.in-Some.line c.in-Some.ensures c.join.new.entries.items
          (ap (joined l.rows.items) (sym c.in_ok-row.ensures) ∙ c.in_ok-join.ensures ∙ ap (λ b. if b then Some c.join.new.entries.items else None) c.if-not-branch.false),
    )
