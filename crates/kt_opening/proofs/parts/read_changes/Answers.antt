use Rattle.std.proofs.Common.{◌∙◌, Some, None, sym, ap, arith}
use Rattle.std.specs.Prelude.{if◌then◌else◌}
use Rattle.kt_opening.specs.OpeningTexts.{rows_now, fitting, joined}
use Rattle.kt_opening.proofs.OpeningSteps.{change_more}
use Rattle.kt_opening.proofs.parts.read_changes.Goals as goal

pub loop-left-preserved : goal.loop-left-preserved
loop-left-preserved c =
    let l = c.loop-left in (
      omega arith,
      c.in-Some.ensures.1,
      λ c' past ts live.
          change_more c.args.schema.now c.args.text.now c' past ts c.args.due c.args.start l.left l.at l.changes.items (l.invariant.2 c' past ts live) (omega arith) c.in-Some.line c.in-Some.ensures c.join.new.entries.items
          (ap (joined l.changes.items) (sym (c.fitting-change.ensures (rows_now past) live ∙ ap (fitting (rows_now past)) c.in_ok-change_of.ensures)) ∙ c.in_ok-join.ensures ∙ ap (λ b. if b then Some c.join.new.entries.items else None) c.if-not-branch.false),
    )
