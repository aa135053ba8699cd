use Rattle.std.proofs.Common.{◌+◌, ◌∙◌, ℕ, ap, refl, arith}
use Rattle.std.proofs.lemmas.List.{take_rest}
use Rattle.kt_front.specs.Spelling.{shared}
use Rattle.kt_front.specs.Walking.{order}
use Rattle.kt_front.proofs.walking.Meeting.next.Goals as goal

pub returns-then-cell-self-clause-near_alike : goal.returns-then-cell-self-clause-near_alike
returns-then-cell-self-clause-near_alike c = λ le. ap (λ (m : ℕ). c.args.cell.shared + m) (c.meet-met.ensures.alike ∙ ap (shared c.args.cell.rest.now) (take_rest c.args.key.now c.args.cell.shared))

pub returns-then-cell-self-clause-near_way : goal.returns-then-cell-self-clause-near_way
returns-then-cell-self-clause-near_way c = λ le. c.meet-met.ensures.way ∙ ap (order c.args.cell.rest.now) (take_rest c.args.key.now c.args.cell.shared)

pub returns-then-cell-self-clause-far_alike : goal.returns-then-cell-self-clause-far_alike
returns-then-cell-self-clause-far_alike c = λ lt. absurd (omega (arith, lt, c.if-cell-self.true))

pub returns-then-cell-self-clause-far_way : goal.returns-then-cell-self-clause-far_way
returns-then-cell-self-clause-far_way c = λ lt. absurd (omega (arith, lt, c.if-cell-self.true))

pub returns-else-cell-self-clause-near_alike : goal.returns-else-cell-self-clause-near_alike
returns-else-cell-self-clause-near_alike c = λ le. absurd (omega (arith, le, c.if-cell-self.false))

pub returns-else-cell-self-clause-near_way : goal.returns-else-cell-self-clause-near_way
returns-else-cell-self-clause-near_way c = λ le. absurd (omega (arith, le, c.if-cell-self.false))

pub returns-else-cell-self-clause-far_alike : goal.returns-else-cell-self-clause-far_alike
returns-else-cell-self-clause-far_alike c = λ lt. refl

pub returns-else-cell-self-clause-far_way : goal.returns-else-cell-self-clause-far_way
returns-else-cell-self-clause-far_way c = λ lt. refl
