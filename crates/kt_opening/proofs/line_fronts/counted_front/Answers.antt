use Rattle.std.proofs.Common.{subst, arith}
use Rattle.kt_script.specs.Places.{IsFault}
use Rattle.kt_script.specs.Fronts.{IsNumber}
use Rattle.kt_script.specs.OutForms.{LONG}
use Rattle.kt_script.proofs.OutForms.{counted_short, counted_none, counted_some}
use Rattle.kt_opening.proofs.line_fronts.counted_front.Goals as goal

pub returns-then-at-before : goal.returns-then-at-before
returns-then-at-before c = counted_short c.args.before.now LONG c.args.text.now c.word_front-at.result (omega arith) c.word_front-at.ensures c.if-at-before.true

pub returns-then-digits-eq0 : goal.returns-then-digits-eq0
returns-then-digits-eq0 c =
    counted_none c.args.before.now LONG c.args.text.now c.split_at.result.1.now c.word_front-at.result (omega arith) c.word_front-at.ensures c.if-at-before.false c.split_at.ensures.back
    (subst (λ n. IsFault (IsNumber LONG) c.split_at.result.1.now n) c.if-digits-eq0.true c.number_front-digits.ensures)

pub returns-else-digits-eq0 : goal.returns-else-digits-eq0
returns-else-digits-eq0 c =
    let none = c.if-digits-eq0.false in
    counted_some c.args.before.now LONG c.args.text.now c.split_at.result.1.now c.word_front-at.result c.number_front-digits.result (omega arith) c.word_front-at.ensures c.if-at-before.false c.split_at.ensures.back c.number_front-digits.ensures (omega arith)
