use Rattle.kt_base.proofs.Decimals.{not_front, differ}
use Rattle.kt_script.proofs.split.after.Goals as goal

pub returns-else-eq-clause-none : goal.returns-else-eq-clause-none
returns-else-eq-clause-none c = not_front c.args.text.now c.args.word.now c.split_at.result.0.now c.split_at.ensures.front (differ c.split_at.result.0.now c.args.word.now c.if-eq.ensures)
