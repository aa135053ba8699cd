use Rattle.std.proofs.Common.{arith}
use Rattle.kt_super.proofs.BodyParts.{body_takes}
use Rattle.kt_super.proofs.slot.body_told.Goals as goal

pub returns-then-is_empty-clause-rules : goal.returns-then-is_empty-clause-rules
returns-then-is_empty-clause-rules c =
    (body_takes c.args.slot _ (c.in-Ok.meta, c.in-Ok.behind.now) (λ i. omega (arith, c.type_inv.body i)) c.in-Ok.ensures).1.rules
