use Rattle.std.proofs.Common.{ap, ◌∙◌, sym}
use Rattle.kt_base.specs.Literals.{pairs}
use Rattle.kt_base.proofs.Unquoting.{after_bytes, after_byte}
use Rattle.kt_base.proofs.literal.unpair.Goals as goal

pub pairs-preserved : goal.pairs-preserved
pairs-preserved c =
    c.pairs.invariant ∙ (ap (after_bytes c.pairs.bytes) c.in-Byte.ensures.0 ∙ (after_byte c.pairs.bytes c.in-Byte.byte (pairs c.in-Byte.behind.now) ∙ ap (λ x. after_bytes x (pairs c.in-Byte.behind.now)) (sym c.in_ok-push-in-Byte.ensures.ok)))
