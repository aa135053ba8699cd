use Rattle.std.proofs.Common.{refl}
use Rattle.kt_bytes.proofs.texts.Texts.clear.Goals as goal

pub invariant_of-self : goal.invariant_of-self
invariant_of-self c = rw (c.clear-2.ensures.items, c.clear.ensures.items) refl

pub returns : goal.returns
returns c = rw c.clear-2.ensures.items refl
