use Rattle.kt_super.proofs.SlotTakes.{bytes_fit, slot_takes}
use Rattle.kt_super.proofs.laws.spelling_law.Goals as goal

pub returns : goal.returns
returns c = λ slot bytes m fits told. slot_takes slot bytes m (bytes_fit bytes fits) told
