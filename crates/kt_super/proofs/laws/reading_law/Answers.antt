use Rattle.std.proofs.Common.{refl}
use Rattle.kt_super.specs.Body.{slot_for}
use Rattle.kt_super.proofs.SlotLaws.{slot_again}
use Rattle.kt_super.proofs.laws.reading_law.Goals as goal

pub returns : goal.returns
returns c = λ m more is fits few. slot_again (slot_for m.number) m more is refl fits few
