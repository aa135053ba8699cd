use Rattle.kt_super.proofs.SlotLaws.{slot_place}
use Rattle.kt_super.proofs.SlotTakes.{bytes_fit}
use Rattle.kt_super.proofs.laws.place_law.Goals as goal

pub returns : goal.returns
returns c = λ slot bytes place is fits told. slot_place slot bytes place is (bytes_fit bytes fits) told
