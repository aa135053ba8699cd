use Rattle.kt_outputs.proofs.InPlace.{comes, stands}
use Rattle.kt_outputs.proofs.laws.in_place_law.Goals as goal

pub returns : goal.returns
returns c = record { comes = comes; stands = stands }
