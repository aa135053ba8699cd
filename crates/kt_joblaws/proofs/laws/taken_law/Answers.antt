use Rattle.kt_joblaws.proofs.TakenPasses.{taken_passes}
use Rattle.kt_joblaws.proofs.laws.taken_law.Goals as goal

pub returns : goal.returns
returns c = taken_passes
