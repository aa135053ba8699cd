use Rattle.kt_joblaws.proofs.Standing.{stand_apart}
use Rattle.kt_joblaws.proofs.laws.apart_law.Goals as goal

pub returns : goal.returns
returns c = stand_apart
