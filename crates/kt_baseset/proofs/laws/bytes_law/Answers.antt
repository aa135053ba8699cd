use Rattle.kt_baseset.proofs.Once.{base_is}
use Rattle.kt_baseset.proofs.laws.bytes_law.Goals as goal

pub returns : goal.returns
returns c = base_is
