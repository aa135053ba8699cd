use Rattle.kt_baseset.proofs.Once.{base_once}
use Rattle.kt_baseset.proofs.laws.spelling_law.Goals as goal

pub returns : goal.returns
returns c = base_once
