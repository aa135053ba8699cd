use Rattle.kt_loglaws.proofs.Fronts.{crash_leaves}
use Rattle.kt_loglaws.proofs.laws.crash_law.Goals as goal

pub returns : goal.returns
returns c = crash_leaves
