use Rattle.kt_outputs.proofs.LateFiles.{late_stand, others_hold}
use Rattle.kt_outputs.proofs.LateNamed.{late_named}
use Rattle.kt_outputs.proofs.laws.again_law.Goals as goal

pub returns : goal.returns
returns c = record { named = late_named; stand = late_stand; others = others_hold }
