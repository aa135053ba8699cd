use Rattle.kt_outputs.proofs.Fewer.{fewer_named, fewer_stand}
use Rattle.kt_outputs.proofs.laws.fewer_law.Goals as goal

pub returns : goal.returns
returns c = record { named = fewer_named; stand = fewer_stand }
