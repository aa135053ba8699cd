use Rattle.kt_joblaws.proofs.ListsRise.{they_rise}
use Rattle.kt_joblaws.proofs.laws.rising_law.Goals as goal

pub returns : goal.returns
returns c = they_rise
