use Rattle.kt_joblaws.proofs.Listed.{they_tell}
use Rattle.kt_joblaws.proofs.laws.lists_law.Goals as goal

pub returns : goal.returns
returns c = they_tell
