use Rattle.kt_joblaws.proofs.ChangesOver.{changes_over}
use Rattle.kt_joblaws.proofs.laws.change_over_law.Goals as goal

pub returns : goal.returns
returns c = changes_over
