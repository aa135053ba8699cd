use Rattle.kt_joblaws.proofs.Telling.{rowset_tells}
use Rattle.kt_joblaws.proofs.laws.telling_law.Goals as goal

pub returns : goal.returns
returns c = rowset_tells
