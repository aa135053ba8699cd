use Rattle.kt_joblaws.proofs.Later.{may_rise}
use Rattle.kt_joblaws.proofs.laws.rise_law.Goals as goal

pub returns : goal.returns
returns c = may_rise
