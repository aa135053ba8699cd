use Rattle.kt_joblaws.proofs.Rewritten.{rewritten_stands}
use Rattle.kt_joblaws.proofs.laws.rewrite_law.Goals as goal

pub returns : goal.returns
returns c = rewritten_stands
