use Rattle.kt_base.proofs.Literals.{all_read}
use Rattle.kt_base.proofs.literal.literals_law.Goals as goal

pub returns : goal.returns
returns c = all_read
