use Rattle.kt_base.proofs.Literals.{all_spelled}
use Rattle.kt_base.proofs.literal.spellings_law.Goals as goal

pub returns : goal.returns
returns c = all_spelled
