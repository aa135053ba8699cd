use Rattle.kt_reopen.proofs.Firsts.{same_opened}
use Rattle.kt_reopen.proofs.laws.names_law.Goals as goal

pub returns : goal.returns
returns c = same_opened
