use Rattle.kt_reopen.proofs.Firsts.{firsts_are}
use Rattle.kt_reopen.proofs.laws.first_law.Goals as goal

pub returns : goal.returns
returns c = firsts_are
