use Rattle.kt_reopen.proofs.OwedTold.{owed_told}
use Rattle.kt_reopen.proofs.laws.owed_law.Goals as goal

pub returns : goal.returns
returns c = owed_told
