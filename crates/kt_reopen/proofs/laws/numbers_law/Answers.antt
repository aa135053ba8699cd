use Rattle.kt_reopen.proofs.FreshNumbers.{numbers_fresh}
use Rattle.kt_reopen.proofs.laws.numbers_law.Goals as goal

pub returns : goal.returns
returns c = numbers_fresh
