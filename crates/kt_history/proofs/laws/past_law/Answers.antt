use Rattle.kt_history.specs.Machine.{start}
use Rattle.kt_history.proofs.PastLaws.{ends_after_all}
use Rattle.kt_history.proofs.laws.past_law.Goals as goal

pub returns : goal.returns
returns c = λ work past last events keys up run. ends_after_all work (start work past last) events keys run up
