use Rattle.kt_baseset.proofs.FrontFaults.{front_told}
use Rattle.kt_baseset.proofs.laws.front_law.Goals as goal

pub returns : goal.returns
returns c = λ bytes front rest size at fits stands lt. front_told bytes front rest size fits stands at lt
