use Rattle.kt_content.proofs.Recovering.{each_front}
use Rattle.kt_content.proofs.crashes.each_front_law.Goals as goal

pub returns : goal.returns
returns c = each_front
