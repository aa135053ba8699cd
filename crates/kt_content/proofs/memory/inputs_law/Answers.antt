use Rattle.kt_content.proofs.InMemory.{inputs_alike}
use Rattle.kt_content.proofs.memory.inputs_law.Goals as goal

pub returns : goal.returns
returns c = inputs_alike
