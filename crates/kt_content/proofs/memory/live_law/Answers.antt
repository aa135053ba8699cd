use Rattle.kt_content.proofs.InMemory.{live_places}
use Rattle.kt_content.proofs.memory.live_law.Goals as goal

pub returns : goal.returns
returns c = live_places
