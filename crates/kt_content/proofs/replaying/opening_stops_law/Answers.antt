use Rattle.kt_content.proofs.Opening.{stopped}
use Rattle.kt_content.proofs.replaying.opening_stops_law.Goals as goal

pub returns : goal.returns
returns c = stopped
