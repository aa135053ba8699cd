use Rattle.kt_content.proofs.Opening.{opens}
use Rattle.kt_content.proofs.replaying.opening_law.Goals as goal

pub returns : goal.returns
returns c = opens
