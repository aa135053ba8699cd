use Rattle.kt_content.proofs.Opened.{opened_mirror}
use Rattle.kt_content.proofs.recoverable.opened_mirror_law.Goals as goal

pub returns : goal.returns
returns c = opened_mirror
