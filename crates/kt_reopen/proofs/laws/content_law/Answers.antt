use Rattle.kt_reopen.proofs.Held.{content_opened}
use Rattle.kt_reopen.proofs.laws.content_law.Goals as goal

pub returns : goal.returns
returns c = content_opened
