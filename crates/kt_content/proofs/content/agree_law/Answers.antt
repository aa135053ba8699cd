use Rattle.kt_content.proofs.Agreement.{agree_plays}
use Rattle.kt_content.proofs.content.agree_law.Goals as goal

pub returns : goal.returns
returns c = agree_plays
