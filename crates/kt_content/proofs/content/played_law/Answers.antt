use Rattle.kt_content.proofs.Agreement.{plays_agree}
use Rattle.kt_content.proofs.content.played_law.Goals as goal

pub returns : goal.returns
returns c = plays_agree
