use Rattle.kt_content.proofs.OneContent.{same_show}
use Rattle.kt_content.proofs.content.same_law.Goals as goal

pub returns : goal.returns
returns c = same_show
