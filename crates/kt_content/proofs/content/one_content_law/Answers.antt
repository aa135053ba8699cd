use Rattle.kt_content.proofs.OneContent.{one_content}
use Rattle.kt_content.proofs.content.one_content_law.Goals as goal

pub returns : goal.returns
returns c = one_content
