use Rattle.kt_content.proofs.AtZero.{log_alone}
use Rattle.kt_content.proofs.content.log_alone_law.Goals as goal

pub returns : goal.returns
returns c = log_alone
