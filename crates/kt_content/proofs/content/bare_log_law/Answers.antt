use Rattle.kt_content.proofs.AtZero.{bare_log}
use Rattle.kt_content.proofs.content.bare_log_law.Goals as goal

pub returns : goal.returns
returns c = bare_log
