use Rattle.kt_content.proofs.Rules.{rows_pass}
use Rattle.kt_content.proofs.content.rows_pass_law.Goals as goal

pub returns : goal.returns
returns c = rows_pass
