use Rattle.kt_content.proofs.Rules.{stores_pass}
use Rattle.kt_content.proofs.content.passes_law.Goals as goal

pub returns : goal.returns
returns c = stores_pass
