use Rattle.kt_app.proofs.Output.{history_is_one}
use Rattle.kt_app.proofs.laws.history_law.Goals as goal

pub returns : goal.returns
returns c = history_is_one
