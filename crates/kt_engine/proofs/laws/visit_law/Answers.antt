use Rattle.kt_engine.proofs.Steps.{one_visit}
use Rattle.kt_engine.proofs.laws.visit_law.Goals as goal

pub returns : goal.returns
returns g c = one_visit
