use Rattle.kt_key.proofs.Kept.{order-kept}
use Rattle.kt_key.proofs.laws.order_law.Goals as goal

pub returns : goal.returns
returns c = order-kept
