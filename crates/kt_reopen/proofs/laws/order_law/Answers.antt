use Rattle.kt_reopen.proofs.OwedOrder.{goes_on}
use Rattle.kt_reopen.proofs.laws.order_law.Goals as goal

pub returns : goal.returns
returns c = goes_on
