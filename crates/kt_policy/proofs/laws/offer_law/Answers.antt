use Rattle.kt_policy.proofs.Picks.{offers_gained}
use Rattle.kt_policy.proofs.laws.offer_law.Goals as goal

pub returns : goal.returns
returns c = offers_gained
