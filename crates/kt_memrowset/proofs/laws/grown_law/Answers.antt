use Rattle.kt_memrowset.proofs.Grown.{is_grown}
use Rattle.kt_memrowset.proofs.laws.grown_law.Goals as goal

pub returns : goal.returns
returns c = is_grown
