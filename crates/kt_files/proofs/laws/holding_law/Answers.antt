use Rattle.kt_files.proofs.OneHolding.{all_one}
use Rattle.kt_files.proofs.laws.holding_law.Goals as goal

pub returns : goal.returns
returns c = all_one
