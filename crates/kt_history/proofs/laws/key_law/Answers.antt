use Rattle.kt_history.proofs.KeyLaws.{find-rows_at}
use Rattle.kt_history.proofs.laws.key_law.Goals as goal

pub returns : goal.returns
returns c = find-rows_at
