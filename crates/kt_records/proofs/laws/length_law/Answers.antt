use Rattle.kt_history.proofs.Lengths.{length-operation}
use Rattle.kt_records.proofs.laws.length_law.Goals as goal

pub returns : goal.returns
returns c = λ op. length-operation op
