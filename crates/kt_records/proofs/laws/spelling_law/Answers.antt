use Rattle.kt_records.proofs.Records.{record_again}
use Rattle.kt_records.proofs.laws.spelling_law.Goals as goal

pub returns : goal.returns
returns c = λ entry fits. record_again entry fits
