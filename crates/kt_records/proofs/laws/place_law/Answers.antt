use Rattle.kt_records.proofs.Records.{first_fault, told_first}
use Rattle.kt_records.proofs.laws.place_law.Goals as goal

pub returns : goal.returns
returns c = λ bytes place fits. (λ e. first_fault bytes place fits e, λ f. told_first bytes place fits f)
