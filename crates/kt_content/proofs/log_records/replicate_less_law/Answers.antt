use Rattle.kt_content.proofs.Fronts.{replicate_less}
use Rattle.kt_content.proofs.log_records.replicate_less_law.Goals as goal

pub returns : goal.returns
returns c = replicate_less
