use Rattle.kt_content.proofs.Records.{fronts_hold}
use Rattle.kt_content.proofs.log_records.front_law.Goals as goal

pub returns : goal.returns
returns c = fronts_hold
