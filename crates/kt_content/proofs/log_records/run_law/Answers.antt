use Rattle.kt_content.proofs.Records.{goes_on}
use Rattle.kt_content.proofs.log_records.run_law.Goals as goal

pub returns : goal.returns
returns c = goes_on
