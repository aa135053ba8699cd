use Rattle.kt_content.proofs.Records.{replicate_more}
use Rattle.kt_content.proofs.log_records.replicate_law.Goals as goal

pub returns : goal.returns
returns c = replicate_more
