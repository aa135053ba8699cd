use Rattle.kt_content.proofs.Records.{commit_more}
use Rattle.kt_content.proofs.log_records.commit_law.Goals as goal

pub returns : goal.returns
returns c = commit_more
