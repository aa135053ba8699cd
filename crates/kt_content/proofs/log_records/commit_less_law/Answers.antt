use Rattle.kt_content.proofs.Fronts.{commit_less}
use Rattle.kt_content.proofs.log_records.commit_less_law.Goals as goal

pub returns : goal.returns
returns c = commit_less
