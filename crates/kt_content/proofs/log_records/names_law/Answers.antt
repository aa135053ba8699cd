use Rattle.kt_content.proofs.MoreOps.{true_names}
use Rattle.kt_content.proofs.log_records.names_law.Goals as goal

pub returns : goal.returns
returns c = true_names
