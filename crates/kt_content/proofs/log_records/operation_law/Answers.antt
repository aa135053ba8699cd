use Rattle.kt_content.proofs.MoreOps.{operation_more}
use Rattle.kt_content.proofs.log_records.operation_law.Goals as goal

pub returns : goal.returns
returns c = operation_more
