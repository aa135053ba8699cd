use Rattle.kt_content.proofs.FewerRecords.{operation_less}
use Rattle.kt_content.proofs.log_records.operation_less_law.Goals as goal

pub returns : goal.returns
returns c = operation_less
