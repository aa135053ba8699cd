use Rattle.std.proofs.Common.{arith}
use Rattle.kt_script.proofs.scans.read_name.Goals as goal

pub returns-then-not-is_name-clause-seen : goal.returns-then-not-is_name-clause-seen
returns-then-not-is_name-clause-seen c = λ h. absurd (omega arith)

pub returns-then-not-is_name-clause-ids : goal.returns-then-not-is_name-clause-ids
returns-then-not-is_name-clause-ids c = λ h. absurd (omega arith)

pub returns-in_default-clause-seen : goal.returns-in_default-clause-seen
returns-in_default-clause-seen c = λ h. absurd (omega arith)

pub returns-in_default-clause-ids : goal.returns-in_default-clause-ids
returns-in_default-clause-ids c = λ h. absurd (omega arith)
