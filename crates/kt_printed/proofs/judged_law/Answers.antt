use Rattle.kt_printed.proofs.Standing.{judged}
use Rattle.kt_printed.proofs.Sources.{sources_answered}
use Rattle.kt_printed.proofs.judged_law.Goals as goal

pub returns : goal.returns
returns c = record { judged = judged; sources = sources_answered }
