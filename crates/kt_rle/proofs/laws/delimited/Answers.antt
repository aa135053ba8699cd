use Rattle.kt_rle.proofs.FirstFault.{joined, runs_delimited}
use Rattle.kt_rle.proofs.laws.delimited.Goals as goal

pub returns-clause-joined : goal.returns-clause-joined
returns-clause-joined c = joined

pub returns-clause-delimited : goal.returns-clause-delimited
returns-clause-delimited c = runs_delimited
