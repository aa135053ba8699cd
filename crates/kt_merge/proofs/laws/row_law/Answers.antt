use Rattle.kt_merge.proofs.Written.{kept, led, dropped}
use Rattle.kt_merge.proofs.laws.row_law.Goals as goal

pub returns-clause-kept : goal.returns-clause-kept
returns-clause-kept c = kept

pub returns-clause-led : goal.returns-clause-led
returns-clause-led c = led

pub returns-clause-dropped : goal.returns-clause-dropped
returns-clause-dropped c = dropped
