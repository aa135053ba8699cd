use Rattle.kt_rowfiles.specs.Files.{records_for, records_in}
use Rattle.kt_rowfiles.proofs.Ordered.{rising-append, falling-append}
use Rattle.kt_rowfiles.proofs.laws.order_law.Goals as goal

pub returns-clause-rise : goal.returns-clause-rise
returns-clause-rise c = λ n xs files. rising-append (records_for n xs) (records_in n files)

pub returns-clause-fall : goal.returns-clause-fall
returns-clause-fall c = λ n xs files. falling-append (records_for n xs) (records_in n files)
