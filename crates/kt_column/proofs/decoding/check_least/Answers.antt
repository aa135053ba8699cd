use Rattle.std.proofs.Common.{inr, refl}
use Rattle.kt_column.proofs.decoding.check_least.Goals as goal

pub returns-in-Ok-true-clause-yes : goal.returns-in-Ok-true-clause-yes
returns-in-Ok-true-clause-yes c = rw c.in-Ok-true.field-0-test at c.in-Ok-true.ensures.yes

pub returns-in-Ok-false-clause-no : goal.returns-in-Ok-false-clause-no
returns-in-Ok-false-clause-no c = inr (refl, rw c.in-Ok-false.field-0-test at c.in-Ok-false.ensures.no)
