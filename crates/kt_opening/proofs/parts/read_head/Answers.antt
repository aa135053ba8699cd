use Rattle.std.proofs.Common.{sym}
use Rattle.kt_opening.proofs.OpeningSteps.{headed_so}
use Rattle.kt_opening.proofs.parts.read_head.Goals as goal

pub returns-in-Some-begin_of-clause-read : goal.returns-in-Some-begin_of-clause-read
returns-in-Some-begin_of-clause-read c = λ columns. headed_so columns c.args.text.now c.in-Some.line c.in-Some.ensures c.in-Some-begin_of.a c.in-Some-begin_of.c (sym c.in-Some-begin_of.ensures)
