use Rattle.std.proofs.Common.{sym}
use Rattle.std.proofs.lemmas.Result.{err_from_is_err_and}
use Rattle.kt_opening.proofs.OpeningSteps.{counted_so}
use Rattle.kt_opening.proofs.parts.read_front.Goals as goal

pub returns-in_err-a-clause-read : goal.returns-in_err-a-clause-read
returns-in_err-a-clause-read c = let p = err_from_is_err_and c.from_residual.result c.from_residual.ensures.1 in rw (p.1, p.2) c.in_err-a.ensures.read

pub returns-in-Some-count_of-clause-read : goal.returns-in-Some-count_of-clause-read
returns-in-Some-count_of-clause-read c = λ columns.
    counted_so columns c.args.text.now c.in_ok-a.field-0.a c.in_ok-a.field-0.c c.in_ok-a.field-0.at (c.in_ok-a.ensures.read columns)
    c.in-Some.line c.in-Some.ensures c.in-Some-count_of.rows (sym c.in-Some-count_of.ensures)
