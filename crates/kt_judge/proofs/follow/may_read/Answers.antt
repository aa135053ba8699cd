use Rattle.std.proofs.Common.{Some, sym, ap, ◌∙◌}
use Rattle.kt_judge.specs.Works.{work_of}
use Rattle.kt_judge.proofs.Allowed.{read_looked, read_given}
use Rattle.kt_judge.proofs.follow.may_read.Goals as goal

pub returns-in-Some-Looked : goal.returns-in-Some-Looked
returns-in-Some-Looked c = λ past.
    read_looked (work_of c.args.cells c.args.script.now) past c.args.m.now c.args.s c.args.i c.args.t c.is_next.result (sym c.time_at.ensures ∙ c.in-Some-Looked.is ∙ ap Some c.in-Some-Looked.field-0-is) (c.is_next.ensures (work_of c.args.cells c.args.script.now) past)

pub returns-in-Some-Given : goal.returns-in-Some-Given
returns-in-Some-Given c = λ past.
    read_given (work_of c.args.cells c.args.script.now) past c.args.m.now c.args.s c.args.i c.args.t c.in-Some-Given.given c.is_next-in-Some-Given.result (sym c.time_at.ensures ∙ c.in-Some-Given.is ∙ ap Some c.in-Some-Given.field-0-is) (c.is_next-in-Some-Given.ensures (work_of c.args.cells c.args.script.now) past)
