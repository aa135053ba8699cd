use Rattle.std.proofs.Common.{Some, sym, ap, ◌∙◌}
use Rattle.kt_judge.specs.Works.{work_of}
use Rattle.kt_judge.proofs.Allowed.{look_decided}
use Rattle.kt_judge.proofs.follow.may_look.Goals as goal

pub returns-in-Some-Looked : goal.returns-in-Some-Looked
returns-in-Some-Looked c = λ past.
    look_decided (work_of c.args.cells c.args.script.now) past c.args.m.now c.args.s c.args.i c.args.t c.args.reading c.is_next.result c.is_next_timestamp.result
    c.requires (sym c.time_at.ensures ∙ c.in-Some-Looked.is ∙ ap Some c.in-Some-Looked.field-0-is) (c.is_next.ensures (work_of c.args.cells c.args.script.now) past) c.is_next_timestamp.ensures
