use Rattle.std.proofs.Common.{Some, sym, ap, ◌∙◌}
use Rattle.kt_judge.specs.Works.{work_of}
use Rattle.kt_judge.proofs.Allowed.{busy_decided}
use Rattle.kt_judge.proofs.follow.is_busy.Goals as goal

pub returns-in-Some-Given : goal.returns-in-Some-Given
returns-in-Some-Given c = λ past.
    busy_decided (work_of c.args.cells c.args.script.now) past c.args.m.now c.args.s c.args.i c.args.t c.args.f c.in-Some-Given.given c.in-Some.least c.is_next.result
    c.requires (sym c.in-Some.is ∙ c.least_flying.ensures (work_of c.args.cells c.args.script.now)) (sym c.time_at.ensures ∙ c.in-Some-Given.is ∙ ap Some c.in-Some-Given.field-0-is) (c.is_next.ensures (work_of c.args.cells c.args.script.now) past)
