use Rattle.std.proofs.Common.{sym, ap, ◌∙◌, max, min}
use Rattle.kt_judge.specs.Works.{work_of}
use Rattle.kt_judge.proofs.Allowed.{mark_decided}
use Rattle.kt_judge.proofs.follow.may_mark.Goals as goal

pub returns-in-Some : goal.returns-in-Some
returns-in-Some c = λ past.
    mark_decided (work_of c.args.cells c.args.script.now) past c.args.m.now c.args.s c.args.i c.args.a c.in-Some.t c.max.result c.is_next.result
    c.requires (sym c.mark_at.ensures ∙ c.in-Some.is) (c.is_next.ensures (work_of c.args.cells c.args.script.now) past)
    (c.max.ensures ∙ ap (max c.args.m.now.a) (c.min.ensures ∙ ap (min c.in-Some.t) (c.clean.ensures (work_of c.args.cells c.args.script.now))))
