use Rattle.kt_judge.specs.Works.{work_of}
use Rattle.kt_judge.proofs.Allowed.{ancient_decided}
use Rattle.kt_judge.proofs.follow.is_ancient.Goals as goal

pub returns : goal.returns
returns c = λ past.
    ancient_decided (work_of c.args.cells c.args.script.now) past c.args.m.now c.args.s c.args.i c.args.t c.args.a c.may_read.result c.requires (c.may_read.ensures past)
