use Rattle.kt_judge.specs.Works.{work_of}
use Rattle.kt_judge.proofs.Allowed.{show_decided}
use Rattle.kt_judge.proofs.follow.may_show.Goals as goal

pub returns : goal.returns
returns c = λ past.
    show_decided (work_of c.args.cells c.args.script.now) past c.args.m.now c.args.s c.args.i c.args.t c.may_read.result c.none_flies.result c.requires (c.may_read.ensures past) c.none_flies.ensures
