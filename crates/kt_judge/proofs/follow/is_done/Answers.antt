use Rattle.kt_judge.specs.Works.{work_of}
use Rattle.kt_judge.proofs.Allowed.{done_decided}
use Rattle.kt_judge.proofs.follow.is_done.Goals as goal

pub returns : goal.returns
returns c = λ past.
    done_decided (work_of c.args.cells c.args.script.now) past c.args.m.now c.args.s c.args.i c.is_next.result c.is_chore.result c.requires (c.is_next.ensures (work_of c.args.cells c.args.script.now) past) c.is_chore.ensures
