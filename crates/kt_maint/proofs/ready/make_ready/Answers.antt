use Rattle.kt_maint.specs.declared.ready.Ready.TheVariants as ready
use Rattle.kt_maint.proofs.Readying.{ready_of, settled}
use Rattle.kt_maint.proofs.ready.make_ready.Goals as goal

pub returns-in-Yes-clause-ready : goal.returns-in-Yes-clause-ready
returns-in-Yes-clause-ready g c =
    let s = c.in-Yes.ensures.settles in
    settled c.args.by c.args.engine.now c.append_waiting.new.engine c.settle.result (s.1, s.2, s.3) s.0.goes s.0.settled c.requires.home.store c.settle.ensures.yes c.settle.ensures.either

pub returns-in-Wait-clause-ready : goal.returns-in-Wait-clause-ready
returns-in-Wait-clause-ready g c = ready_of c.args.by c.args.engine.now c.append_waiting.new.engine ready.Wait c.requires.home (λ e. cc) c.in-Wait.ensures.settles

pub returns-in-Stopped-clause-ready : goal.returns-in-Stopped-clause-ready
returns-in-Stopped-clause-ready g c = ready_of c.args.by c.args.engine.now c.append_waiting.new.engine ready.Stopped c.requires.home (λ e. cc) c.in-Stopped.ensures.settles

pub returns-in-Memory-clause-ready : goal.returns-in-Memory-clause-ready
returns-in-Memory-clause-ready g c = ready_of c.args.by c.args.engine.now c.append_waiting.new.engine ready.Memory c.requires.home (λ e. cc) c.in-Memory.ensures.settles
