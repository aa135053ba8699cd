use Rattle.kt_engine.proofs.JobBoth.{untouched_both, round_both}
use Rattle.kt_engine.proofs.engine.Engine.wants.Goals as goal

-- at most a place is made
pub invariant_of-self : goal.invariant_of-self
invariant_of-self g c =
    untouched_both g.L.Disk.tells g.L.Disk.seen g.L.Disk.now g.L.Disk.leaves g.L.Disk.faults g.D.Disk.tells g.D.Disk.seen g.D.Disk.faults _ c.begin_round.new.self c.args.number (record { own = c.in_err-begin_round.ensures.err c.args.number; others = λ k ne. c.in_err-begin_round.ensures.err k }) c.in_err-begin_round.ensures.begun c.self.invariant

pub invariant_of-self-2 : goal.invariant_of-self-2
invariant_of-self-2 g c = round_both g.L.Disk.tells g.L.Disk.seen g.L.Disk.now g.L.Disk.leaves g.L.Disk.faults g.D.Disk.tells g.D.Disk.seen g.D.Disk.faults _ c.begin_round.new.self c.args.number c.args.chore c.in_ok-todo.todo.items c.in_ok-begin_round.ensures.ok c.in_ok-begin_round.ensures.begun c.self.invariant
