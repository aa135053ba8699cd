use Rattle.kt_journal.proofs.Waits.{keeps_all, first_popped}
use Rattle.kt_journal.proofs.waiting.drop_first.Goals as goal

pub taken-init : goal.taken-init
taken-init c last rising = keeps_all last c.args.held.now.items rising

pub taken-preserved : goal.taken-preserved
taken-preserved c last rising =
    let taken = c.first_was_taken.ensures c.taken-test.true in
    first_popped last c.args.held.now.items c.taken.held.items c.pop_front.new.self.items taken.0 taken.1 c.pop_front.ensures.rest (c.taken.invariant last rising)
