use Rattle.std.proofs.Common.{◌<◌, length, arith}
use Rattle.kt_journal.proofs.Waits.{keeps_all, last_popped}
use Rattle.kt_journal.proofs.waiting.drop_last.Goals as goal

pub taken-init : goal.taken-init
taken-init c last rising = keeps_all last c.args.held.now.items rising

pub taken-preserved : goal.taken-preserved
taken-preserved c last rising =
    let taken = c.last_was_taken.ensures c.taken-test.true in
    let some : 0 < length c.taken.held.items = taken.0 in
    last_popped last c.args.held.now.items c.taken.held.items c.pop_back.new.self.items c.pop_back.result taken.1 c.pop_back.ensures.items (c.pop_back.ensures.variant.1 (omega arith)) (c.taken.invariant last rising)
