use Rattle.kt_judge.proofs.Barely.{bare_next}
use Rattle.kt_judge.proofs.opening.bare_entries.Goals as goal

pub loop-key-preserved-in_ok-push : goal.loop-key-preserved-in_ok-push
loop-key-preserved-in_ok-push c = bare_next c.in-Some.key.now c.in_ok-from_slice.field-0 c.new.result c.deref.result.now c.loop-key.entries.items c.push.new.self.items c.is_above.result c.loop-key.invariant c.in_ok-from_slice.ensures c.new.ensures c.deref.ensures.value c.is_above.ensures c.if-is_above.true c.in_ok-push.ensures.items
