use Rattle.kt_judge.proofs.Opened.{starts, next_later, done_more, all_done}
use Rattle.kt_judge.proofs.opening.table_of.Goals as goal

pub loop-write-init : goal.loop-write-init
loop-write-init c = starts c.args.opening.now c.put_rows.new.entries.items c.deref.result.now c.requires c.deref.ensures.value c.in_ok-put_rows.ensures

pub put_changes-requires-clause-later : goal.put_changes-requires-clause-later
put_changes-requires-clause-later c = next_later c.args.opening.now c.loop-write.write-index c.loop-write.entries.items c.write-item.result c.deref-write-items.result.now c.loop-write.invariant c.deref-write-items.ensures.value c.loop-write-test.true c.write-item.is

pub loop-write-preserved : goal.loop-write-preserved
loop-write-preserved c =
    let put = c.in_ok-put_changes.ensures in
    done_more c.args.opening.now c.loop-write.write-index c.loop-write.entries.items c.put_changes.new.entries.items c.write-item.result c.deref-write-items.result.now c.deref-in-loop-write.result.now
    c.loop-write.invariant c.deref-write-items.ensures.value c.loop-write-test.true c.write-item.is c.deref-in-loop-write.ensures.value put.table put.up_to put.rows

pub returns : goal.returns
returns c = all_done c.args.opening.now c.loop-write.write-index c.loop-write.entries.items c.deref-write-items.result.now c.loop-write.invariant c.deref-write-items.ensures.value c.loop-write-test.false
