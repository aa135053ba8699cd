use Rattle.kt_dict.proofs.Words.{nows}
use Rattle.kt_dict.proofs.Loop.{entries_go, entries_stop, entries_done}
use Rattle.kt_dict.proofs.reading.add_entries.Goals as goal

pub returns-in-Err : goal.returns-in-Err
returns-in-Err c = entries_stop c.args.most c.in-Err.error c.args.count c.loop.counter (nows c.loop.entries.keys) c.loop.rest.now _ c.loop-test.true c.in-Err.ensures c.loop.invariant

pub loop-preserved : goal.loop-preserved
loop-preserved c = entries_go c.args.most c.args.count c.loop.counter (nows c.loop.entries.keys) (nows c.add_entry.new.entries.keys) c.loop.rest.now c.in-Ok.value.now _ c.loop-test.true c.in-Ok.ensures c.loop.invariant

pub returns : goal.returns
returns c = entries_done c.args.most c.args.count c.loop.counter (nows c.loop.entries.keys) c.loop.rest.now _ c.loop-test.false c.loop.invariant
