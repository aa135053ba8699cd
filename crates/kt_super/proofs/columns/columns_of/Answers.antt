use Rattle.std.proofs.Common.{[]}
use Rattle.kt_bytes.specs.Reading.{many_at}
use Rattle.kt_super.specs.Columns.{column_at}
use Rattle.kt_super.proofs.Loops.{goes_on, ends, is_done}
use Rattle.kt_super.proofs.columns.columns_of.Goals as goal

pub returns-in-Err : goal.returns-in-Err
returns-in-Err c =
    ends (column_at c.args.next) c.args.count c.loop.counter c.loop.columns.items c.loop.rest.now (many_at (column_at c.args.next) c.args.count [] c.args.bytes.now) c.loop.invariant c.in-Err.error c.loop-test.true (rw c.as_slice.ensures.value at c.in-Err.ensures)

pub loop-preserved : goal.loop-preserved
loop-preserved c =
    rw c.in_ok-push.ensures.items (goes_on (column_at c.args.next) c.args.count c.loop.counter c.loop.columns.items c.loop.rest.now (many_at (column_at c.args.next) c.args.count [] c.args.bytes.now) c.loop.invariant c.in-Ok.value.0 c.in-Ok.value.1.now c.loop-test.true (rw c.as_slice.ensures.value at c.in-Ok.ensures))

pub returns : goal.returns
returns c = is_done (column_at c.args.next) c.args.count c.loop.counter c.loop.columns.items c.loop.rest.now (many_at (column_at c.args.next) c.args.count [] c.args.bytes.now) c.loop.invariant c.loop-test.false
