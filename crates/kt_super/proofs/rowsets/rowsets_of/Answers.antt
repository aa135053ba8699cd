use Rattle.std.proofs.Common.{◌≡◌, ◌-◌, [], length, sym, arith, Ok}
use Rattle.std.proofs.lemmas.List.{length_push}
use Rattle.kt_bytes.specs.Reading.{Fails, many_at}
use Rattle.kt_super.specs.Rowsets.{rowset_at, next_rowset_at}
use Rattle.kt_super.proofs.Loops.{goes_on, ends, is_done}
use Rattle.kt_super.proofs.RowsetLists.{least_push, taken_push}
use Rattle.kt_super.proofs.rowsets.rowsets_of.Goals as goal

pub returns-in-Err : goal.returns-in-Err
returns-in-Err c =
    let item = next_rowset_at c.args.next.rowset c.args.next.file c.args.count in
    let l = c.loop-i in
    let behind : c.args.count - l.i - 1 ≡ c.args.count - length l.rowsets.items - 1 = omega (arith, l.invariant.count) in
    let read : Fails c.in-Err.error (rowset_at c.args.next.rowset c.args.next.file (c.args.count - l.i - 1) l.least l.taken l.rest.now) = c.in-Err.ensures.rowset in
    ends item c.args.count l.i l.rowsets.items l.rest.now (many_at item c.args.count [] c.args.bytes.now) l.invariant.reads c.in-Err.error c.loop-i-test.true (rw (behind, l.invariant.least, l.invariant.taken) at read)

pub loop-i-preserved : goal.loop-i-preserved
loop-i-preserved c =
    let item = next_rowset_at c.args.next.rowset c.args.next.file c.args.count in
    let l = c.loop-i in
    let r = c.in-Ok.value.0 in
    let behind : c.args.count - l.i - 1 ≡ c.args.count - length l.rowsets.items - 1 = omega (arith, l.invariant.count) in
    let read : rowset_at c.args.next.rowset c.args.next.file (c.args.count - l.i - 1) l.least l.taken l.rest.now ≡ Ok (r, c.in-Ok.value.1.now) = c.in-Ok.ensures.rowset in
    record {
      reads = rw c.in_ok-push.ensures.items (goes_on item c.args.count l.i l.rowsets.items l.rest.now (many_at item c.args.count [] c.args.bytes.now) l.invariant.reads r c.in-Ok.value.1.now c.loop-i-test.true (rw (behind, l.invariant.least, l.invariant.taken) at read));
      count = rw c.in_ok-push.ensures.items (omega (arith, l.invariant.count, length_push l.rowsets.items r));
      least = rw c.in_ok-push.ensures.items (sym (least_push 0 l.rowsets.items r));
      taken = rw (c.in_ok-push.ensures.items, c.in-Ok.ensures.taken, l.invariant.taken) (sym (taken_push [] l.rowsets.items r));
    }

pub returns : goal.returns
returns c =
    let item = next_rowset_at c.args.next.rowset c.args.next.file c.args.count in
    is_done item c.args.count c.loop-i.i c.loop-i.rowsets.items c.loop-i.rest.now (many_at item c.args.count [] c.args.bytes.now) c.loop-i.invariant.reads c.loop-i-test.false
