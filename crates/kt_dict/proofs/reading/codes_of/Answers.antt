use Rattle.std.proofs.Common.{[]}
use Rattle.kt_dict.specs.Walk.{codes_at}
use Rattle.kt_dict.proofs.Loop.{code_goes, code_stops, codes_done, used_within}
use Rattle.kt_dict.proofs.reading.codes_of.Goals as goal

pub returns-in-Err : goal.returns-in-Err
returns-in-Err c = code_stops c.in-Err.error c.args.n c.loop-i.i c.args.count c.loop-i.used c.loop-i.codes.items c.loop-i.rest.now (codes_at c.args.n c.args.count 0 [] c.args.bytes.now) c.loop-i-test.true c.in-Err.ensures.read c.loop-i.invariant.so_far

pub loop-i-preserved : goal.loop-i-preserved
loop-i-preserved c =
    let go = code_goes c.args.n c.loop-i.i c.args.count c.loop-i.used c.loop-i.codes.items c.loop-i.rest.now c.in-Ok.value.0 c.in-Ok.value.1.now (codes_at c.args.n c.args.count 0 [] c.args.bytes.now) c.loop-i-test.true c.in-Ok.ensures.read c.loop-i.invariant.so_far in
    record {
      so_far = rw (c.in_ok-push.ensures.items, c.next_used-used.ensures) go;
      within = rw c.next_used-used.ensures (used_within c.args.count c.loop-i.used c.in-Ok.value.0 c.loop-i.invariant.within c.in-Ok.ensures.within);
    }

pub returns : goal.returns
returns c = codes_done c.args.n c.loop-i.i c.args.count c.loop-i.used c.loop-i.codes.items c.loop-i.rest.now _ c.loop-i-test.false c.loop-i.invariant.so_far
