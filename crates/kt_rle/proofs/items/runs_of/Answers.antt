use Rattle.std.proofs.Common.{rules}
use Rattle.std.specs.Prelude.{pos, FitsSigned}
use Rattle.std.specs.Int.{w64}
use Rattle.std.proofs.lemmas.Int.{to_z-of_z}
use Rattle.std.proofs.lemmas.Option.{get_or_from_slice_get}
use Rattle.kt_rle.proofs.Held.{stand_more}
use Rattle.kt_rle.proofs.items.runs_of.Goals as goal

pub loop-at-preserved : goal.loop-at-preserved
loop-at-preserved c =
    let zs = c.args.numbers.now in
    let run = c.run_end-end.ensures in
    let here = get_or_from_slice_get zs c.loop-at.at c.get.result (pos 0) c.get.ensures in
    let wide : FitsSigned w64 c.get.result = search rules in
    rw (c.in_ok-push.ensures.items, to_z-of_z w64 c.get.result wide, ← here)
    (stand_more zs c.loop-at.at c.run_end-end.result c.loop-at.runs.items c.loop-at.invariant run.some run.within run.same run.stop)
