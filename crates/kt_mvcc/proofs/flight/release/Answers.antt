use Rattle.std.proofs.Common.{◌≤◌, length, subst, arith}
use Rattle.std.specs.List.{All}
use Rattle.std.proofs.lemmas.List.{take_all}
use Rattle.kt_mvcc.specs.Held.{HasLeft}
use Rattle.kt_mvcc.proofs.Index.{left_more}
use Rattle.kt_mvcc.proofs.flight.release.Goals as goal

pub loop-flier-preserved : goal.loop-flier-preserved
loop-flier-preserved c =
    let one = c.release_one.ensures in
    let so_far = c.loop-flier.invariant in
    record {
      keeps = (λ whole. so_far.keeps.0 (one.keeps.0 whole), λ hash who other at. one.keeps.1 hash who other (so_far.keeps.1 hash who other at));
      stood = λ hash who at. so_far.stood hash who (one.stood hash who at);
      left = left_more c.loop-flier.held c.release_one.new.held c.args.who c.args.flying.now c.loop-flier.flier-index c.flier-item.result (omega arith) c.flier-item.is one.others so_far.left one.left;
    }

pub returns-clause-left : goal.returns-clause-left
returns-clause-left c =
    let past : length c.args.flying.now ≤ c.loop-flier.flier-index = omega arith in
    subst (All (HasLeft c.loop-flier.held c.args.who)) (take_all c.loop-flier.flier-index c.args.flying.now past) c.loop-flier.invariant.left
