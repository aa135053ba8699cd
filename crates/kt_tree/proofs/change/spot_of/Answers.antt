use Rattle.std.proofs.Common.{◌≢◌, ℕ, ◌<◌, sym, subst, arith}
use Rattle.kt_tree.specs.Shapes.{Shape, nothing}
use Rattle.kt_tree.specs.Changes.{Lacks}
use Rattle.kt_tree.proofs.Shapes.{nodes_at}
use Rattle.kt_tree.proofs.Spots.{leads_none, leads_more, lacks_below, fewer_below}
use Rattle.kt_tree.proofs.change.spot_of.Goals as goal

pub down-init : goal.down-init
down-init c = record {
  leads = leads_none c.args.pool.now c.args.key.now c.args.root c.whole-spot.result.above c.whole-spot.result.cell c.whole-spot.result.node c.whole-spot.result.right c.whole-spot.ensures.cell c.whole-spot.ensures.above;
  lacks = (c.requires.lacks.0, subst (λ (x : ℕ). Lacks c.args.pool.now x c.args.key.now c.requires.lacks.0) (sym c.whole-spot.ensures.cell) c.requires.lacks.1);
}

pub step-spot-requires-clause-lacks : goal.step-spot-requires-clause-lacks
step-spot-requires-clause-lacks c = c.down.invariant.lacks

pub down-smaller : goal.down-smaller
down-smaller c =
    let ne : c.down.spot.cell ≢ nothing = omega arith in
    let h = c.down.invariant.lacks in
    subst (λ (x : ℕ). nodes_at c.args.pool.now x < nodes_at c.args.pool.now c.down.spot.cell) (sym c.step-spot.ensures.below) (fewer_below c.args.pool.now c.args.key.now c.down.spot.cell ne h.0 h.1)

pub down-preserved : goal.down-preserved
down-preserved c =
    let ne : c.down.spot.cell ≢ nothing = omega arith in
    let h = c.down.invariant.lacks in
    let e = c.step-spot.ensures in
    record {
      leads = leads_more c.args.pool.now c.args.key.now c.args.root c.down.spot.above c.down.spot.cell c.down.spot.node c.down.spot.right c.step-spot.result.above c.step-spot.result.cell c.step-spot.result.node c.step-spot.result.right
          c.down.invariant.leads ne e.above e.node e.right e.below;
      lacks = subst (λ (x : ℕ). (s : Shape) × Lacks c.args.pool.now x c.args.key.now s) (sym e.below) (lacks_below c.args.pool.now c.args.key.now c.down.spot.cell ne h.0 h.1);
    }
