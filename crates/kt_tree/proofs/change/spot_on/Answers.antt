use Rattle.std.proofs.Common.{◌-◌, arith}
use Rattle.kt_tree.proofs.Ways.{noted_at, lacks_there, leads_on}
use Rattle.kt_tree.proofs.change.spot_on.Goals as goal

pub step-requires-clause-lacks : goal.step-requires-clause-lacks
step-requires-clause-lacks c =
    let h = c.requires.lacks in
    let on = noted_at h.0 c.args.key.now c.args.seat.now (c.up.steps - 1) c.in-Some.cell (c.requires.seat h.0 h.1.tree) (omega arith) c.in-Some.ensures in
    lacks_there c.args.pool.now c.args.key.now c.args.root h.0 (c.up.steps - 1) c.in-Some.cell h.1 on

pub returns-then-rank-high : goal.returns-then-rank-high
returns-then-rank-high c =
    let h = c.requires.lacks in
    let on = noted_at h.0 c.args.key.now c.args.seat.now (c.up.steps - 1) c.in-Some.cell (c.requires.seat h.0 h.1.tree) (omega arith) c.in-Some.ensures in
    let e = c.step.ensures in
    leads_on c.args.pool.now c.args.key.now c.args.root h.0 h.1.tree (c.up.steps - 1) c.in-Some.cell on c.step.result.above c.step.result.cell c.step.result.node c.step.result.right e.above e.node e.right e.below
