use Rattle.std.proofs.Common.{arith}
use Rattle.kt_tree.proofs.Hanging.{hung_alone, fresh_still, hung_top}
use Rattle.kt_tree.proofs.change.crown.Goals as goal

pub returns-then-cell-eq-NOTHING : goal.returns-then-cell-eq-NOTHING
returns-then-cell-eq-NOTHING c = hung_alone c.args.pool.now c.args.cell c.args.fresh c.args.key.now (omega arith)

pub write-requires-clause-long : goal.write-requires-clause-long
write-requires-clause-long c =
    let r = c.requires.beside in
    fresh_still c.args.pool.now c.args.cell c.args.fresh c.args.key.now r.0 r.1 r.2 r.3 c.split-halves.new.pool c.split-halves.result.low c.split-halves.result.high (c.split-halves.ensures r.0 r.3.lacks)

pub returns : goal.returns
returns c s place value h =
    hung_top c.args.pool.now c.args.cell c.args.fresh c.args.key.now s place value h c.split-halves.new.pool c.split-halves.result.low c.split-halves.result.high (c.split-halves.ensures s h.lacks) c.node_in-top.result c.node_in-top.ensures c.write.new.pool c.write.ensures.node c.write.ensures.others
