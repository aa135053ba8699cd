use Rattle.std.proofs.Common.{arith}
use Rattle.kt_tree.proofs.Places.{placed_others, placed_takes, placed_node}
use Rattle.kt_tree.proofs.node.place.Goals as goal

pub returns-clause-takes : goal.returns-clause-takes
returns-clause-takes c = placed_takes c.args.pool.now c.place-cell.new.self c.place-cell.result.cell (record { left = 0xffff_ffff; right = 0xffff_ffff; key = c.args.key; value = c.args.value; head = c.args.head }) c.spelled.result c.place-cell.ensures.vacant c.place-cell.ensures.inside c.place-cell.ensures.placed c.spelled.ensures.bytes

pub returns-clause-others : goal.returns-clause-others
returns-clause-others c = placed_others c.args.pool.now c.place-cell.new.self c.place-cell.result.cell (record { left = 0xffff_ffff; right = 0xffff_ffff; key = c.args.key; value = c.args.value; head = c.args.head }) c.spelled.result c.place-cell.ensures.vacant c.place-cell.ensures.inside c.place-cell.ensures.placed c.spelled.ensures.bytes

pub returns-clause-node : goal.returns-clause-node
returns-clause-node c = placed_node c.args.pool.now c.place-cell.new.self c.place-cell.result.cell (record { left = 0xffff_ffff; right = 0xffff_ffff; key = c.args.key; value = c.args.value; head = c.args.head }) c.spelled.result c.place-cell.ensures.vacant c.place-cell.ensures.inside c.place-cell.ensures.placed c.spelled.ensures.bytes (omega arith) c.spelled.ensures.reads
