use Rattle.std.proofs.Common.{arith, ◌≢◌, sym, ◌∙◌, []}
use Rattle.std.specs.Option.{option_copied}
use Rattle.kt_tree.specs.Shapes.{nothing}
use Rattle.kt_tree.proofs.Overwriting.{tree_right_fewer, tree_left_fewer}
use Rattle.kt_tree.proofs.Walks.{after_first, after_right, after_left}
use Rattle.kt_tree.proofs.tree.Tree.after.Goals as goal

pub loop-cell-smaller-then-is_past : goal.loop-cell-smaller-then-is_past
loop-cell-smaller-then-is_past c =
    let ne : c.loop-cell.cell ≢ nothing = omega arith in
    let h = c.loop-cell.invariant in
    tree_left_fewer c.args.pool.now c.loop-cell.cell [] 0 c.node_in-node.result c.node_in-node.ensures ne h.form h.stands

pub loop-cell-preserved-then-is_past : goal.loop-cell-preserved-then-is_past
loop-cell-preserved-then-is_past c =
    let ne : c.loop-cell.cell ≢ nothing = omega arith in
    after_left c.args.self.now c.args.pool.now c.loop-cell.cell (option_copied c.args.key) c.node_in-node.result c.node_in-node.ensures ne c.loop-cell.best (sym c.is_past.ensures ∙ c.if-is_past.true) c.loop-cell.invariant

pub loop-cell-smaller : goal.loop-cell-smaller
loop-cell-smaller c =
    let ne : c.loop-cell.cell ≢ nothing = omega arith in
    let h = c.loop-cell.invariant in
    tree_right_fewer c.args.pool.now c.loop-cell.cell [] 0 c.node_in-node.result c.node_in-node.ensures ne h.form h.stands

pub loop-cell-preserved : goal.loop-cell-preserved
loop-cell-preserved c =
    let ne : c.loop-cell.cell ≢ nothing = omega arith in
    after_right c.args.self.now c.args.pool.now c.loop-cell.cell (option_copied c.args.key) c.node_in-node.result c.node_in-node.ensures ne c.loop-cell.best (sym c.is_past.ensures ∙ c.if-is_past.false) c.loop-cell.invariant

pub loop-cell-init : goal.loop-cell-init
loop-cell-init c = after_first c.args.self.now c.args.pool.now (option_copied c.args.key) c.requires
