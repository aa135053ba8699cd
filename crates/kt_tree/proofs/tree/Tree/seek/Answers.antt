use Rattle.std.proofs.Common.{arith, ◌≡◌, ◌≢◌, sym, ◌∙◌}
use Rattle.kt_tree.specs.Shapes.{nothing}
use Rattle.kt_tree.proofs.Overwriting.{tree_right_fewer, tree_left_fewer}
use Rattle.kt_tree.proofs.Walks.{on_first, on_short, on_right, on_left, noted_on, found_here}
use Rattle.kt_tree.proofs.tree.Tree.seek.Goals as goal

pub loop-cell-init : goal.loop-cell-init
loop-cell-init c = on_first c.args.self.now c.args.pool.now c.args.key.now c.new-way.result c.new-way.ensures c.requires

pub prove-unreachable-requires : goal.prove-unreachable-requires
prove-unreachable-requires c =
    let ne : c.loop-cell.cell ≢ nothing = omega arith in
    let short = on_short c.args.self.now c.args.pool.now c.loop-cell.cell c.args.key.now c.loop-cell.way ne c.requires c.loop-cell.invariant in
    omega (arith, short)

pub loop-cell-smaller-in-Less : goal.loop-cell-smaller-in-Less
loop-cell-smaller-in-Less c =
    let ne : c.loop-cell.cell ≢ nothing = omega arith in
    let h = c.loop-cell.invariant.seeks in
    tree_right_fewer c.args.pool.now c.loop-cell.cell c.args.key.now 0 c.node_in-node.result c.node_in-node.ensures ne h.form h.stands

pub loop-cell-preserved-in-Less : goal.loop-cell-preserved-in-Less
loop-cell-preserved-in-Less c =
    let ne : c.loop-cell.cell ≢ nothing = omega arith in
    on_right c.args.self.now c.args.pool.now c.loop-cell.cell c.args.key.now c.node_in-node.result c.node_in-node.ensures ne c.requires c.loop-cell.way c.note.new.self c.loop-cell.invariant c.note.ensures.steps c.note.ensures.here c.note.ensures.others (sym c.in-Less.ensures)

pub loop-cell-smaller : goal.loop-cell-smaller
loop-cell-smaller c =
    let ne : c.loop-cell.cell ≢ nothing = omega arith in
    let h = c.loop-cell.invariant.seeks in
    tree_left_fewer c.args.pool.now c.loop-cell.cell c.args.key.now 0 c.node_in-node.result c.node_in-node.ensures ne h.form h.stands

pub loop-cell-preserved : goal.loop-cell-preserved
loop-cell-preserved c =
    let ne : c.loop-cell.cell ≢ nothing = omega arith in
    on_left c.args.self.now c.args.pool.now c.loop-cell.cell c.args.key.now c.node_in-node.result c.node_in-node.ensures ne c.requires c.loop-cell.way c.note.new.self c.loop-cell.invariant c.note.ensures.steps c.note.ensures.here c.note.ensures.others (sym c.in-Greater.ensures)

pub returns-in-Equal-clause-value : goal.returns-in-Equal-clause-value
returns-in-Equal-clause-value c =
    let ne : c.loop-cell.cell ≢ nothing = omega arith in
    found_here c.args.self.now c.args.pool.now c.loop-cell.cell c.args.key.now c.node_in-node.result c.node_in-node.ensures ne (sym c.in-Equal.ensures) c.loop-cell.invariant.seeks

pub returns-in-Equal-clause-seat : goal.returns-in-Equal-clause-seat
returns-in-Equal-clause-seat c =
    let ne : c.loop-cell.cell ≢ nothing = omega arith in
    record {
      head = c.head_of-head.ensures;
      noted = noted_on c.args.self.now c.args.pool.now c.loop-cell.cell c.args.key.now c.node_in-node.result c.node_in-node.ensures ne c.requires c.loop-cell.way c.note.new.self c.loop-cell.invariant c.note.ensures.steps c.note.ensures.here c.note.ensures.others;
      ends = λ none. absurd cc;
    }

pub returns-clause-seat : goal.returns-clause-seat
returns-clause-seat c =
    let at_end : c.loop-cell.cell ≡ nothing = omega arith in
    record {
      head = c.head_of-head.ensures;
      noted = c.loop-cell.invariant.noted;
      ends = λ _. sym c.loop-cell.invariant.here ∙ at_end;
    }
