use Rattle.std.proofs.Common.{◌∙◌, ◌+◌, ◌++◌, ◌∷◌, drop, sym, ap, append_assoc, arith}
use Rattle.std.proofs.lemmas.List.{append-nil, drop_all}
use Rattle.kt_script.specs.Writes.{cells_of, op_in}
use Rattle.kt_script.proofs.OpWords.{next_column}
use Rattle.kt_script.proofs.operations.take_cells.Goals as goal

pub loop-column-preserved : goal.loop-column-preserved
loop-column-preserved c =
    let columns = c.args.columns.now in
    let i = c.loop-column.column-index in
    let later = cells_of (drop (i + 1) columns) (op_in c.in-Some.behind) in
    let is = next_column columns i c.column-item.result (omega arith) c.column-item.is in
    let before = c.loop-column.invariant in
    let cut = c.in-Some.ensures.some in
    let cells = rw (is, cut.0) at before.cells in
    let least = rw (is, cut.0) at before.least in
    record {
      cells = ap (λ xs. xs ++ later) c.in_ok-push.ensures.items ∙ (append_assoc c.loop-column.cells.items _ _ ∙ (ap (λ x. c.loop-column.cells.items ++ (x ∷ later)) c.in_ok-read_cell.ensures.cell ∙ cells));
      behind = rw (is, cut.0) at before.behind;
      later = cut.1 ∙ before.later;
      least = omega (arith, least, c.in_ok-read_cell.ensures.least);
    }

pub returns-in_default-clause-cells : goal.returns-in_default-clause-cells
returns-in_default-clause-cells c =
    let is = next_column c.args.columns.now c.loop-column.column-index c.column-item.result (omega arith) c.column-item.is in
    sym (append-nil c.loop-column.cells.items) ∙ (rw (is, c.in_default.ensures.none) at c.loop-column.invariant.cells)

pub returns-clause-cells : goal.returns-clause-cells
returns-clause-cells c =
    sym (append-nil c.loop-column.cells.items) ∙ (rw (drop_all c.loop-column.column-index c.args.columns.now (omega arith)) at c.loop-column.invariant.cells)

pub returns-in_default-clause-behind : goal.returns-in_default-clause-behind
returns-in_default-clause-behind c =
    let is = next_column c.args.columns.now c.loop-column.column-index c.column-item.result (omega arith) c.column-item.is in
    c.in_default.ensures.none ∙ (rw (is, c.in_default.ensures.none) at c.loop-column.invariant.behind)

pub returns-in_default-clause-later : goal.returns-in_default-clause-later
returns-in_default-clause-later c = c.loop-column.invariant.later

pub returns-in_default-clause-least : goal.returns-in_default-clause-least
returns-in_default-clause-least c =
    let is = next_column c.args.columns.now c.loop-column.column-index c.column-item.result (omega arith) c.column-item.is in
    c.note.ensures ∙ (rw (is, c.in_default.ensures.none) at c.loop-column.invariant.least)

pub returns-clause-behind : goal.returns-clause-behind
returns-clause-behind c = rw (drop_all c.loop-column.column-index c.args.columns.now (omega arith)) at c.loop-column.invariant.behind

pub returns-clause-later : goal.returns-clause-later
returns-clause-later c = c.loop-column.invariant.later

pub returns-clause-least : goal.returns-clause-least
returns-clause-least c = c.note-2.ensures ∙ (rw (drop_all c.loop-column.column-index c.args.columns.now (omega arith)) at c.loop-column.invariant.least)
