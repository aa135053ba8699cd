use Rattle.std.proofs.Common.{◌≡◌, ◌∙◌, ◌+◌, ◌++◌, drop, length, min, sym, ap, append_assoc, arith, rules}
use Rattle.std.specs.Int.{w16, to_le_bytes}
use Rattle.std.specs.List.{flat_map}
use Rattle.std.proofs.lemmas.List.{drop_all}
use Rattle.kt_cells.specs.Spelling.{listed_cell}
use Rattle.kt_script.specs.Writes.{cells_no, cells_of, under, op_in}
use Rattle.kt_script.proofs.CellSpelled.{behind_count}
use Rattle.kt_script.proofs.OpWords.{next_column}
use Rattle.kt_script.proofs.operations.put_others.Goals as goal

pub loop-column-preserved : goal.loop-column-preserved
loop-column-preserved c =
    let columns = c.args.columns.now in
    let i = c.loop-column.column-index in
    let more = drop (i + 1) columns in
    let behind = op_in c.in-Some.behind in
    let is = next_column columns i c.column-item.result (omega arith) c.column-item.is in
    let before = c.loop-column.invariant in
    let cut = c.in-Some.ensures.some in
    let cells = rw (is, cut.0) at before.cells in
    let least = rw (is, cut.0) at before.least in
    record {
      cells = ap (λ xs. xs ++ flat_map listed_cell (under more (cells_of more behind))) c.in_ok-put_cell_read.ensures.cell ∙ (append_assoc c.loop-column.out.added _ _ ∙ cells);
      behind = rw (is, cut.0) at before.behind;
      later = cut.1 ∙ before.later;
      least = omega (arith, least, c.in_ok-put_cell_read.ensures.least);
    }

pub returns-clause-cells : goal.returns-clause-cells
returns-clause-cells c = λ h.
    let columns = c.args.columns.now in
    let left = op_in c.loop-column.left in
    let end = sym (drop_all c.loop-column.column-index columns (omega arith)) in
    let least = ap (λ cs. min c.loop-column.no (cells_no cs left)) end ∙ c.loop-column.invariant.least in
    let counted : c.extend.new.self.added ≡ c.args.out.now.added ++ to_le_bytes w16 (length columns) = search rules in
    behind_count columns (op_in c.args.rest) c.args.out.now.added c.extend.new.self.added c.loop-column.out.added (omega (arith, h, least, c.note-2.ensures)) counted
    (ap (λ cs. c.loop-column.out.added ++ flat_map listed_cell (under cs (cells_of cs left))) end ∙ c.loop-column.invariant.cells)

pub returns-in_default-clause-cells : goal.returns-in_default-clause-cells
returns-in_default-clause-cells c = λ h. absurd (omega (arith, h, c.note.ensures))

pub returns-in_default-clause-behind : goal.returns-in_default-clause-behind
returns-in_default-clause-behind c =
    let is = next_column c.args.columns.now c.loop-column.column-index c.column-item.result (omega arith) c.column-item.is in
    c.in_default.ensures.none ∙ (rw (is, c.in_default.ensures.none) at c.loop-column.invariant.behind)

pub returns-in_default-clause-later : goal.returns-in_default-clause-later
returns-in_default-clause-later c = c.loop-column.invariant.later

pub returns-in_default-clause-least : goal.returns-in_default-clause-least
returns-in_default-clause-least c =
    let is = next_column c.args.columns.now c.loop-column.column-index c.column-item.result (omega arith) c.column-item.is in
    c.note.ensures ∙ (rw (is, c.in_default.ensures.none) at c.loop-column.invariant.least)

pub returns-clause-behind : goal.returns-clause-behind
returns-clause-behind c = rw (drop_all c.loop-column.column-index c.args.columns.now (omega arith)) at c.loop-column.invariant.behind

pub returns-clause-later : goal.returns-clause-later
returns-clause-later c = c.loop-column.invariant.later

pub returns-clause-least : goal.returns-clause-least
returns-clause-least c = c.note-2.ensures ∙ (rw (drop_all c.loop-column.column-index c.args.columns.now (omega arith)) at c.loop-column.invariant.least)
