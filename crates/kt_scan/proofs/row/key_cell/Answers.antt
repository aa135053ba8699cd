use Rattle.std.proofs.Common.{◌≡◌, ◌∷◌, sym, ◌∙◌, arith}
use Rattle.kt_scan.proofs.Named.{found_behind, found_nowhere}
use Rattle.kt_scan.proofs.row.key_cell.Goals as goal

pub loop-cell-preserved : goal.loop-cell-preserved
loop-cell-preserved c =
    let cases = c.in-Some.ensures.cases in
    let parts : c.loop-cell.rest.now ≡ c.in-Some.column.now ∷ c.in-Some.behind.now = cc in
    sym (found_behind c.args.id c.loop-cell.cell-index c.args.key.now c.loop-cell.rest.now c.in-Some.behind.now c.in-Some.column.now c.loop-cell-test.true parts c.if-column-id.false) ∙ c.loop-cell.invariant

pub returns : goal.returns
returns c = sym (found_nowhere c.args.id c.loop-cell.cell-index c.args.key.now c.loop-cell.rest.now (omega arith)) ∙ c.loop-cell.invariant
