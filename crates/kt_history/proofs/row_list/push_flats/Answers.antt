use Rattle.std.proofs.Common.{◌≡◌, ◌++◌, ◌∷◌, [], ◌∙◌, sym, ap, subst, take, map, arith, ◌+◌}
use Rattle.std.proofs.lemmas.List.{take_more, take_all, map-append, append_assoc}
use Rattle.kt_base.specs.Borrowed.{cell_in}
use Rattle.kt_history.specs.Flat.{AreFlat}
use Rattle.kt_history.proofs.Flat.{in_front, same_length}
use Rattle.kt_history.proofs.row_list.push_flats.Goals as goal

pub returns-in-Err-clause-err : goal.returns-in-Err-clause-err
returns-in-Err-clause-err c row flat =
    let now = c.in-Err.ensures.err (row ++ map cell_in (take c.cells.cell-index c.args.more.now)) (c.cells.invariant row flat) in
    subst (λ cells. AreFlat c.push_flat.new.texts cells row) (sym c.truncate.ensures.items) (in_front c.push_flat.new.texts c.push_flat.new.cells.items row _ c.len-was.result now (omega (arith, same_length c.args.texts.now c.args.cells.now.items row flat)))

pub cells-preserved : goal.cells-preserved
cells-preserved c row flat =
    let before = take c.cells.cell-index c.args.more.now in
    let now = c.in_default.ensures.ok (row ++ map cell_in before) (c.cells.invariant row flat) in
    let more : map cell_in (take (c.cells.cell-index + 1) c.args.more.now) ≡ map cell_in before ++ _ ∷ [] = ap (map cell_in) (take_more c.args.more.now c.cells.cell-index _ c.cells-test.true) ∙ map-append cell_in before _ in
    subst (AreFlat c.push_flat.new.texts c.push_flat.new.cells.items) (append_assoc row (map cell_in before) _ ∙ ap (λ cells. row ++ cells) (sym more)) now

pub returns-clause-ok : goal.returns-clause-ok
returns-clause-ok c row flat =
    subst (λ cells. AreFlat c.cells.texts c.cells.cells.items (row ++ map cell_in cells)) (take_all c.cells.cell-index c.args.more.now (omega (arith, c.cells-test.false))) (c.cells.invariant row flat)
