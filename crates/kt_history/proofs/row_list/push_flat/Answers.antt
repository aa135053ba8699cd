use Rattle.std.proofs.Common.{sym, subst, ◌++◌, ◌∷◌, [], ◌∙◌, ap}
use Rattle.kt_base.specs.Borrowed.{cell_in}
use Rattle.kt_history.specs.Flat.{AreFlat}
use Rattle.kt_history.proofs.AsBytes.{on_err}
use Rattle.kt_history.proofs.Flat.{one_more}
use Rattle.kt_history.proofs.row_list.push_flat.Goals as goal

pub returns-in_err-flat-clause-err : goal.returns-in_err-flat-clause-err
returns-in_err-flat-clause-err c =
    on_err c.from_residual-in_err-flat.result (λ row flat. subst (λ cells. AreFlat c.flat_of.new.texts cells row) (sym c.reserve.ensures.items) (c.flat_of.ensures.kept c.args.cells.now.items row flat))

pub returns-clause-ok : goal.returns-clause-ok
returns-clause-ok c row flat =
    let now = one_more c.flat_of.new.texts c.args.cells.now.items c.in_ok-flat.flat row (c.flat_of.ensures.kept c.args.cells.now.items row flat) c.in_ok-flat.ensures.flat.0 in
    let items = c.push_reserved.ensures.items ∙ ap (λ xs. xs ++ c.in_ok-flat.flat ∷ []) c.reserve.ensures.items in
    subst (λ cells. AreFlat c.flat_of.new.texts cells (row ++ cell_in c.args.cell ∷ [])) (sym items) (subst (λ cell. AreFlat c.flat_of.new.texts (c.args.cells.now.items ++ c.in_ok-flat.flat ∷ []) (row ++ cell ∷ [])) c.in_ok-flat.ensures.flat.1 now)
