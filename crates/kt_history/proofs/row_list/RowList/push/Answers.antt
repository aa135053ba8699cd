use Rattle.std.proofs.Common.{◌≡◌, ◌++◌, ◌∷◌, [], ◌∙◌, sym, ap, subst, map, arith}
use Rattle.kt_base.specs.Borrowed.{cell_in}
use Rattle.kt_history.proofs.AsBytes.{on_err}
use Rattle.kt_history.proofs.Flat.{held_still, view_still, held_more, view_more, IsHeld}
use Rattle.kt_history.proofs.row_list.RowList.push.Goals as goal

pub invariant_of-self-in_err-push_flats : goal.invariant_of-self-in_err-push_flats
invariant_of-self-in_err-push_flats c =
    subst (λ ends. IsHeld ends c.push_flats.new.cells.items c.push_flats.new.texts) (sym c.reserve.ensures.items) (held_still c.self.inside.ends.items c.self.inside.cells.items c.self.inside.texts c.push_flats.new.cells.items c.push_flats.new.texts c.args.self.now c.self.invariant c.self.view_is c.in_err-push_flats.ensures.err)

pub returns-in_err-push_flats-clause-err : goal.returns-in_err-push_flats-clause-err
returns-in_err-push_flats-clause-err c =
    on_err c.from_residual-in_err-push_flats.result (rw c.reserve.ensures.items (view_still c.self.inside.ends.items c.self.inside.cells.items c.self.inside.texts c.push_flats.new.cells.items c.push_flats.new.texts c.args.self.now c.self.invariant c.self.view_is c.in_err-push_flats.ensures.err))

pub invariant_of-self-2 : goal.invariant_of-self-2
invariant_of-self-2 c =
    let ends : c.push.new.self.items ≡ c.self.inside.ends.items ++ c.len-end.result ∷ [] = c.in_ok-push.ensures.items ∙ ap (λ xs. xs ++ c.len-end.result ∷ []) c.reserve.ensures.items in
    held_more c.self.inside.ends.items c.self.inside.cells.items c.self.inside.texts c.push_flats.new.cells.items c.push_flats.new.texts c.args.self.now c.self.invariant c.self.view_is (map cell_in c.args.row.now) c.push.new.self.items c.len-end.result c.in_ok-push_flats.ensures.ok ends (omega arith)

pub returns-clause-ok : goal.returns-clause-ok
returns-clause-ok c =
    let ends : c.push.new.self.items ≡ c.self.inside.ends.items ++ c.len-end.result ∷ [] = c.in_ok-push.ensures.items ∙ ap (λ xs. xs ++ c.len-end.result ∷ []) c.reserve.ensures.items in
    view_more c.self.inside.ends.items c.self.inside.cells.items c.self.inside.texts c.push_flats.new.cells.items c.push_flats.new.texts c.args.self.now c.self.invariant c.self.view_is (map cell_in c.args.row.now) c.push.new.self.items c.len-end.result c.in_ok-push_flats.ensures.ok ends (omega arith)
