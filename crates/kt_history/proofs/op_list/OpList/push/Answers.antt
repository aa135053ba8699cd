use Rattle.std.proofs.Common.{◌≡◌, ℕ, List, [], ◌∷◌, ◌++◌, length, sym, ap, ◌∙◌, subst}
use Rattle.std.specs.Int.{w16, to_le_bytes}
use Rattle.std.specs.Prelude.{OnOk}
use Rattle.kt_history.specs.declared.operation.RowOp.{RowOp}
use Rattle.kt_history.specs.Spelled.{kind, operation, OpFits}
use Rattle.kt_history.proofs.Spelled.{parts_are, all_pushed, view_pushed}
use Rattle.kt_history.proofs.op_list.OpList.push.Goals as goal

key_is : (c : goal.After-push_parts) → c.args.op.now.key ≡ c.op.inside.key.now
key_is c = sym (ap (λ (o : RowOp). o.key) c.op.view_is)

fits : (c : goal.After-push_parts) → OpFits c.args.op.now
fits c = subst OpFits c.op.view_is (record { key = c.op.invariant.0; cells = c.op.invariant.1.fits })

added : (c : goal.After-push_parts) → OnOk c.push_parts.result (c.push_parts.new.self ≡ c.self.inside.texts ++ operation c.args.op.now ∷ [])
added c =
    let parts = parts_are c.args.op.now c.front_of-front.result c.op.inside.key.now c.op.inside.cells.now c.op.invariant.1 (c.front_of-front.ensures ∙ ap (λ (o : RowOp). kind o.kind ∷ to_le_bytes w16 (length o.key)) c.op.view_is) (key_is c) (sym (ap (λ (o : RowOp). o.cells) c.op.view_is)) in
    subst (λ (text : List ℕ). OnOk c.push_parts.result (c.push_parts.new.self ≡ c.self.inside.texts ++ text ∷ [])) parts c.push_parts.ensures.ok

pub invariant_of-self : goal.invariant_of-self
invariant_of-self c = all_pushed c.push_parts.result c.self.inside.texts c.push_parts.new.self c.args.op.now (added c) c.push_parts.ensures.err (fits c) c.self.invariant

pub returns-clause-ok : goal.returns-clause-ok
returns-clause-ok c = view_pushed c.push_parts.result c.self.inside.texts c.push_parts.new.self c.args.op.now c.args.self.now (added c) (fits c) c.self.view_is
