use Rattle.std.proofs.Common.{◌≡◌, ℕ, List, [], ◌∷◌, ◌++◌, subst}
use Rattle.std.specs.Prelude.{OnOk}
use Rattle.kt_history.specs.Spelled.{op_in, operation}
use Rattle.kt_history.proofs.Spelled.{only_part, all_pushed, view_pushed}
use Rattle.kt_history.proofs.op_list.OpList.push_spelled.Goals as goal

added : (c : goal.After-push_parts) → OnOk c.push_parts.result (c.push_parts.new.self ≡ c.self.inside.texts ++ operation (op_in c.args.bytes.now) ∷ [])
added c = subst (λ (text : List ℕ). OnOk c.push_parts.result (c.push_parts.new.self ≡ c.self.inside.texts ++ text ∷ [])) (only_part c.args.bytes.now c.requires) c.push_parts.ensures.ok

pub invariant_of-self : goal.invariant_of-self
invariant_of-self c = all_pushed c.push_parts.result c.self.inside.texts c.push_parts.new.self (op_in c.args.bytes.now) (added c) c.push_parts.ensures.err c.requires.fits c.self.invariant

pub returns-clause-ok : goal.returns-clause-ok
returns-clause-ok c = view_pushed c.push_parts.result c.self.inside.texts c.push_parts.new.self (op_in c.args.bytes.now) c.args.self.now (added c) c.requires.fits c.self.view_is
