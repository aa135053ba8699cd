use Rattle.std.proofs.Common.{sym, ap, subst}
use Rattle.std.specs.List.{All}
use Rattle.std.proofs.lemmas.List.Elements.{All-nil}
use Rattle.kt_history.specs.Spelled.{ops_in, SpellsOp}
use Rattle.kt_history.proofs.op_list.OpList.clear.Goals as goal

pub invariant_of-self : goal.invariant_of-self
invariant_of-self c = subst (All SpellsOp) (sym c.clear.ensures) (All-nil SpellsOp)

pub returns : goal.returns
returns c = ap ops_in c.clear.ensures
