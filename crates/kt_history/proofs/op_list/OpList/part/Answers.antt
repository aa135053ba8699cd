use Rattle.std.proofs.Common.{◌+◌, length, sym, ap, ◌∙◌, subst, arith}
use Rattle.std.proofs.lemmas.List.{length-map}
use Rattle.std.specs.List.{All}
use Rattle.kt_history.specs.Spelled.{op_in, ops_in, SpellsOp}
use Rattle.kt_history.proofs.Spelled.{all_of_part, ops_of_part}
use Rattle.kt_history.proofs.op_list.OpList.part.Goals as goal

pub part-requires : goal.part-requires
part-requires c = omega (arith, ap length c.self.view_is, length-map c.self.inside.texts op_in, c.requires)

pub invariant_of-result : goal.invariant_of-result
invariant_of-result c = subst (All SpellsOp) (sym c.in_ok-part.ensures) (all_of_part c.self.inside.texts c.args.first (c.args.first + c.args.len) c.self.invariant)

pub returns : goal.returns
returns c = ap ops_in c.in_ok-part.ensures ∙ ops_of_part c.self.inside.texts c.args.self.now c.args.first (c.args.first + c.args.len) c.self.view_is
