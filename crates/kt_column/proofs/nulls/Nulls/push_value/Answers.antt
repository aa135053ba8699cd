use Rattle.std.proofs.Common.{arith, ◌≤◌}
use Rattle.kt_column.proofs.NullBits.{pushed_value, few_present}
use Rattle.kt_column.proofs.nulls.Nulls.push_value.Goals as goal

pub overflow_add-self : goal.overflow_add-self
overflow_add-self c = let few : c.self.inside.present ≤ 8192 = few_present c.self.inside.slots.items _ c.self.invariant in omega arith

pub invariant_of-self-2 : goal.invariant_of-self-2
invariant_of-self-2 c = pushed_value c.self.inside.slots.items _ c.self.inside.present c.args.self.now c.self.invariant c.self.view_is c.requires c.in_ok-push.ensures.items
