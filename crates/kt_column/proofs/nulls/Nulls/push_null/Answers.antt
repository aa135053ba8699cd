use Rattle.kt_column.proofs.NullBits.{pushed_null}
use Rattle.kt_column.proofs.nulls.Nulls.push_null.Goals as goal

pub invariant_of-self-2 : goal.invariant_of-self-2
invariant_of-self-2 c = pushed_null c.self.inside.slots.items _ c.self.inside.present c.args.self.now c.self.invariant c.self.view_is c.requires c.in_ok-push.ensures.items
