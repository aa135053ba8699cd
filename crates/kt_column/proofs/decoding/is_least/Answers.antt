use Rattle.std.proofs.Common.{subst, sym}
use Rattle.kt_column.specs.Forms.{MayUse}
use Rattle.kt_column.specs.Held.{items_of}
use Rattle.kt_column.proofs.Weaving.{held_values}
use Rattle.kt_column.proofs.decoding.is_least.Goals as goal

pub is_shortest-requires-clause-values : goal.is_shortest-requires-clause-values
is_shortest-requires-clause-values c = held_values c.args.form c.args.content.now.nulls (items_of c.args.content.now.values) _ c.requires.held

pub is_shortest-requires-clause-open : goal.is_shortest-requires-clause-open
is_shortest-requires-clause-open c = subst (MayUse c.args.form) (sym c.requires.own) c.requires.open
