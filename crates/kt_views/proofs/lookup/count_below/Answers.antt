use Rattle.std.proofs.Common.{rules}
use Rattle.std.specs.Ordering.{is_lt}
use Rattle.std.proofs.lemmas.List.Sorted.{IsPartitionPoint-from_clause}
use Rattle.kt_history.specs.Rows.{key_cmp}
use Rattle.kt_views.proofs.Places.{parts_below}
use Rattle.kt_views.proofs.lookup.count_below.Goals as goal

pub returns-clause-parts : goal.returns-clause-parts
returns-clause-parts c = IsPartitionPoint-from_clause (λ x. is_lt (key_cmp x.0 c.args.key.now)) _ _ c.partition_point.ensures.partitioned (parts_below c.args.rows.now c.args.key.now c.requires) (λ a r q k. search rules)
