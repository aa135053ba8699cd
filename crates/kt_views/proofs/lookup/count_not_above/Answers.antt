use Rattle.std.proofs.Common.{rules}
use Rattle.std.specs.Prelude.{not}
use Rattle.std.specs.Ordering.{is_lt}
use Rattle.std.proofs.lemmas.List.Sorted.{IsPartitionPoint-from_clause}
use Rattle.kt_history.specs.Rows.{key_cmp}
use Rattle.kt_views.proofs.Places.{parts_not_above}
use Rattle.kt_views.proofs.lookup.count_not_above.Goals as goal

pub returns-clause-parts : goal.returns-clause-parts
returns-clause-parts c = IsPartitionPoint-from_clause (λ x. not (is_lt (key_cmp c.args.key.now x.0))) _ _ c.partition_point.ensures.partitioned (parts_not_above c.args.rows.now c.args.key.now c.requires) (λ a r q k. search rules)
