use Rattle.std.proofs.Common.{rules}
use Rattle.std.specs.Prelude.{nat_lt}
use Rattle.std.proofs.lemmas.List.Sorted.{IsPartitionPoint-from_clause, IsPartitionedBy-ltb}
use Rattle.kt_history.specs.declared.changes.Delta.{Delta}
use Rattle.kt_diskrowset.proofs.fresh.count_before.Goals as goal

pub returns-clause-parts : goal.returns-clause-parts
returns-clause-parts c =
    IsPartitionPoint-from_clause (λ (d : Delta). nat_lt d.ordinal c.args.ordinal) _ _ c.partition_point.ensures.partitioned (IsPartitionedBy-ltb (λ (d : Delta). d.ordinal) c.args.changes.now c.args.ordinal c.requires) (λ a r q k. search rules)
