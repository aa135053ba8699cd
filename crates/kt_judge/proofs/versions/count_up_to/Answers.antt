use Rattle.std.proofs.Common.{rules}
use Rattle.std.specs.Prelude.{nat_le}
use Rattle.std.proofs.lemmas.List.Sorted.{IsPartitionPoint-from_clause, IsPartitionedBy-leb}
use Rattle.kt_judge.proofs.versions.count_up_to.Goals as goal

pub returns-clause-parts : goal.returns-clause-parts
returns-clause-parts c = IsPartitionPoint-from_clause (λ x. nat_le x.0 c.args.t) _ _ c.partition_point.ensures.partitioned (IsPartitionedBy-leb (λ x. x.0) c.args.list.now c.args.t c.requires) (λ a r q k. search rules)
