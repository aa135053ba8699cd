use Rattle.std.proofs.Common.{leb, rules}
use Rattle.std.proofs.lemmas.List.Sorted.{IsPartitionPoint-from_clause}
use Rattle.kt_rle.proofs.Held.{parted}
use Rattle.kt_rle.proofs.items.runs_before.Goals as goal

pub returns-clause-parts : goal.returns-clause-parts
returns-clause-parts c = IsPartitionPoint-from_clause (λ h. leb h.end c.args.i) _ _ c.partition_point.ensures.partitioned (parted c.args.runs.now c.args.i c.requires.rise) (λ a r q k. search rules)
