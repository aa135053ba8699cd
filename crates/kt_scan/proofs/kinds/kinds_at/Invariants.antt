use Rattle.std.proofs.Common.{◌≡◌, ◌++◌, map, take}
use Rattle.std.specs.Prelude.{unwrap_or}
use Rattle.std.specs.Ordering.{nat_cmp}
use Rattle.std.specs.FinMap.Entries.{find}
use Rattle.kt_base.specs.declared.cell.Kind.TheVariants.{Int64}
use Rattle.kt_scan.specs.Encoded.{keys_of, others_of}
use Rattle.kt_scan.proofs.kinds.kinds_at.Given as goal

abbrev pub invariant-loop-id : goal.invariant-loop-id
invariant-loop-id l = l.kinds.items ≡ map (λ id. unwrap_or (find nat_cmp id (keys_of l.schema ++ others_of l.schema)) Int64) (take l.id-index l.ids)
