use Rattle.std.proofs.Common.{◌≡◌, length}
use Rattle.kt_policy.proofs.Parts.{AreParts}
use Rattle.kt_policy.proofs.filling.table_of.Given as goal

abbrev pub invariant-loop-bound : goal.invariant-loop-bound
invariant-loop-bound l = record { count : length l.parts.items ≡ l.bound-index; parts_are : AreParts l.list l.budget l.bound-index l.parts.items }
