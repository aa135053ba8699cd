use Rattle.std.proofs.Common.{◌≡◌, length}
use Rattle.kt_policy.proofs.Parts.{AreParts}
use Rattle.kt_policy.proofs.filling.is_table.Given as goal

abbrev pub invariant-loop-l : goal.invariant-loop-l
invariant-loop-l l = record { count : length l.table ≡ length l.list; parts_are : AreParts l.list l.budget l.l l.table }
