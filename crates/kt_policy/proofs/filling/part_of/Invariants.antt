use Rattle.std.proofs.Common.{◌≡◌, ◌+◌, length}
use Rattle.kt_policy.proofs.Rows.{AreRows}
use Rattle.kt_policy.proofs.filling.part_of.Given as goal

abbrev pub invariant-loop-k : goal.invariant-loop-k
invariant-loop-k l = record { count : length l.rows.items ≡ l.k + 1; rows_are : AreRows l.part l.budget (l.k + 1) l.rows.items }
