use Rattle.std.proofs.Common.{◌≡◌, ◌<◌, ◌≤◌, ℕ, [], take}
use Rattle.kt_diskrowset.specs.Mems.{steps_in_mems}
use Rattle.kt_diskrowset.specs.Missed.{Precedes}
use Rattle.kt_diskrowset.proofs.rowset.missed.next_in_mems.Given as goal

abbrev pub invariant-mems : goal.invariant-mems
invariant-mems l = record {
  behind : (n : ℕ) → n < l.from → Precedes n l.next;
  none : (n : ℕ) → l.from ≤ n → Precedes n l.next → steps_in_mems l.pool n (take l.mem-index l.mems) ≡ [];
}
