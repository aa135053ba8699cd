use Rattle.std.proofs.Common.{◌≡◌, ◌≤◌, ℕ, length, drop, reverse}
use Rattle.std.specs.Prelude.{is_some}
use Rattle.std.specs.Ordering.{nat_cmp}
use Rattle.std.specs.BTreeMap as tree
use Rattle.kt_disk.specs.Left.{is_synced, followed}
use Rattle.kt_disk.proofs.crash.synced_after.Given as goal

abbrev pub invariant-calls : goal.invariant-calls
invariant-calls l = record {
  within : l.i ≤ length l.calls;
  files : (n : ℕ) → is_some (tree.get nat_cmp l.files n) ≡ is_synced n (drop l.i l.calls);
  synced : l.synced.items ≡ reverse (followed (drop l.i l.calls));
}

abbrev pub decreases-calls : goal.decreases-calls
decreases-calls l = l.i
