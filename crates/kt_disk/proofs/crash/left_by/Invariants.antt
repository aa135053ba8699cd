use Rattle.std.proofs.Common.{◌≡◌, ℕ, take, drop, reverse}
use Rattle.std.specs.Ordering.{nat_cmp}
use Rattle.std.specs.BTreeMap as tree
use Rattle.kt_disk.specs.Memory.{listed}
use Rattle.kt_disk.specs.Left.{is_synced, followed}
use Rattle.kt_disk.proofs.LeftLoop.{SoFar}
use Rattle.kt_disk.proofs.crash.left_by.Given as goal

abbrev pub invariant-loop-event : goal.invariant-loop-event
invariant-loop-event l = record {
  synced : l.synced.items ≡ reverse (followed (drop l.event-index l.calls));
  files : (n : ℕ) → SoFar (is_synced n (drop l.event-index l.calls)) n (listed l.start n) (reverse (take l.event-index l.calls)) (tree.get nat_cmp l.files n);
}
