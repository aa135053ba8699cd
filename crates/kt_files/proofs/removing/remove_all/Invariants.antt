use Rattle.std.proofs.Common.{◌≡◌, ◌<◌, ◌≤◌, ℕ, IsTrue, true, false, None, get_or}
use Rattle.kt_disk.specs.Disk.{Gone, LeavesOnly}
use Rattle.kt_files.specs.Named.{is_kept, Spares}
use Rattle.kt_files.proofs.removing.remove_all.Given as goal

abbrev pub invariant-files : goal.invariant-files
invariant-files g l = record {
  removed : IsTrue g.D.Disk.tells → (k : ℕ) → k < l.file-index → is_kept l.named.keys (get_or l.found k 0) ≡ false → g.D.Disk.seen l.disk (get_or l.found k 0) ≡ None;
  kept : IsTrue g.D.Disk.tells → (n : ℕ) → is_kept l.named.keys n ≡ true → g.D.Disk.seen l.disk n ≡ g.D.Disk.seen l.initial.disk n;
  others : IsTrue g.D.Disk.tells → (n : ℕ) → Gone (g.D.Disk.seen l.initial.disk n) (g.D.Disk.seen l.disk n);
  any_moment : IsTrue g.D.Disk.tells → LeavesOnly g.D.Disk.now g.D.Disk.leaves (Spares g.D.Disk.now g.D.Disk.leaves l.initial.disk l.named.keys) l.initial.disk l.disk;
  faults : g.D.Disk.faults l.initial.disk ≤ g.D.Disk.faults l.disk;
}
