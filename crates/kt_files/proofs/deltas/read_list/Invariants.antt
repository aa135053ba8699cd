use Rattle.std.proofs.Common.{◌≡◌, ◌≤◌, IsTrue, take}
use Rattle.kt_disk.specs.Disk.{Same, Turns}
use Rattle.kt_diskrowset.specs.Files.{as_files}
use Rattle.kt_files.specs.Named.{deltas_named}
use Rattle.kt_files.specs.Reading.{HoldEach}
use Rattle.kt_files.proofs.deltas.read_list.Given as goal

abbrev pub invariant-files : goal.invariant-files
invariant-files g l = record {
  hold : IsTrue g.D.Disk.tells → HoldEach (g.D.Disk.seen l.initial.disk) l.way l.rows (take l.file-index l.list) (as_files l.files.items);
  named : deltas_named (as_files l.files.items) ≡ take l.file-index l.list;
  seen : IsTrue g.D.Disk.tells → g.D.Disk.seen l.disk ≡ g.D.Disk.seen l.initial.disk;
  images : IsTrue g.D.Disk.tells → Turns g.D.Disk.now g.D.Disk.leaves Same l.initial.disk l.disk;
  faults : g.D.Disk.faults l.initial.disk ≤ g.D.Disk.faults l.disk;
}
