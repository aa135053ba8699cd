use Rattle.std.proofs.Common.{◌≡◌, ◌≤◌, IsTrue, map, take}
use Rattle.kt_disk.specs.Disk.{Same, Turns}
use Rattle.kt_diskrowset.specs.Data.{held_in}
use Rattle.kt_files.specs.Reading.{HoldAll}
use Rattle.kt_files.specs.Named.{AreNamed}
use Rattle.kt_files.specs.Held.{AreFresh, numbers_in, numbers_named}
use Rattle.kt_files.proofs.rowsets.read_rowsets.Given as goal

abbrev pub invariant-rowsets : goal.invariant-rowsets
invariant-rowsets g l = record {
  hold : IsTrue g.D.Disk.tells → HoldAll (g.D.Disk.seen l.initial.disk) (take l.rowset-index l.meta.rowsets) (map held_in l.rowsets.items);
  named : AreNamed (take l.rowset-index l.meta.rowsets) (map held_in l.rowsets.items);
  fresh : AreFresh l.rowsets.items;
  numbers : numbers_in l.rowsets.items ≡ numbers_named (take l.rowset-index l.meta.rowsets);
  seen : IsTrue g.D.Disk.tells → g.D.Disk.seen l.disk ≡ g.D.Disk.seen l.initial.disk;
  images : IsTrue g.D.Disk.tells → Turns g.D.Disk.now g.D.Disk.leaves Same l.initial.disk l.disk;
  faults : g.D.Disk.faults l.initial.disk ≤ g.D.Disk.faults l.disk;
}
