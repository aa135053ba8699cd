use Rattle.std.proofs.Common.{◌≡◌, ◌≤◌, max, IsTrue, take, map, length}
use Rattle.std.specs.Vec.{vec_len, vec_capacity}
use Rattle.kt_disk.specs.Disk.{Files}
use Rattle.kt_diskrowset.specs.Data.{held_in}
use Rattle.kt_files.specs.Reading.{HoldAll}
use Rattle.kt_outputs.specs.Outputs.{meta_in, AreWhole, AreThere, HasLeft, AreStable}
use Rattle.kt_outputs.specs.Again.{AreAgain, AllNumbered, AllKeptStand}
use Rattle.kt_outputs.proofs.again.write_again.Given as goal

abbrev pub invariant-outputs : goal.invariant-outputs
invariant-outputs g l = record {
  long : vec_len l.rowsets ≡ l.rowset-index;
  room : length l.outputs.rowsets ≤ vec_capacity l.rowsets;
  rowset : l.next.rowset ≡ l.initial.next.rowset;
  again : AreAgain (take l.rowset-index l.outputs.rowsets) l.rowsets.items;
  holds : IsTrue g.D.Disk.tells → AreWhole (take l.rowset-index l.outputs.rowsets) → (files : Files) → AreThere l.initial.next.file l.next.file (g.D.Disk.seen l.disk) files → AllKeptStand files (take l.rowset-index l.outputs.rowsets) → HoldAll files (map (meta_in 0) l.rowsets.items) (map held_in l.rowsets.items);
  numbered : AllNumbered l.initial.next.file l.next.file (take l.rowset-index l.outputs.rowsets) l.rowsets.items;
  up : l.initial.next.file ≤ l.next.file;
  few : l.next.file ≤ max l.initial.next.file l.most;
  stable : IsTrue g.D.Disk.tells → AreStable g.D.Disk.seen g.D.Disk.now g.D.Disk.leaves l.initial.next.file l.next.file l.disk;
  left : IsTrue g.D.Disk.tells → HasLeft g.D.Disk.seen g.D.Disk.now g.D.Disk.leaves l.initial.next.file l.next.file l.initial.disk l.disk;
  faults : g.D.Disk.faults l.initial.disk ≤ g.D.Disk.faults l.disk;
}
