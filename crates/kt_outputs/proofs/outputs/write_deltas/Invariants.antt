use Rattle.std.proofs.Common.{◌≡◌, ◌≤◌, max, ℕ, IsTrue, take, map, length}
use Rattle.std.specs.Vec.{vec_len, vec_capacity}
use Rattle.kt_deltafile.specs.declared.file.Way.{Way}
use Rattle.kt_disk.specs.Disk.{Files}
use Rattle.kt_diskrowset.specs.Files.{as_files, lists_of}
use Rattle.kt_files.specs.Reading.{HoldEach}
use Rattle.kt_outputs.specs.Named.{AreShortFiles}
use Rattle.kt_outputs.specs.Outputs.{delta_ref, delta_numbers, CountUp, AreOfWay, AreThere, HasLeft, AreStable}
use Rattle.kt_outputs.proofs.outputs.write_deltas.Given as goal

abbrev pub invariant-deltas : goal.invariant-deltas
invariant-deltas g l = record {
  long : vec_len l.files ≡ l.delta-index;
  room : length l.deltas ≤ vec_capacity l.files;
  same : lists_of l.files.items ≡ lists_of (take l.delta-index l.deltas);
  holds : IsTrue g.D.Disk.tells → (way : Way) (rows : ℕ) → AreOfWay way rows (take l.delta-index l.deltas) → (files : Files) → AreThere l.initial.next l.next (g.D.Disk.seen l.disk) files → HoldEach files way rows (map delta_ref l.files.items) (as_files l.files.items);
  numbered : CountUp l.initial.next l.next (delta_numbers l.files.items);
  short : AreShortFiles l.files.items;
  up : l.initial.next ≤ l.next;
  few : l.next ≤ max l.initial.next l.most;
  stable : IsTrue g.D.Disk.tells → AreStable g.D.Disk.seen g.D.Disk.now g.D.Disk.leaves l.initial.next l.next l.disk;
  left : IsTrue g.D.Disk.tells → HasLeft g.D.Disk.seen g.D.Disk.now g.D.Disk.leaves l.initial.next l.next l.initial.disk l.disk;
  faults : g.D.Disk.faults l.initial.disk ≤ g.D.Disk.faults l.disk;
}
