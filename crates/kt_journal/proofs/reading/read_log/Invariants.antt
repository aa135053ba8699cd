use Rattle.std.proofs.Common.{◌≡◌, ◌-◌, ◌≤◌, ◌++◌, [], length, map, drop}
use Rattle.std.specs.List.{flat_map}
use Rattle.kt_records.specs.Spelling.{spelling}
use Rattle.kt_journal.specs.Frames.{frame}
use Rattle.kt_journal.specs.Order.{InOrder, newest_first}
use Rattle.kt_journal.specs.Tracks.{Tracks}
use Rattle.kt_journal.proofs.reading.read_log.Given as goal

abbrev pub invariant-frames : goal.invariant-frames
invariant-frames l = record {
  whole : l.bytes ≡ flat_map frame (map spelling l.records) ++ drop l.end l.bytes;
  within : l.end ≤ length l.bytes;
  place_is : l.end ≡ length (flat_map frame (map spelling l.records));
  ordered : InOrder [] l.records;
  tracks : Tracks l.order (newest_first [] l.records);
}

abbrev pub decreases-frames : goal.decreases-frames
decreases-frames l = length l.bytes - l.end
