use Rattle.std.proofs.Common.{◌≡◌, ◌++◌, take, map}
use Rattle.std.specs.List.{flat_map}
use Rattle.kt_records.specs.Spelling.{spelling}
use Rattle.kt_journal.specs.Frames.{frame}
use Rattle.kt_journal.proofs.spell.put_frames.Given as goal

abbrev pub invariant-records : goal.invariant-records
invariant-records l = (l.out.front ≡ l.initial.out.front) × (l.out.added ≡ l.initial.out.added ++ flat_map frame (map spelling (take l.entry-index l.records)))
