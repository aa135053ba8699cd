use Rattle.std.proofs.Common.{◌≡◌, ◌++◌, take}
use Rattle.std.specs.List.{flat_map}
use Rattle.kt_deltafile.specs.Spelling.{record_bytes}
use Rattle.kt_deltafile.proofs.writing.put_records.Given as goal

abbrev pub invariant-records : goal.invariant-records
invariant-records l = (l.out.front ≡ l.initial.out.front) × (l.out.added ≡ l.initial.out.added ++ flat_map record_bytes (take l.one-index l.records))
