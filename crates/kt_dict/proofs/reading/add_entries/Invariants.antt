use Rattle.std.proofs.Common.{◌≡◌, ◌-◌}
use Rattle.kt_dict.specs.Walk.{entries_at}
use Rattle.kt_dict.proofs.Words.{nows}
use Rattle.kt_dict.proofs.reading.add_entries.Given as goal

abbrev pub invariant-loop : goal.invariant-loop
invariant-loop l = entries_at l.most (l.count - l.counter) (nows l.entries.keys) l.rest ≡ entries_at l.most l.count (nows l.initial.entries.keys) l.bytes
