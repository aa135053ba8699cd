use Rattle.std.proofs.Common.{◌≡◌, ◌^◌, take, min}
use Rattle.std.specs.List.{sum_by}
use Rattle.kt_engine.proofs.Entries.{told_count}
use Rattle.kt_engine.proofs.telling.tell_many.Given as goal

abbrev pub invariant-rowsets : goal.invariant-rowsets
invariant-rowsets l = l.count ≡ min (sum_by told_count (take l.rowset-index l.rowsets)) (2 ^ 31)
