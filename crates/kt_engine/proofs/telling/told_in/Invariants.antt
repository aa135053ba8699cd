use Rattle.std.proofs.Common.{◌≡◌, ◌^◌, take, min}
use Rattle.kt_engine.proofs.Entries.{told_in}
use Rattle.kt_engine.proofs.telling.told_in.Given as goal

abbrev pub invariant-records : goal.invariant-records
invariant-records l = l.count ≡ min (told_in l.rows (take l.record-index l.records)) (2 ^ 31)
