use Rattle.std.proofs.Common.{◌≡◌, max, drop}
use Rattle.kt_loglaws.specs.Replay.{last_of}
use Rattle.kt_reopen.proofs.records.last_of.Given as goal

abbrev pub invariant-records : goal.invariant-records
invariant-records l = max l.last (last_of (drop l.at l.records)) ≡ last_of l.records
