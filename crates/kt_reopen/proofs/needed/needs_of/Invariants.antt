use Rattle.std.proofs.Common.{◌≡◌, ◌+◌, drop}
use Rattle.kt_reopen.specs.Bare.{bare}
use Rattle.kt_reopen.specs.Needed.{needs_of}
use Rattle.kt_reopen.proofs.needed.needs_of.Given as goal

abbrev pub invariant-records : goal.invariant-records
invariant-records l = l.sum + needs_of (bare l.meta) l.records (drop l.at l.records) ≡ needs_of (bare l.meta) l.records l.records
