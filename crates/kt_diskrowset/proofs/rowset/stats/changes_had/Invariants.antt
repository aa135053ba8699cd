use Rattle.std.proofs.Common.{◌≡◌, ◌^◌, take, min}
use Rattle.kt_diskrowset.specs.Stats.{changes_had}
use Rattle.kt_diskrowset.proofs.rowset.stats.changes_had.Given as goal

abbrev pub invariant-mems : goal.invariant-mems
invariant-mems l = l.count ≡ min (changes_had l.pool (take l.mem-index l.mems)) (2 ^ 31)
