use Rattle.std.proofs.Common.{◌≡◌, ◌++◌, drop}
use Rattle.kt_diskrowset.proofs.MissedRows.{listed}
use Rattle.kt_diskrowset.proofs.rowset.missed.push_mems.Given as goal

abbrev pub invariant-mems : goal.invariant-mems
invariant-mems l = l.list ++ listed l.pool l.above l.ordinal l.key (drop l.mem-index l.mems) ≡ l.initial.list ++ listed l.pool l.above l.ordinal l.key l.mems
