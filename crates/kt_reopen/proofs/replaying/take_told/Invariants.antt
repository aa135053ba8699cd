use Rattle.std.proofs.Common.{Some, drop}
use Rattle.kt_reopen.proofs.NeedLaws.{dropped}
use Rattle.kt_reopen.proofs.WritesDone.{AlongOps}
use Rattle.kt_reopen.proofs.replaying.take_told.Given as goal

abbrev pub invariant-ops : goal.invariant-ops
invariant-ops l = AlongOps l.meta l.ts l.initial.stores l.ops (Some l.rows) l.stores (drop l.at l.ops) (dropped l.at (Some l.rows))
