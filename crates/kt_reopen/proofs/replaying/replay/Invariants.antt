use Rattle.std.proofs.Common.{drop}
use Rattle.kt_reopen.proofs.LogsDone.{Along}
use Rattle.kt_reopen.proofs.replaying.replay.Given as goal

abbrev pub invariant-records : goal.invariant-records
invariant-records l = Along l.meta l.records l.initial.stores l.stores l.queued.items (drop l.at l.records)
