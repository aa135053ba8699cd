use Rattle.kt_journal.proofs.Fresh.{fresh_opens}
use Rattle.kt_storeside.proofs.Fresh.{fresh_stands}
use Rattle.kt_runs.proofs.runs.stops.run_failing.Goals as goal

pub run-requires-clause-openable : goal.run-requires-clause-openable
run-requires-clause-openable g c = λ κs outlives told. record { either = (fresh_opens c.in_ok-log.log.inner c.in_ok-log.ensures).either }

pub run-requires-clause-stand : goal.run-requires-clause-stand
run-requires-clause-stand g c = λ κs outlives told. fresh_stands c.in_ok-store.store.inner c.in_ok-store.ensures
