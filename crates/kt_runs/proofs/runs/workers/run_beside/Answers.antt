use Rattle.kt_journal.proofs.Fresh.{fresh_opens}
use Rattle.kt_storeside.proofs.Fresh.{fresh_stands}
use Rattle.kt_runs.proofs.runs.workers.run_beside.Goals as goal

pub run_into-requires-clause-stand : goal.run_into-requires-clause-stand
run_into-requires-clause-stand g c = λ κs outlives told. fresh_stands c.args.devices.store c.requires.1

pub run_into-requires-clause-openable : goal.run_into-requires-clause-openable
run_into-requires-clause-openable g c = λ κs outlives told. fresh_opens c.args.devices.log c.requires.0
