use Rattle.kt_journal.proofs.Fresh.{fresh_opens}
use Rattle.kt_storeside.proofs.Fresh.{fresh_stands}
use Rattle.kt_runs.proofs.runs.crashes.reads.Goals as goal

pub run-requires-clause-stand : goal.run-requires-clause-stand
run-requires-clause-stand g c = λ κs outlives told. fresh_stands c.args.devices.store c.requires.1

pub run-requires-clause-openable : goal.run-requires-clause-openable
run-requires-clause-openable g c = λ κs outlives told. fresh_opens c.args.devices.log c.requires.0
