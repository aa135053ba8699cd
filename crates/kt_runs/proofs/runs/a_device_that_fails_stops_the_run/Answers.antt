use Rattle.std.proofs.Common.{ap}
use Rattle.kt_disk.specs.Memory.{MemView}
use Rattle.kt_journal.proofs.Fresh.{fresh_opens}
use Rattle.kt_storeside.proofs.Fresh.{fresh_stands}
use Rattle.kt_runs.proofs.runs.a_device_that_fails_stops_the_run.Goals as goal

pub run-requires-clause-openable : goal.run-requires-clause-openable
run-requires-clause-openable g c = λ outlives told. record { either = (fresh_opens c.in_ok-failing.field-0.inner c.in_ok-failing.ensures).either }

pub run-requires-clause-stand : goal.run-requires-clause-stand
run-requires-clause-stand g c = λ outlives told. fresh_stands c.new.result (ap (λ (d : MemView). d.calls) c.new.ensures)

pub run-requires-2-clause-openable : goal.run-requires-2-clause-openable
run-requires-2-clause-openable g c = λ outlives told. fresh_opens c.in_ok-left.left c.in_ok-left.ensures.fresh.0

pub run-requires-2-clause-stand : goal.run-requires-2-clause-stand
run-requires-2-clause-stand g c = λ outlives told. fresh_stands c.in_ok-kept.kept c.in_ok-kept.ensures.fresh.0
