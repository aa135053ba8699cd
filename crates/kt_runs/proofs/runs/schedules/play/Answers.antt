use Rattle.std.proofs.Common.{ap, ◌∙◌}
use Rattle.kt_disk.specs.Memory.{MemView}
use Rattle.kt_journal.proofs.Fresh.{fresh_opens}
use Rattle.kt_storeside.proofs.Fresh.{fresh_stands}
use Rattle.kt_runs.proofs.runs.schedules.play.Goals as goal

pub run-requires-clause-stand : goal.run-requires-clause-stand
run-requires-clause-stand g c = λ κs outlives told. fresh_stands c.of-store.result.inner (ap (λ (d : MemView). d.calls) (c.of-store.ensures.inner ∙ c.new-2.ensures))

pub run-requires-clause-openable : goal.run-requires-clause-openable
run-requires-clause-openable g c = λ κs outlives told. record { either = (fresh_opens c.of-log.result.inner (ap (λ (d : MemView). d.calls) (c.of-log.ensures.inner ∙ c.new.ensures))).either }
