use Rattle.std.proofs.Common.{ap}
use Rattle.kt_disk.specs.Memory.{MemView}
use Rattle.kt_journal.proofs.Fresh.{fresh_opens}
use Rattle.kt_storeside.proofs.Fresh.{fresh_stands}
use Rattle.kt_main.proofs.run_in_memory.Goals as goal

pub run_boxed-requires-clause-openable : goal.run_boxed-requires-clause-openable
run_boxed-requires-clause-openable g c = λ κs outlives told. fresh_opens c.new.result (ap (λ (d : MemView). d.calls) c.new.ensures)

pub run_boxed-requires-clause-stand : goal.run_boxed-requires-clause-stand
run_boxed-requires-clause-stand g c = λ κs outlives told. fresh_stands c.new-2.result (ap (λ (d : MemView). d.calls) c.new-2.ensures)
