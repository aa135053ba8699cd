use Rattle.std.proofs.Common.{sym, subst}
use Rattle.kt_journal.specs.Log.{CanOpen}
use Rattle.kt_main.proofs.run_boxed.Goals as goal

-- the log on the heap is the log
pub run_stored-requires-clause-openable : goal.run_stored-requires-clause-openable
run_stored-requires-clause-openable g c = λ κs outlives told.
    record { either = (subst (CanOpen g.L.Disk.now g.L.Disk.leaves) (sym c.in-Ok.ensures) (c.requires.openable told)).either }

pub run_stored-requires-clause-stand : goal.run_stored-requires-clause-stand
run_stored-requires-clause-stand g c = λ κs outlives told. c.requires.stand told
