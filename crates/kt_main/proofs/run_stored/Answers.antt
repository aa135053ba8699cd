use Rattle.std.proofs.Common.{sym, subst}
use Rattle.kt_storeside.specs.Supers.{NamedStand}
use Rattle.kt_main.proofs.run_stored.Goals as goal

pub run-requires-clause-openable : goal.run-requires-clause-openable
run-requires-clause-openable g c = λ κs outlives told. c.requires.openable told

-- the store on the heap is the store
pub run-requires-clause-stand : goal.run-requires-clause-stand
run-requires-clause-stand g c = λ κs outlives told. subst (NamedStand g.D.Disk.seen g.D.Disk.now g.D.Disk.leaves) (sym c.in-Ok.ensures) (c.requires.stand told)
