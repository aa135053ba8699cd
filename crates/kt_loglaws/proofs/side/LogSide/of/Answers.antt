use Rattle.std.proofs.Common.{arith}
use Rattle.std.proofs.lemmas.Grind.{common_steps}
use Rattle.kt_loglaws.proofs.Appended.{begins}
use Rattle.kt_loglaws.proofs.side.LogSide.of.Goals as goal

pub invariant_of-result : goal.invariant_of-result
invariant_of-result g c = (
  grind (arith, common_steps),
  begins g.L.Disk.tells g.L.Disk.seen g.L.Disk.now g.L.Disk.leaves c.args.journal c.of-3.result.value c.args.queued c.into_vec.result.items c.of-3.ensures c.into_vec.ensures c.requires.durable c.requires.of_logged,
)
