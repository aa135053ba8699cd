use Rattle.std.proofs.Common.{arith}
use Rattle.std.proofs.lemmas.Grind.{common_steps}
use Rattle.kt_mvcc.specs.Held.{hash_of}
use Rattle.kt_mvcc.proofs.held.hash_of.Goals as goal

pub returns : goal.returns
unfolding hash_of
returns c = grind (arith, common_steps)
