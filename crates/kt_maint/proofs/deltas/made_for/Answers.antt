use Rattle.kt_diskrowset.specs.Data.{held_in}
use Rattle.kt_maint.proofs.DeltaSteps.{rewritten_then}
use Rattle.kt_maint.proofs.deltas.made_for.Goals as goal

pub returns-then-is_whole-clause-same : goal.returns-then-is_whole-clause-same
returns-then-is_whole-clause-same c = rewritten_then c.args.read c.in_ok-flushed.flushed c.in_ok-made.made c.in_ok-flushed.ensures.same c.in_ok-made.ensures.same

pub returns-then-is_whole-clause-leaves : goal.returns-then-is_whole-clause-leaves
returns-then-is_whole-clause-leaves c = c.in_ok-made.ensures.leaves (held_in c.args.read) c.in_ok-flushed.ensures.files
