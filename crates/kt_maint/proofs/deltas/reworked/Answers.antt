use Rattle.kt_maint.proofs.DeltaSteps.{leaves_minor, leaves_major}
use Rattle.kt_maint.proofs.deltas.reworked.Goals as goal

pub returns-in-Minor-clause-leaves : goal.returns-in-Minor-clause-leaves
returns-in-Minor-clause-leaves c = λ read adds. leaves_minor c.args.want.now _ c.in-Minor.is read c.args.flushed c.with_one_redo.result adds c.with_one_redo.ensures.files

pub returns-in-Major-clause-leaves : goal.returns-in-Major-clause-leaves
returns-in-Major-clause-leaves c = λ read adds. leaves_major c.args.want.now _ c.in-Major.is read c.args.flushed c.with_folded.result adds c.with_folded.ensures.files
