use Rattle.std.proofs.Common.{◌≡◌, Err, None, Some, sym, ap, ◌∙◌}
use Rattle.std.specs.Prelude.{map}
use Rattle.kt_history.specs.Machine.{least}
use Rattle.kt_histlaws.specs.Core.{flown_by}
use Rattle.kt_maint.proofs.DeltaSteps.{read_one, reads_one}
use Rattle.kt_maint.proofs.Stages.{quiet_stage}
use Rattle.kt_maint.proofs.leaving.read_one.Goals as goal

none_some : {A : Type 0} (x : A) → None ≡ Some x → ⊥
none_some x h = cc

pub alone-requires : goal.alone-requires
alone-requires g c =
    let at = c.requires.begun.1 in
    let input = c.in-Ok.input in
    let read = reads_one c.args.by c.requires.begun.0 g.D.Disk.tells g.D.Disk.seen c.args.engine.now c.job_snapshot.new.self at input.inputs input.bound input.mark (c.in-Ok.ensures.read at.job at.has) in
    record { one = (read.d, read.alone.1) }

pub unreachable-requires-in-Err-NotYet : goal.unreachable-requires-in-Err-NotYet
unreachable-requires-in-Err-NotYet g c =
    let flies = (c.job_snapshot.ensures.waits c.in-Err-NotYet.field-0-0).0 (c.in-Err-NotYet.is ∙ ap Err c.in-Err-NotYet.field-0-is) in
    none_some c.in-Err-NotYet.field-0-0 (sym (ap (λ ws. least (map flown_by ws)) c.requires.calm.calm) ∙ flies.1)

pub returns-in-Ok-clause-quiet : goal.returns-in-Ok-clause-quiet
returns-in-Ok-clause-quiet g c =
    let at = c.requires.begun.1 in
    let input = c.in-Ok.input in
    let read = reads_one c.args.by c.requires.begun.0 g.D.Disk.tells g.D.Disk.seen c.args.engine.now c.job_snapshot.new.self at input.inputs input.bound input.mark (c.in-Ok.ensures.read at.job at.has) in
    quiet_stage c.args.by c.args.engine.now c.job_snapshot.new.self _ read.later c.job_snapshot.ensures.visit

pub returns-in-Ok-clause-beside : goal.returns-in-Ok-clause-beside
returns-in-Ok-clause-beside g c =
    let at = c.requires.begun.1 in
    let input = c.in-Ok.input in
    let read = reads_one c.args.by c.requires.begun.0 g.D.Disk.tells g.D.Disk.seen c.args.engine.now c.job_snapshot.new.self at input.inputs input.bound input.mark (c.in-Ok.ensures.read at.job at.has) in
    read.later.beside

pub returns-in-Ok-clause-read : goal.returns-in-Ok-clause-read
returns-in-Ok-clause-read g c = λ w at.
    let input = c.in-Ok.input in
    let read = reads_one c.args.by w g.D.Disk.tells g.D.Disk.seen c.args.engine.now c.job_snapshot.new.self at input.inputs input.bound input.mark (c.in-Ok.ensures.read at.job at.has) in
    read_one c.args.by w g.D.Disk.tells g.D.Disk.seen c.args.engine.now c.job_snapshot.new.self at input.inputs input.bound input.mark c.alone.result c.alone.ensures read
