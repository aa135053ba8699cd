use Rattle.std.proofs.Common.{◌≡◌, map, Err, None, Some, sym, ap, ◌∙◌}
use Rattle.kt_history.specs.Machine.{least}
use Rattle.kt_histlaws.specs.Core.{flown_by}
use Rattle.kt_engine.proofs.JobCalls.{by_merge}
use Rattle.kt_maint.proofs.Stages.{quiet_stage}
use Rattle.kt_maint.proofs.leaving.read.Goals as goal

none_some : {A : Type 0} (x : A) → None ≡ Some x → ⊥
none_some x h = cc

pub unreachable-requires-in-Err-NotYet : goal.unreachable-requires-in-Err-NotYet
unreachable-requires-in-Err-NotYet g c =
    let flies = (c.job_snapshot.ensures.waits c.in-Err-NotYet.field-0-0).0 (c.in-Err-NotYet.is ∙ ap Err c.in-Err-NotYet.field-0-is) in
    none_some c.in-Err-NotYet.field-0-0 (sym (ap (λ ws. least (map flown_by ws)) c.requires.calm.calm) ∙ flies.1)

pub returns-in-Ok-clause-quiet : goal.returns-in-Ok-clause-quiet
returns-in-Ok-clause-quiet g c = let at = c.requires.begun in quiet_stage c.args.by c.args.engine.now c.job_snapshot.new.self _ (by_merge _ _ at.job.want at.want (c.in-Ok.ensures.read at.job at.has)).1 c.job_snapshot.ensures.visit

pub returns-in-Ok-clause-beside : goal.returns-in-Ok-clause-beside
returns-in-Ok-clause-beside g c = let at = c.requires.begun in (by_merge _ _ at.job.want at.want (c.in-Ok.ensures.read at.job at.has)).1.beside

pub returns-in-Ok-clause-read : goal.returns-in-Ok-clause-read
returns-in-Ok-clause-read g c =
    let at = c.requires.begun in
    let read = by_merge _ _ at.job.want at.want (c.in-Ok.ensures.read at.job at.has) in
    record {
      job = at.job;
      had = at.has;
      read = read.0;
      later = read.1;
      well = record {
        faultless = λ first found. c.in-Ok.ensures.faultless at.job first at.has at.want found;
        passes = λ told rules first found plan. c.in-Ok.ensures.passes told at.job rules first at.has at.want (record { closed = found.closed; opens = found.opens; holds = found.holds }) plan;
      };
    }
