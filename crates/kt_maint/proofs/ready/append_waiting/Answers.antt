use Rattle.std.proofs.Common.{Err, sym, ap, ◌∙◌}
use Rattle.std.specs.Prelude.{is_some}
use Rattle.kt_maint.proofs.Readying.{not_true, settles_then, whole_log}
use Rattle.kt_maint.proofs.ready.append_waiting.Goals as goal

pub returns-in-Err-Empty-clause-settles : goal.returns-in-Err-Empty-clause-settles
returns-in-Err-Empty-clause-settles g c =
    let old = c.args.engine.now in
    let same = c.in-Err-Empty.ensures.stays in
    let empty = (c.log_out.ensures.empty).0 (c.in-Err-Empty.is ∙ ap Err c.in-Err-Empty.field-0-is) in
    let journal = c.standing.ensures.at_home empty.1 in
    let known = (c.standing.ensures.home journal.0 journal.1).known (whole_log old.log.whole old.store.whole old.tablet.core.stopped c.standing.ensures.whole empty.0) in (
      record {
        goes = ap (λ v. v.tablet.core.stopped) same ∙ empty.0;
        settled = (ap (λ v. v.log.queued) same ∙ empty.2, ap (λ v. v.log.out) same ∙ known.1, ap (λ v. v.log.holder) same ∙ empty.1);
      },
      ap (λ v. v.tablet) same,
      ap (λ v. v.store) same,
      ap (λ v. v.upkeep) same,
    )

pub returns-in-Ok-clause-settles : goal.returns-in-Ok-clause-settles
returns-in-Ok-clause-settles g c =
    let old = c.args.engine.now in
    let mid = c.log_out.new.self in
    settles_then c.args.by old mid c.append.new.engine c.append.result (c.in-Ok.ensures.lent.2 ∙ (λ k. record old { log = sym (ap (λ v. v.log) c.in-Ok.ensures.lent.2) k }))
    (not_true old.tablet.core.stopped (λ h. let stops = c.log_out.ensures.stopped.1 h in let goes = c.in-Ok.is in absurd cc)) c.append.ensures.appends

pub returns-in-Err-Out-clause-settles : goal.returns-in-Err-Out-clause-settles
returns-in-Err-Out-clause-settles g c =
    let out = (c.log_out.ensures.out c.in-Err-Out.field-0-0).0 (c.in-Err-Out.is ∙ ap Err c.in-Err-Out.field-0-is) in
    (c.in-Err-Out.ensures.stays, out.0, ap is_some out.1)
