use Rattle.std.proofs.Common.{Err, Some, inl, inr, sym, ap, subst, ◌∙◌}
use Rattle.std.specs.Prelude.{IsTrue}
use Rattle.kt_engine.specs.declared.store.Purpose.TheVariants as purpose
use Rattle.kt_engine.specs.JobMeta.{with_outputs}
use Rattle.kt_engine.specs.Jobs.{job_of, rewritten}
use Rattle.kt_engine.specs.Stored.{next_super}
use Rattle.kt_engine.specs.Visits.{root_of}
use Rattle.kt_engine.proofs.JobCalls.{lent_none, meta_none}
use Rattle.kt_serve.proofs.Ending.{no_job, none_some, done_on, halts_on}
use Rattle.kt_serve.proofs.close.publish_last.Goals as goal

-- no pass has it, and the tablet goes on

pub unreachable-requires-in-Err-Out : goal.unreachable-requires-in-Err-Out
unreachable-requires-in-Err-Out g c =
    let out = (c.store_out.ensures.out c.in-Err-Out.field-0-0).0 (c.in-Err-Out.is ∙ ap Err c.in-Err-Out.field-0-is) in
    none_some c.in-Err-Out.field-0-0 (sym c.requires.store_home ∙ out.1)

pub store_out-requires : goal.store_out-requires
store_out-requires g c = record {
  settled = λ publishes. (c.requires.done.out, c.requires.done.queued);
  job = λ job publishes had. absurd (none_some job (sym (no_job c.args.number c.args.engine.now.upkeep (sym c.has_job.ensures ∙ c.if-has_job.false)) ∙ had));
}

-- its superblock is the next one, and no job publishes

pub publish_lent-requires-clause-meta : goal.publish_lent-requires-clause-meta
publish_lent-requires-clause-meta g c =
    let none = no_job c.args.number c.args.engine.now.upkeep (sym c.has_job.ensures ∙ c.if-has_job.false) in
    let went = c.in-Ok.ensures.lent.2 ∙ lent_none c.args.engine.now c.args.number (rewritten (job_of c.args.number c.args.engine.now.upkeep)) c.in-Ok.lent.meta c.store_out.new.self.upkeep (ap rewritten none) in
    let meta = c.in-Ok.ensures.meta ∙ meta_none c.args.engine.now c.args.number (rewritten (job_of c.args.number c.args.engine.now.upkeep)) purpose.Publish (ap rewritten none) ∙ ap (λ o. Some (with_outputs o (next_super c.args.engine.now))) none in
    (meta ∙ sym (ap (λ v. Some (next_super v)) went), ap (λ v. v.store.lent) went)

pub publish_lent-requires-clause-free : goal.publish_lent-requires-clause-free
publish_lent-requires-clause-free g c =
    let none = no_job c.args.number c.args.engine.now.upkeep (sym c.has_job.ensures ∙ c.if-has_job.false) in
    let meta = c.in-Ok.ensures.meta ∙ meta_none c.args.engine.now c.args.number (rewritten (job_of c.args.number c.args.engine.now.upkeep)) purpose.Publish (ap rewritten none) ∙ ap (λ o. Some (with_outputs o (next_super c.args.engine.now))) none in
    ap (λ u. u.publishing) (c.in-Ok.ensures.upkeep (inr none)) ∙ c.in-Ok.ensures.free (next_super c.args.engine.now) meta

pub publish_lent-requires-clause-done : goal.publish_lent-requires-clause-done
publish_lent-requires-clause-done g c =
    let none = no_job c.args.number c.args.engine.now.upkeep (sym c.has_job.ensures ∙ c.if-has_job.false) in
    let went = c.in-Ok.ensures.lent.2 ∙ lent_none c.args.engine.now c.args.number (rewritten (job_of c.args.number c.args.engine.now.upkeep)) c.in-Ok.lent.meta c.store_out.new.self.upkeep (ap rewritten none) in
    done_on c.args.engine.now _ c.requires.done (ap (λ v. v.tablet) went) (ap (λ v. v.log) went)

pub publish_lent-requires-clause-home : goal.publish_lent-requires-clause-home
publish_lent-requires-clause-home g c =
    let none = no_job c.args.number c.args.engine.now.upkeep (sym c.has_job.ensures ∙ c.if-has_job.false) in
    let went = c.in-Ok.ensures.lent.2 ∙ lent_none c.args.engine.now c.args.number (rewritten (job_of c.args.number c.args.engine.now.upkeep)) c.in-Ok.lent.meta c.store_out.new.self.upkeep (ap rewritten none) in
    ap (λ v. v.log.holder) went ∙ c.requires.home

pub publish_lent-requires-clause-out : goal.publish_lent-requires-clause-out
publish_lent-requires-clause-out g c =
    let none = no_job c.args.number c.args.engine.now.upkeep (sym c.has_job.ensures ∙ c.if-has_job.false) in
    let went = c.in-Ok.ensures.lent.2 ∙ lent_none c.args.engine.now c.args.number (rewritten (job_of c.args.number c.args.engine.now.upkeep)) c.in-Ok.lent.meta c.store_out.new.self.upkeep (ap rewritten none) in
    ap (λ v. v.store.holder) went

pub publish_lent-requires-clause-whole : goal.publish_lent-requires-clause-whole
publish_lent-requires-clause-whole g c =
    let none = no_job c.args.number c.args.engine.now.upkeep (sym c.has_job.ensures ∙ c.if-has_job.false) in
    let went = c.in-Ok.ensures.lent.2 ∙ lent_none c.args.engine.now c.args.number (rewritten (job_of c.args.number c.args.engine.now.upkeep)) c.in-Ok.lent.meta c.store_out.new.self.upkeep (ap rewritten none) in
    subst (λ v. IsTrue v.store.whole) (sym went) c.in-Ok.ensures.whole

pub publish_lent-requires-clause-device : goal.publish_lent-requires-clause-device
publish_lent-requires-clause-device g c =
    let none = no_job c.args.number c.args.engine.now.upkeep (sym c.has_job.ensures ∙ c.if-has_job.false) in
    let went = c.in-Ok.ensures.lent.2 ∙ lent_none c.args.engine.now c.args.number (rewritten (job_of c.args.number c.args.engine.now.upkeep)) c.in-Ok.lent.meta c.store_out.new.self.upkeep (ap rewritten none) in
    c.in-Ok.ensures.lent.1 ∙ sym (ap (λ v. v.store.known) went)

pub publish_lent-requires-clause-numbers : goal.publish_lent-requires-clause-numbers
publish_lent-requires-clause-numbers g c =
    let none = no_job c.args.number c.args.engine.now.upkeep (sym c.has_job.ensures ∙ c.if-has_job.false) in
    let went = c.in-Ok.ensures.lent.2 ∙ lent_none c.args.engine.now c.args.number (rewritten (job_of c.args.number c.args.engine.now.upkeep)) c.in-Ok.lent.meta c.store_out.new.self.upkeep (ap rewritten none) in
    (c.in-Ok.ensures.numbers.0 ∙ sym (ap (λ v. v.store.next_rowset) went), c.in-Ok.ensures.numbers.1 ∙ sym (ap (λ v. v.store.next_file) went))

pub returns-in-Ok-clause-tablet : goal.returns-in-Ok-clause-tablet
returns-in-Ok-clause-tablet g c =
    let none = no_job c.args.number c.args.engine.now.upkeep (sym c.has_job.ensures ∙ c.if-has_job.false) in
    let went = c.in-Ok.ensures.lent.2 ∙ lent_none c.args.engine.now c.args.number (rewritten (job_of c.args.number c.args.engine.now.upkeep)) c.in-Ok.lent.meta c.store_out.new.self.upkeep (ap rewritten none) in
    halts_on c.args.engine.now c.store_out.new.self c.publish_lent.new.engine (inl (ap (λ v. v.tablet) went)) (ap (λ v. v.tablet.core.stopped) went ∙ c.requires.done.goes) c.publish_lent.ensures.tablet

pub returns-in-Ok-clause-root : goal.returns-in-Ok-clause-root
returns-in-Ok-clause-root g c =
    let none = no_job c.args.number c.args.engine.now.upkeep (sym c.has_job.ensures ∙ c.if-has_job.false) in
    let went = c.in-Ok.ensures.lent.2 ∙ lent_none c.args.engine.now c.args.number (rewritten (job_of c.args.number c.args.engine.now.upkeep)) c.in-Ok.lent.meta c.store_out.new.self.upkeep (ap rewritten none) in
    c.publish_lent.ensures.root ∙ ap root_of went

pub returns-in-Ok-clause-upkeep : goal.returns-in-Ok-clause-upkeep
returns-in-Ok-clause-upkeep g c =
    let none = no_job c.args.number c.args.engine.now.upkeep (sym c.has_job.ensures ∙ c.if-has_job.false) in
    c.publish_lent.ensures.upkeep ∙ c.in-Ok.ensures.upkeep (inr none)
