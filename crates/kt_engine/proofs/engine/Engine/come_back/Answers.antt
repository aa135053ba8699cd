use Rattle.std.proofs.Common.{◌≡◌, ◌∙◌, [], length, sym, ap, subst}
use Rattle.std.proofs.lemmas.Bool.{eqb-true, eqb-false}
use Rattle.std.proofs.lemmas.List.{nil_from_length}
use Rattle.kt_pick.specs.declared.rules.Want.{Want}
use Rattle.kt_engine.specs.declared.job.Returned.TheVariants as returned
use Rattle.kt_engine.specs.Jobs.{JobView}
use Rattle.kt_engine.specs.Returning.{ReturnsBy}
use Rattle.kt_engine.proofs.JobMetas.{same_job}
use Rattle.kt_engine.proofs.Leaving.{is_flush, is_compaction, same_stage}
use Rattle.kt_engine.proofs.Outsiders.{a_merge, merge_no_rewrite, on_rewrites}
use Rattle.kt_engine.proofs.engine.Engine.come_back.Goals as goal

pub delta_return-requires : goal.delta_return-requires
delta_return-requires g c =
    let old = sym c.self.view_is in
    let job = rw old at c.requires.stage in
    let on = c.rewrites.ensures.yes c.if-rewrites.true job.0 job.1.has in
    record { stage = rw old (job.0, job.1, on_rewrites on.0 job.0.want on.1) }

pub flush_return-requires-clause-stage : goal.flush_return-requires-clause-stage
flush_return-requires-clause-stage g c =
    let old = sym c.self.view_is in
    let job = rw old at c.requires.stage in
    let taken_is : c.as_slice.result.now ≡ job.0.taken = c.as_slice.ensures ∙ ap (λ (j : JobView). j.taken) (same_job c.in-Some.ensures.0 c.in-Some.job.now job.0 _ c.in-Some.ensures.1 job.1.has) in
    let none : job.0.taken ≡ [] = sym taken_is ∙ nil_from_length c.as_slice.result.now (eqb-true (length c.as_slice.result.now) 0 (sym c.is_empty.ensures ∙ c.if-is_empty.true)) in
    let merges = c.rewrites.ensures.no c.if-rewrites.false job.0 job.1.has in
    let flush = is_flush c.self.inside.tablet.value.names job.0 (a_merge _ _ _ _ _ job.0 (c.self.invariant.1.outside c.args.number job.0 job.1.has job.1.at) (merge_no_rewrite job.0.want merges)).takes none in
    rw old (job.0, job.1, flush)

pub merge_return-requires-clause-stage : goal.merge_return-requires-clause-stage
merge_return-requires-clause-stage g c =
    let old = sym c.self.view_is in
    let job = rw old at c.requires.stage in
    let taken_is : c.as_slice.result.now ≡ job.0.taken = c.as_slice.ensures ∙ ap (λ (j : JobView). j.taken) (same_job c.in-Some.ensures.0 c.in-Some.job.now job.0 _ c.in-Some.ensures.1 job.1.has) in
    let some = λ (none : job.0.taken ≡ []). eqb-false (length c.as_slice.result.now) 0 (sym c.is_empty.ensures ∙ c.if-is_empty.false) (ap length (taken_is ∙ none)) in
    let merges = c.rewrites.ensures.no c.if-rewrites.false job.0 job.1.has in
    let compacts = is_compaction c.self.inside.tablet.value.names job.0 (a_merge _ _ _ _ _ job.0 (c.self.invariant.1.outside c.args.number job.0 job.1.has job.1.at) (merge_no_rewrite job.0.want merges)).takes some in
    rw old (job.0, job.1, compacts)

pub returns-in_ok-flush_return-clause-back : goal.returns-in_ok-flush_return-clause-back
returns-in_ok-flush_return-clause-back g c = λ job had.
    let old = sym c.self.view_is in
    let known = rw old at c.requires.stage in
    let own = rw old at had in
    let taken_is : c.as_slice.result.now ≡ job.taken = c.as_slice.ensures ∙ ap (λ (j : JobView). j.taken) (same_job c.in-Some.ensures.0 c.in-Some.job.now job _ c.in-Some.ensures.1 own) in
    let none : job.taken ≡ [] = sym taken_is ∙ nil_from_length c.as_slice.result.now (eqb-true (length c.as_slice.result.now) 0 (sym c.is_empty.ensures ∙ c.if-is_empty.true)) in
    let merges = c.rewrites.ensures.no c.if-rewrites.false job own in
    let flush = is_flush c.self.inside.tablet.value.names job (a_merge _ _ _ _ _ job (c.self.invariant.1.outside c.args.number job own (same_stage c.args.number _ known job own)) (merge_no_rewrite job.want merges)).takes none in
    subst (λ (w : Want). ReturnsBy w g.D.Disk.tells g.D.Disk.seen c.args.number job (returned.Mems c.in_ok-flush_return.field-0) c.args.self.now c.flush_return.new.self) (sym flush) (c.in_ok-flush_return.ensures.back job had)

pub returns-in_ok-merge_return-clause-back : goal.returns-in_ok-merge_return-clause-back
returns-in_ok-merge_return-clause-back g c = λ job had.
    let old = sym c.self.view_is in
    let known = rw old at c.requires.stage in
    let own = rw old at had in
    let taken_is : c.as_slice.result.now ≡ job.taken = c.as_slice.ensures ∙ ap (λ (j : JobView). j.taken) (same_job c.in-Some.ensures.0 c.in-Some.job.now job _ c.in-Some.ensures.1 own) in
    let some = λ (none : job.taken ≡ []). eqb-false (length c.as_slice.result.now) 0 (sym c.is_empty.ensures ∙ c.if-is_empty.false) (ap length (taken_is ∙ none)) in
    let merges = c.rewrites.ensures.no c.if-rewrites.false job own in
    let compacts = is_compaction c.self.inside.tablet.value.names job (a_merge _ _ _ _ _ job (c.self.invariant.1.outside c.args.number job own (same_stage c.args.number _ known job own)) (merge_no_rewrite job.want merges)).takes some in
    subst (λ (w : Want). ReturnsBy w g.D.Disk.tells g.D.Disk.seen c.args.number job (returned.Rowsets c.in_ok-merge_return.field-0) c.args.self.now c.merge_return.new.self) (sym compacts) (c.in_ok-merge_return.ensures.back job had)
