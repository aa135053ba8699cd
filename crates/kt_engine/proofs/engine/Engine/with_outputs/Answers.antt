use Rattle.std.proofs.Common.{◌++◌, ℕ, List, [], refl, sym, ap, ◌∙◌}
use Rattle.kt_super.specs.declared.meta.MetaRowset.{MetaRowset}
use Rattle.kt_engine.specs.Jobs.{takes_by}
use Rattle.kt_engine.specs.JobMeta.{last_by, left_metas, with_outputs}
use Rattle.kt_engine.proofs.JobMetas.{made_with}
use Rattle.kt_engine.proofs.engine.Engine.with_outputs.Goals as goal

-- of the job that was found
pub returns-clause-meta : goal.returns-clause-meta
returns-clause-meta g c =
    let old = sym c.self.view_is in
    let next = c.args.next in
    let job = c.in-Some.job.now in
    let first = c.push_copies.new.out.items in
    let front = c.in_ok-push_copies.ensures ∙ ap (λ (l : List MetaRowset). l ++ left_metas c.as_slice-taken.result.now c.as_slice.result.now) c.new-rowsets.ensures.items ∙ ap (λ (t : List ℕ). left_metas t c.as_slice.result.now) c.as_slice-taken.ensures ∙ ap (left_metas job.taken) c.as_slice.ensures in
    rw old
    (made_with next _ job.taken job.last_mem c.last_with-last_mem.result job.outputs.metas first c.of.result (c.last_with-last_mem.ensures ∙ ap (λ (t : List ℕ). last_by (takes_by t job.last_mem) next.last_mem) c.as_slice-taken.ensures) front
    (c.of.ensures ∙ c.in_ok-push_copies-2.ensures ∙ ap (λ (ms : List MetaRowset). first ++ left_metas [] ms) c.metas.ensures) refl
    ∙ sym (ap (λ o. with_outputs o next) c.in-Some.ensures.1))
