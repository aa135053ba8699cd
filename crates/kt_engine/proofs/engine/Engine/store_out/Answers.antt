use Rattle.std.proofs.Common.{◌≡◌, Some, None, sym, ◌∙◌, inl, inr}
use Rattle.kt_engine.specs.Jobs.{job_of}
use Rattle.kt_engine.specs.DeltaJobs.{delta_meta}
use Rattle.kt_engine.specs.JobCalls.{goes_out}
use Rattle.kt_engine.proofs.JobCalls.{goes_some, goes_with, lent_some, meta_some}
use Rattle.kt_engine.proofs.engine.Engine.store_out.Goals as goal

-- of a job that has written a disk rowset again
pub returns-then-is_rewritten-clause-lent : goal.returns-then-is_rewritten-clause-lent
returns-then-is_rewritten-clause-lent g c =
    let out = goes_some c.args.purpose (job_of c.args.number c.args.self.now.upkeep) (sym c.is_rewritten.ensures ∙ c.if-is_rewritten.true) in
    let told = c.in_ok-delta_out.ensures.out out.job out.d out.has out.gave in
    let with = goes_with c.args.purpose (job_of c.args.number c.args.self.now.upkeep) out.job out.d out.publishes out.has out.gave in
    (c.in_ok-delta_out.ensures.lent.0, c.in_ok-delta_out.ensures.lent.1, told.1 ∙ sym (lent_some c.args.self.now c.args.number (goes_out c.args.purpose (job_of c.args.number c.args.self.now.upkeep)) out.d c.in_ok-delta_out.field-0.meta (delta_meta c.args.self.now out.job.dms out.d) c.delta_out.new.self.upkeep with told.0))

pub returns-then-is_rewritten-clause-upkeep : goal.returns-then-is_rewritten-clause-upkeep
returns-then-is_rewritten-clause-upkeep g c = λ none.
    let out = goes_some c.args.purpose (job_of c.args.number c.args.self.now.upkeep) (sym c.is_rewritten.ensures ∙ c.if-is_rewritten.true) in
    let told = c.in_ok-delta_out.ensures.out out.job out.d out.has out.gave in
    elim none [
      | inl lacks ↦ absurd (let no : None ≡ Some (delta_meta c.args.self.now out.job.dms out.d) = sym lacks ∙ told.0 in cc)
      | inr lacks ↦ absurd (let no : None ≡ Some out.job = sym lacks ∙ out.has in cc)
    ]

pub returns-then-is_rewritten-clause-meta : goal.returns-then-is_rewritten-clause-meta
returns-then-is_rewritten-clause-meta g c =
    let out = goes_some c.args.purpose (job_of c.args.number c.args.self.now.upkeep) (sym c.is_rewritten.ensures ∙ c.if-is_rewritten.true) in
    let told = c.in_ok-delta_out.ensures.out out.job out.d out.has out.gave in
    let with = goes_with c.args.purpose (job_of c.args.number c.args.self.now.upkeep) out.job out.d out.publishes out.has out.gave in
    told.0 ∙ sym (meta_some c.args.self.now c.args.number (goes_out c.args.purpose (job_of c.args.number c.args.self.now.upkeep)) out.d c.args.purpose out.job with out.has)
