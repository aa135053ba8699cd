-- The cases of a want, and of what a job has written again.
use Rattle.std.proofs.Common.{◌≡◌, ℕ, true, false, Option, Some, None, refl, sym, ap, ◌∙◌, subst}
use Rattle.std.specs.Prelude.{is_some}
use Rattle.std.specs.Option.{option_map}
use Rattle.kt_super.specs.declared.meta.Meta.{Meta}
use Rattle.kt_pick.specs.declared.rules.Want.{Want}
use Rattle.kt_pick.specs.declared.rules.Want.TheVariants as want
use Rattle.kt_diskrowset.specs.declared.data.RowSetData.{RowSetData}
use Rattle.kt_diskrowset.specs.declared.inputs.Inputs.{Inputs}
use Rattle.kt_engine.specs.declared.store.Purpose.{Purpose}
use Rattle.kt_engine.specs.declared.store.Purpose.TheVariants as purpose
use Rattle.kt_engine.specs.declared.upkeep.Stage.TheVariants as stage
use Rattle.kt_engine.specs.Engines.{EngineView}
use Rattle.kt_engine.specs.Jobs.{JobView, UpkeepView, UpkeepsView, HasUpkeep, upkeep_at, job_of, rewritten}
use Rattle.kt_engine.specs.JobSteps.{IsMerge}
use Rattle.kt_engine.specs.Stored.{meta_for}
use Rattle.kt_engine.specs.DeltaJobs.{IsOn, delta_meta, lent_deltas}
use Rattle.kt_engine.specs.JobCalls.{ByWant, goes_out, lent_with, meta_with}
use Rattle.kt_engine.proofs.Passes.{then_job}

-- ---- by its want

-- of one that merges
pub by_merge : (A : Type 0) (B : ℕ → Type 0) (w : Want) → IsMerge w → ByWant w A B → A
by_merge A B want.Flush merges is = is
by_merge A B (want.Compact taken) merges is = is
by_merge A B (want.FlushDeltas r) merges is = absurd merges
by_merge A B (want.Minor r) merges is = absurd merges
by_merge A B (want.Major r) merges is = absurd merges

pub as_merge : (A : Type 0) (B : ℕ → Type 0) (w : Want) → IsMerge w → A → ByWant w A B
as_merge A B want.Flush merges is = is
as_merge A B (want.Compact taken) merges is = is
as_merge A B (want.FlushDeltas r) merges is = absurd merges
as_merge A B (want.Minor r) merges is = absurd merges
as_merge A B (want.Major r) merges is = absurd merges

-- and of one on the files of a disk rowset
pub by_rowset : (A : Type 0) (B : ℕ → Type 0) (w : Want) (r : ℕ) → IsOn r w → ByWant w A B → B r
by_rowset A B want.Flush r on is = absurd on
by_rowset A B (want.Compact taken) r on is = absurd on
by_rowset A B (want.FlushDeltas s) r on is = subst B on is
by_rowset A B (want.Minor s) r on is = subst B on is
by_rowset A B (want.Major s) r on is = subst B on is

pub as_rowset : (A : Type 0) (B : ℕ → Type 0) (w : Want) (r : ℕ) → IsOn r w → B r → ByWant w A B
as_rowset A B want.Flush r on is = absurd on
as_rowset A B (want.Compact taken) r on is = absurd on
as_rowset A B (want.FlushDeltas s) r on is = subst B (sym on) is
as_rowset A B (want.Minor s) r on is = subst B (sym on) is
as_rowset A B (want.Major s) r on is = subst B (sym on) is

-- a job on the files of a disk rowset is read in two steps
pub read_then : (n bound mark dms : ℕ) (job : JobView) (inputs kept : Inputs) (d rowset : RowSetData) (old mid new : UpkeepsView) → HasUpkeep n (record (upkeep_at n old.passes) { job = Some (record job { stage = stage.Read; bound = bound; mark = mark; inputs = Some kept }) }) old mid
    → ((j : JobView) → job_of n mid ≡ Some j → HasUpkeep n (record (upkeep_at n mid.passes) { job = Some (record j { stage = stage.Read; dms = dms; read = Some rowset }) }) mid new) → kept ≡ inputs → rowset ≡ d
    → HasUpkeep n (record (upkeep_at n old.passes) { job = Some (record job { stage = stage.Read; bound = bound; mark = mark; inputs = Some inputs; dms = dms; read = Some d }) }) old new
read_then n bound mark dms job inputs kept d rowset old mid new first then same own =
    let half : JobView = record job { stage = stage.Read; bound = bound; mark = mark; inputs = Some kept } in
    let whole : JobView = record job { stage = stage.Read; bound = bound; mark = mark; inputs = Some kept; dms = dms; read = Some rowset } in
    subst (λ (x : RowSetData). HasUpkeep n (record (upkeep_at n old.passes) { job = Some (record job { stage = stage.Read; bound = bound; mark = mark; inputs = Some inputs; dms = dms; read = Some x }) }) old new) own
    (subst (λ (i : Inputs). HasUpkeep n (record (upkeep_at n old.passes) { job = Some (record job { stage = stage.Read; bound = bound; mark = mark; inputs = Some i; dms = dms; read = Some rowset }) }) old new) same
    (then_job n half whole old mid new first (then half (ap (λ (u : UpkeepView). u.job) first.own))))

-- ---- by what it has written again

-- what goes out is of a job with an output
pub record GoesOut (p : Purpose) (o : Option JobView) : Type 0 where
  pub publishes : p ≡ purpose.Publish
  pub job : JobView
  pub has : o ≡ Some job
  pub d : RowSetData
  pub gave : job.output ≡ Some d

pub goes_some : (p : Purpose) (o : Option JobView) → is_some (goes_out p o) ≡ true → GoesOut p o
goes_some purpose.Write o some = absurd (let no : false ≡ true = some in cc)
goes_some purpose.Publish None some = absurd (let no : false ≡ true = some in cc)
goes_some purpose.Publish (Some job) some = by job.output refl
  where
    by : (w : Option RowSetData) → job.output ≡ w → GoesOut purpose.Publish (Some job)
    by None e = absurd (let no : false ≡ true = sym (ap is_some e) ∙ some in cc)
    by (Some d) e = record { publishes = refl; job = job; has = refl; d = d; gave = e }

pub goes_with : (p : Purpose) (o : Option JobView) (job : JobView) (d : RowSetData) → p ≡ purpose.Publish → o ≡ Some job → job.output ≡ Some d → goes_out p o ≡ Some d
goes_with p o job d publishes has gave = ap (λ (x : Purpose). goes_out x o) publishes ∙ ap rewritten has ∙ gave

-- the store as it goes out, and with which superblock: as before for a job that merges or none, and with the next DeltaMemStore for one that has an output
module _ {L D C : Type 0} (v : EngineView L D C) (n : ℕ) where
  pub lent_none : (o : Option RowSetData) (meta : Option Meta) (upkeep : UpkeepsView) → o ≡ None → lent_with o v n meta upkeep ≡ record v { store = record v.store { home = None; holder = Some n; lent = meta }; upkeep = upkeep }
  lent_none o meta upkeep none = ap (λ (x : Option RowSetData). lent_with x v n meta upkeep) none

  pub lent_some : (o : Option RowSetData) (d : RowSetData) (meta : Option Meta) (m : Meta) (upkeep : UpkeepsView) → o ≡ Some d → meta ≡ Some m → lent_with o v n meta upkeep ≡ lent_deltas v n d.number m upkeep
  lent_some o d meta m upkeep some is = ap (λ (x : Option RowSetData). lent_with x v n meta upkeep) some ∙ ap (λ (x : Option Meta). lent_with (Some d) v n x upkeep) is

  pub meta_none : (o : Option RowSetData) (p : Purpose) → o ≡ None → meta_with o n p v ≡ meta_for n p v
  meta_none o p none = ap (λ (x : Option RowSetData). meta_with x n p v) none

  pub meta_some : (o : Option RowSetData) (d : RowSetData) (p : Purpose) (job : JobView) → o ≡ Some d → job_of n v.upkeep ≡ Some job → meta_with o n p v ≡ Some (delta_meta v job.dms d)
  meta_some o d p job some has = ap (λ (x : Option RowSetData). meta_with x n p v) some ∙ ap (option_map (λ (j : JobView). delta_meta v j.dms d)) has
