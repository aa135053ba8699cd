-- The jobs of an engine that are outside, as passes have something else of maintenance and the store goes and comes.
use Rattle.std.proofs.Common.{◌≡◌, ℕ, Bool, true, false, List, [], ◌∷◌, ◌++◌, map, Option, Some, None, refl, sym, ap, ◌∙◌, subst, cond, inl, inr}
use Rattle.std.specs.Prelude.{◌==◌, ◌||◌}
use Rattle.std.specs.List.{list_any}
use Rattle.kt_history.specs.declared.target.Target.{Target}
use Rattle.kt_pick.specs.declared.rules.Want.{Want}
use Rattle.kt_pick.specs.declared.rules.Want.TheVariants as want
use Rattle.kt_records.specs.declared.entry.Entry.{Entry}
use Rattle.kt_super.specs.declared.meta.Meta.{Meta}
use Rattle.kt_storeside.specs.Sides.{published_in}
use Rattle.kt_tablet.specs.Views.{View}
use Rattle.kt_engine.specs.declared.upkeep.Stage.{Stage}
use Rattle.kt_engine.specs.declared.upkeep.Stage.TheVariants as stage
use Rattle.kt_engine.specs.Engines.{EngineView}
use Rattle.kt_engine.specs.Jobs.{JobView, UpkeepView, UpkeepsView, HasUpkeep, job_of, upkeep_at}
use Rattle.kt_engine.specs.DeltaJobs.{IsOn}
use Rattle.kt_engine.specs.JobSteps.{IsMerge}
use Rattle.kt_engine.specs.Outside.{IsOutside, MergesOutside, Rewrites, RewritesOutside, TakesStill, is_at_outside, is_outside, any_outside}
use Rattle.kt_engine.specs.Stored.{AreOutside}
use Rattle.kt_engine.specs.declared.upkeep.Upkeep.{Upkeep}
use Rattle.kt_engine.specs.Upkeeps.{upkeep_of}
use Rattle.kt_engine.proofs.Lists.{some_one}
use Rattle.kt_engine.proofs.Outside.{outside_upkeep}
use Rattle.kt_engine.proofs.Upkeeps.{each_kept}

-- no job is outside
abbrev pub NoneOutside : UpkeepsView → Type 0
NoneOutside upkeep = (n : ℕ) (job : JobView) → job_of n upkeep ≡ Some job → job.stage ≡ stage.Outside → ⊥

-- a stage that is not Outside
pub not_outside : (s : Stage) → is_at_outside s ≡ false → s ≡ stage.Outside → ⊥
not_outside s other at = let no : true ≡ false = sym (ap is_at_outside at) ∙ other in cc

-- the test finds each of them
outside_found : (passes : List (ℕ × UpkeepView)) (n : ℕ) (job : JobView) → (upkeep_at n passes).job ≡ Some job → job.stage ≡ stage.Outside → any_outside passes ≡ true
outside_found [] n job has at = absurd (let no : None ≡ Some job = has in cc)
outside_found (p ∷ passes) n job has at = by (p.0 == n) has (λ there. outside_found passes n job there at)
  where
    by : (b : Bool) → (cond b p.1 (upkeep_at n passes)).job ≡ Some job → ((upkeep_at n passes).job ≡ Some job → any_outside passes ≡ true) → any_outside (p ∷ passes) ≡ true
    by true here rest =
        let its : is_outside p.1.job ≡ true = ap is_outside here ∙ ap is_at_outside at in
        ap (λ (b : Bool). b || any_outside passes) its
    by false there rest = elim (is_outside p.1.job) as (λ (b : Bool). (b || any_outside passes) ≡ true) [ true ↦ refl | false ↦ rest there ]

-- of passes as the engine has them
pub outside_named : (us : List Upkeep) → list_any (λ (u : Upkeep). is_outside (upkeep_of u).1.job) us ≡ any_outside (map upkeep_of us)
outside_named [] = refl
outside_named (u ∷ us) = ap (λ (b : Bool). is_outside (upkeep_of u).1.job || b) (outside_named us)

pub none_is_outside : (upkeep : UpkeepsView) → any_outside upkeep.passes ≡ false → NoneOutside upkeep
none_is_outside upkeep none n job has at = let no : true ≡ false = sym (outside_found upkeep.passes n job has at) ∙ none in cc

-- nor is one once a pass has another job, which is at another stage
pub none_kept : (n : ℕ) (u : UpkeepView) (old new : UpkeepsView) → HasUpkeep n u old new → ((job : JobView) → u.job ≡ Some job → is_at_outside job.stage ≡ false) → NoneOutside old → NoneOutside new
none_kept n u old new has own none = each_kept (λ (job : JobView). job.stage ≡ stage.Outside → ⊥) n u old new has (λ job e. not_outside job.stage (own job e)) none

-- ---- what it does

-- one that merges writes no files of a rowset again
none_both : (names : List Target) (job : JobView) (w : Want) → TakesStill names job w → Rewrites w → ⊥
none_both names job want.Flush takes on = on
none_both names job (want.Compact taken) takes on = on
none_both names job (want.FlushDeltas r) takes on = takes
none_both names job (want.Minor r) takes on = takes
none_both names job (want.Major r) takes on = takes

pub merge_no_rewrite : (w : Want) → IsMerge w → Rewrites w → ⊥
merge_no_rewrite want.Flush merges on = on
merge_no_rewrite (want.Compact taken) merges on = on
merge_no_rewrite (want.FlushDeltas r) merges on = merges
merge_no_rewrite (want.Minor r) merges on = merges
merge_no_rewrite (want.Major r) merges on = merges

pub on_rewrites : (r : ℕ) (w : Want) → IsOn r w → Rewrites w
on_rewrites r want.Flush on = absurd on
on_rewrites r (want.Compact taken) on = absurd on
on_rewrites r (want.FlushDeltas s) on = tt
on_rewrites r (want.Minor s) on = tt
on_rewrites r (want.Major s) on = tt

-- the job of a pass does, by another name
pub same_rewrites : (n : ℕ) (v : UpkeepsView) (known job : JobView) → job_of n v ≡ Some known → job_of n v ≡ Some job → Rewrites known.want → Rewrites job.want
same_rewrites n v known job was had on = subst (λ (j : JobView). Rewrites j.want) (some_one known job (sym was ∙ had)) on

module _ {C : Type 0} (v : View C) (meta : Meta) (lent : Option Meta) (upkeep : UpkeepsView) (records : List Entry) (job : JobView) (is : IsOutside v meta lent upkeep records job) where
  pub a_merge : (Rewrites job.want → ⊥) → MergesOutside v meta lent upkeep records job
  a_merge other = elim is [ inl m ↦ m | inr r ↦ absurd (other r.on) ]

  pub a_rewrite : Rewrites job.want → RewritesOutside v lent upkeep job
  a_rewrite on = elim is [ inl m ↦ absurd (none_both v.names job job.want m.takes on) | inr r ↦ r ]

  pub out_free : (upkeep.publishing ≡ None) × (lent ≡ None)
  out_free = elim is [ inl m ↦ m.free | inr r ↦ r.free ]

-- ---- the store

module _ {C : Type 0} (v : View C) (meta : Meta) (lent : Option Meta) (upkeep : UpkeepsView) (records : List Entry) (job : JobView) (is : IsOutside v meta lent upkeep records job) where
  -- it is lent without a superblock, or has come home
  pub outside_lent : (now : Option Meta) → now ≡ None → IsOutside v meta now upkeep records job
  outside_lent now none = subst (λ (m : Option Meta). IsOutside v meta m upkeep records job) ((out_free v meta lent upkeep records job is).1 ∙ sym none) is

  pub outside_home : (now : Meta) (later : Option Meta) (published : Bool) → now ≡ published_in published lent meta → later ≡ None → IsOutside v now later upkeep records job
  outside_home now later published came none = subst (λ (m : Meta). IsOutside v m later upkeep records job) (sym (came ∙ ap (λ (o : Option Meta). published_in published o meta) (out_free v meta lent upkeep records job is).1 ∙ same published)) (outside_lent later none)
    where
      same : (b : Bool) → published_in b None meta ≡ meta
      same true = refl
      same false = refl

-- ---- the engine

module _ {L D C : Type 0} (view : EngineView L D C) (run : List Entry) (are : AreOutside view (view.records ++ run)) where
  -- where a job publishes none is
  pub none_beside : (n : ℕ) → view.upkeep.publishing ≡ Some n → NoneOutside view.upkeep
  none_beside n mine k job has at = let no : None ≡ Some n = sym (out_free view.tablet view.store.meta view.store.lent view.upkeep (view.records ++ run) job (are k job has at)).0 ∙ mine in cc

  -- a pass has something else, and no job publishes
  pub outside_kept : (upkeep : UpkeepsView) (n : ℕ) (u : UpkeepView) → HasUpkeep n u view.upkeep upkeep → upkeep.publishing ≡ None → (upkeep.begun ≡ 0 → view.upkeep.begun ≡ 0)
      → ((job : JobView) → u.job ≡ Some job → job.stage ≡ stage.Outside → IsOutside view.tablet view.store.meta view.store.lent view.upkeep (view.records ++ run) job) → AreOutside (record view { upkeep = upkeep }) (view.records ++ run)
  outside_kept upkeep n u has free counted own k job at out =
      outside_upkeep view.tablet view.store.meta view.store.lent view.upkeep view.records run job
      (each_kept (λ (j : JobView). j.stage ≡ stage.Outside → IsOutside view.tablet view.store.meta view.store.lent view.upkeep (view.records ++ run) j) n u view.upkeep upkeep has own are k job at out) upkeep free counted

  -- so where its job is at another stage
  pub outside_beside : (upkeep : UpkeepsView) (n : ℕ) (u : UpkeepView) → HasUpkeep n u view.upkeep upkeep → upkeep.publishing ≡ None → (upkeep.begun ≡ 0 → view.upkeep.begun ≡ 0) → ((job : JobView) → u.job ≡ Some job → is_at_outside job.stage ≡ false)
      → AreOutside (record view { upkeep = upkeep }) (view.records ++ run)
  outside_beside upkeep n u has free counted other = outside_kept upkeep n u has free counted (λ job e at. absurd (not_outside job.stage (other job e) at))
