-- What passes have of maintenance changes, and the engine and its store stand.
use Rattle.std.specs.Prelude.{◌⊎◌, is_some, nat_le}
use Rattle.std.proofs.Common.{◌≡◌, ◌≢◌, ◌<◌, ◌+◌, ◌-◌, ◌^◌, ℕ, suc, Bool, true, false, List, [], ◌++◌, length, Option, Some, None, refl, sym, ap, ◌∙◌, subst, cond, inl, inr}
use Rattle.std.proofs.lemmas.Bool.{cases_eq}
use Rattle.kt_disk.specs.Disk.{Files}
use Rattle.kt_records.specs.declared.entry.Entry.{Entry}
use Rattle.kt_base.specs.declared.chore.Chore.{Chore}
use Rattle.kt_pick.specs.declared.rules.Want.{Want}
use Rattle.kt_engine.specs.Engines.{EngineView, IsEngine}
use Rattle.kt_super.specs.declared.meta.Meta.{Meta}
use Rattle.kt_storeside.specs.Sides.{StoreView, published_in}
use Rattle.kt_diskrowset.specs.declared.data.RowSetData.{RowSetData}
use Rattle.kt_diskrowset.specs.Rowset.{HeldFiles}
use Rattle.kt_files.specs.Content.{rowsets_in}
use Rattle.kt_engine.specs.declared.upkeep.Stage.{Stage}
use Rattle.kt_engine.specs.declared.upkeep.Stage.TheVariants as stage
use Rattle.kt_engine.specs.Outside.{IsOutside, is_at_outside}
use Rattle.kt_engine.specs.Over.{over_at}
use Rattle.kt_engine.specs.Files.{publisher, publisher_by, job_at, files_over}
use Rattle.kt_engine.specs.Jobs.{JobView, UpkeepView, UpkeepsView, HasUpkeep, JobOn, job_of, upkeep_at, asked, asked_for_nothing, job_abandoned, over_for, over_of, over_by, over_in, takes_of}
use Rattle.kt_engine.specs.Stored.{IsOneOf, IsStored}
use Rattle.kt_engine.specs.Rounds.{round_of}
use Rattle.kt_engine.specs.JobSteps.{stage_home, publishing_home}
use Rattle.kt_tablet.specs.Views.{View}
use Rattle.kt_tablet.specs.Jobs.{HasFrozen}
use Rattle.kt_engine.proofs.Filed.{none_at, before_job}
use Rattle.kt_engine.proofs.Jobs.{before_over, frozen_keeps, frozen_stored, job_begins}
use Rattle.kt_engine.proofs.Outside.{outside_upkeep}
use Rattle.kt_engine.proofs.Outsiders.{not_outside, none_kept, none_beside, outside_kept, outside_beside, out_free}
use Rattle.kt_engine.proofs.Stored.{upkeep_stored}
use Rattle.kt_engine.proofs.Upkeeps.{jobs_kept, upkeep_keeps}

-- a pass that has the job it had
jobs_same : (n : ℕ) (u : UpkeepView) (old new : UpkeepsView) → HasUpkeep n u old new → u.job ≡ job_of n old → (k : ℕ) → job_of k new ≡ job_of k old
jobs_same n u old new has same k = elim (cases_eq k n) [
  | inl is ↦ ap (λ (i : ℕ). job_of i new) is ∙ ap (λ (x : UpkeepView). x.job) has.own ∙ same ∙ sym (ap (λ (i : ℕ). job_of i old) is)
  | inr ne ↦ ap (λ (x : UpkeepView). x.job) (has.others k ne)
]

over_same : (old new : UpkeepsView) → ((k : ℕ) → job_of k new ≡ job_of k old) → new.publishing ≡ old.publishing → over_in new ≡ over_in old
over_same old new same publishing = ap (λ (p : Option ℕ). over_by p new) publishing ∙ by old.publishing
  where
    by : (p : Option ℕ) → over_by p new ≡ over_by p old
    by None = refl
    by (Some k) = ap over_of (same k)

publisher_same : (old new : UpkeepsView) → ((k : ℕ) → job_of k new ≡ job_of k old) → new.publishing ≡ old.publishing → publisher new ≡ publisher old
publisher_same old new same publishing = ap (λ (p : Option ℕ). publisher_by p new) publishing ∙ by old.publishing
  where
    by : (p : Option ℕ) → publisher_by p new ≡ publisher_by p old
    by None = refl
    by (Some k) = same k

-- the job that publishes has come further, and gives the same
over_further : (job : JobView) (s : Stage) (o : Option RowSetData) → over_for o (record job { stage = s }) ≡ over_for o job
over_further job s None = refl
over_further job s (Some d) = refl

files_further : (job : JobView) (s : Stage) (number : ℕ) (files : List HeldFiles) → files_over (job_at number (Some (record job { stage = s }))) files ≡ files_over (job_at number (Some job)) files
files_further job s number files = by (nat_le job.super number)
  where
    by : (b : Bool) → files_over (cond b (Some (record job { stage = s })) None) files ≡ files_over (cond b (Some job) None) files
    by true = refl
    by false = refl

-- a superblock before its own
over_before : (job : JobView) (number : ℕ) (o : Option RowSetData) → number < job.super → over_at number (over_for o job) ≡ None
over_before job number None low = before_over number (record { number = job.super; takes = takes_of job; outputs = rowsets_in job.metas job.held }) low
over_before job number (Some d) low = refl

-- ---- a superblock comes home

-- where one was lent and a job publishes, what is asked of the job that publishes holds
pub its_job : {P : Type 0} (lent : Option Meta) (publishing : Option ℕ) → is_some lent ≡ true → is_some publishing ≡ true → ((m : Meta) → lent ≡ Some m → (publishing ≡ None) ⊎ P) → P
its_job None publishing some goes h = absurd (let no : false ≡ true = some in cc)
its_job (Some m) publishing some goes h = elim (h m refl) [ inl none ↦ absurd (let no : false ≡ true = sym (ap is_some none) ∙ goes in cc) | inr its ↦ its ]

-- unpublished, the one that is published is older than the job's
pub older_than : {D : Type 0} (store : StoreView D) (was : Meta) (lent : Option Meta) (published : Bool) (super : ℕ) → store.meta ≡ published_in published lent was → store.lent ≡ None → was.number < super → (m : Meta) → IsOneOf store m → published ≡ false → m.number < super
older_than store was lent published super meta none low m (inl is) not =
    let same : m ≡ was = is ∙ meta ∙ ap (λ (b : Bool). published_in b lent was) not in
    subst (λ (x : Meta). x.number < super) (sym same) low
older_than store was lent published super meta none low m (inr sent) not = absurd (let no : None ≡ Some m = sym none ∙ sent in cc)

module _ {L D C : Type 0} (log_tells : Bool) (log_seen : L → Files) (log_now : L → ℕ) (log_leaves : L → ℕ → Files → Type 0) (log_faults : L → ℕ) (tells : Bool) (seen : D → Files) (faults : D → ℕ) (view : EngineView L D C) (upkeep : UpkeepsView) where
  abbrev pub BothOn : EngineView L D C → Type 0
  BothOn v = IsEngine log_tells log_seen log_now log_leaves log_faults v × IsStored log_tells log_seen tells seen faults v

  -- jobs are those that were
  kept_both : (n : ℕ) (u : UpkeepView) → HasUpkeep n u view.upkeep upkeep → u.job ≡ job_of n view.upkeep → (upkeep.begun ≡ view.upkeep.begun) × (upkeep.publishing ≡ view.upkeep.publishing) → BothOn view → BothOn (record view { upkeep = upkeep })
  kept_both n u has own same is =
      let jobs = jobs_same n u view.upkeep upkeep has own in (
        upkeep_keeps log_tells log_seen log_now log_leaves log_faults view upkeep (λ none. sym same.0 ∙ none) is.0,
        upkeep_stored log_tells log_seen tells seen faults view is.1 upkeep same.0 (λ m one. ap (over_at m.number) (over_same view.upkeep upkeep jobs same.1))
            (λ m one. ap (λ (o : Option JobView). files_over (job_at m.number o) view.tablet.files) (publisher_same view.upkeep upkeep jobs same.1))
            (elim is.1.rests [ inl none ↦ inl (same.1 ∙ none) | inr calm ↦ inr calm ])
            (λ k job at. is.1.jobs k job (sym (jobs k) ∙ at))
            (λ k job at out.
            let was = is.1.outside k job (sym (jobs k) ∙ at) out in
            outside_upkeep view.tablet view.store.meta view.store.lent view.upkeep view.records is.1.run job was upkeep (same.1 ∙ (out_free view.tablet view.store.meta view.store.lent view.upkeep (view.records ++ is.1.run) job was).0) (λ zero_. sym same.0 ∙ zero_)),
      )

  -- a place is made, or nothing has changed
  pub untouched_both : (n : ℕ) → HasUpkeep n (upkeep_at n view.upkeep.passes) view.upkeep upkeep → (upkeep.begun ≡ view.upkeep.begun) × (upkeep.publishing ≡ view.upkeep.publishing) → BothOn view → BothOn (record view { upkeep = upkeep })
  untouched_both n has same is = kept_both n (upkeep_at n view.upkeep.passes) has refl same is

  -- there was nothing to do
  pub nothing_both : (n : ℕ) (w : Want) → HasUpkeep n (asked_for_nothing w (upkeep_at n view.upkeep.passes)) view.upkeep upkeep → (upkeep.begun ≡ view.upkeep.begun) × (upkeep.publishing ≡ view.upkeep.publishing) → BothOn view → BothOn (record view { upkeep = upkeep })
  nothing_both n w has same is = kept_both n (asked_for_nothing w (upkeep_at n view.upkeep.passes)) has refl same is

  -- a round has begun
  pub round_both : (n : ℕ) (c : Chore) (wants : List Want) → HasUpkeep n (round_of c wants (upkeep_at n view.upkeep.passes)) view.upkeep upkeep → (upkeep.begun ≡ view.upkeep.begun) × (upkeep.publishing ≡ view.upkeep.publishing) → BothOn view → BothOn (record view { upkeep = upkeep })
  round_both n c wants has same is = kept_both n (round_of c wants (upkeep_at n view.upkeep.passes)) has refl same is

  -- a pass has something else, while no job publishes
  pub free_both : (n : ℕ) (u : UpkeepView) → HasUpkeep n u view.upkeep upkeep → view.upkeep.publishing ≡ None → (upkeep.begun ≡ view.upkeep.begun) × (upkeep.publishing ≡ view.upkeep.publishing) → (is : BothOn view)
      → ((job : JobView) → u.job ≡ Some job → JobOn (view.records ++ is.1.run) job) → ((job : JobView) → u.job ≡ Some job → job.stage ≡ stage.Outside → IsOutside view.tablet view.store.meta view.store.lent view.upkeep (view.records ++ is.1.run) job) → BothOn (record view { upkeep = upkeep })
  free_both n u has none same is own out = (
    upkeep_keeps log_tells log_seen log_now log_leaves log_faults view upkeep (λ zero_. sym same.0 ∙ zero_) is.0,
    upkeep_stored log_tells log_seen tells seen faults view is.1 upkeep same.0
        (λ m one. ap (λ (p : Option ℕ). over_at m.number (over_by p upkeep)) (same.1 ∙ none) ∙ sym (ap (λ (p : Option ℕ). over_at m.number (over_by p view.upkeep)) none))
        (λ m one. none_at m.number upkeep view.tablet.files (same.1 ∙ none) ∙ sym (none_at m.number view.upkeep view.tablet.files none))
        (inl (same.1 ∙ none)) (jobs_kept (view.records ++ is.1.run) n u view.upkeep upkeep has own is.1.jobs) (outside_kept view is.1.run is.1.outside upkeep n u has (same.1 ∙ none) (λ zero_. sym same.0 ∙ zero_) out),
  )

  -- its job has come further
  pub further_both : (n : ℕ) (job later : JobView) → job_of n view.upkeep ≡ Some job → ((records : List Entry) → JobOn records job → JobOn records later) → HasUpkeep n (record (upkeep_at n view.upkeep.passes) { job = Some later }) view.upkeep upkeep
      → view.upkeep.publishing ≡ None → (upkeep.begun ≡ view.upkeep.begun) × (upkeep.publishing ≡ view.upkeep.publishing) → is_at_outside later.stage ≡ false → BothOn view → BothOn (record view { upkeep = upkeep })
  further_both n job later has on changed none same other is =
      free_both n (record (upkeep_at n view.upkeep.passes) { job = Some later }) changed none same is
      (λ j e. subst (JobOn (view.records ++ is.1.run)) (let one : later ≡ j = cc in one) (on (view.records ++ is.1.run) (is.1.jobs n job has)))
      (λ j e at. absurd (not_outside later.stage other (let one : later ≡ j = cc in ap (λ (x : JobView). x.stage) one ∙ at)))

  -- its superblock has come home, published or not
  pub came_both : (n : ℕ) (job : JobView) (published : Bool) → job_of n view.upkeep ≡ Some job → view.upkeep.publishing ≡ Some n → HasUpkeep n (record (upkeep_at n view.upkeep.passes) { job = Some (record job { stage = stage_home published }) }) view.upkeep upkeep
      → (upkeep.begun ≡ view.upkeep.begun) × (upkeep.publishing ≡ publishing_home published view.upkeep.publishing) → ((m : Meta) → IsOneOf view.store m → published ≡ false → m.number < job.super) → BothOn view → BothOn (record view { upkeep = upkeep })
  came_both n job published had mine changed same older is = (
    upkeep_keeps log_tells log_seen log_now log_leaves log_faults view upkeep (λ none. sym same.0 ∙ none) is.0,
    upkeep_stored log_tells log_seen tells seen faults view is.1 upkeep same.0 (λ m one. over_is m one published refl) (λ m one. files_are m one published refl) rests
        (jobs_kept (view.records ++ is.1.run) n (record (upkeep_at n view.upkeep.passes) { job = Some (record job { stage = stage_home published }) }) view.upkeep upkeep changed own is.1.jobs)
        (λ k j at out. absurd (none_kept n (record (upkeep_at n view.upkeep.passes) { job = Some (record job { stage = stage_home published }) }) view.upkeep upkeep changed home_stage (none_beside view is.1.run is.1.outside n mine) k j at out)),
  )
    where
      home_is : (b : Bool) → is_at_outside (stage_home b) ≡ false
      home_is true = refl
      home_is false = refl

      home_stage : (j : JobView) → Some (record job { stage = stage_home published }) ≡ Some j → is_at_outside j.stage ≡ false
      home_stage j e = let one : record job { stage = stage_home published } ≡ j = cc in sym (ap (λ (x : JobView). is_at_outside x.stage) one) ∙ home_is published

      was : over_in view.upkeep ≡ over_of (Some job)
      was = ap (λ (p : Option ℕ). over_by p view.upkeep) mine ∙ ap over_of had

      published_by : publisher view.upkeep ≡ Some job
      published_by = ap (λ (p : Option ℕ). publisher_by p view.upkeep) mine ∙ had

      over_is : (m : Meta) → IsOneOf view.store m → (b : Bool) → published ≡ b → over_at m.number (over_in upkeep) ≡ over_at m.number (over_in view.upkeep)
      over_is m one true e =
          let goes : upkeep.publishing ≡ Some n = same.1 ∙ ap (λ (b : Bool). publishing_home b view.upkeep.publishing) e ∙ mine in
          let now : over_in upkeep ≡ over_of (Some (record job { stage = stage_home published })) = ap (λ (p : Option ℕ). over_by p upkeep) goes ∙ ap over_of (ap (λ (u : UpkeepView). u.job) changed.own) in
          ap (over_at m.number) (now ∙ over_further job (stage_home published) job.output ∙ sym was)
      over_is m one false e =
          let free : upkeep.publishing ≡ None = same.1 ∙ ap (λ (b : Bool). publishing_home b view.upkeep.publishing) e in
          ap (over_at m.number) (ap (λ (p : Option ℕ). over_by p upkeep) free) ∙ sym (ap (over_at m.number) was ∙ over_before job m.number job.output (older m one e))

      files_are : (m : Meta) → IsOneOf view.store m → (b : Bool) → published ≡ b → files_over (job_at m.number (publisher upkeep)) view.tablet.files ≡ files_over (job_at m.number (publisher view.upkeep)) view.tablet.files
      files_are m one true e =
          let goes : upkeep.publishing ≡ Some n = same.1 ∙ ap (λ (b : Bool). publishing_home b view.upkeep.publishing) e ∙ mine in
          let now : publisher upkeep ≡ Some (record job { stage = stage_home published }) = ap (λ (p : Option ℕ). publisher_by p upkeep) goes ∙ ap (λ (u : UpkeepView). u.job) changed.own in
          ap (λ (o : Option JobView). files_over (job_at m.number o) view.tablet.files) now ∙ files_further job (stage_home published) m.number view.tablet.files ∙ sym (ap (λ (o : Option JobView). files_over (job_at m.number o) view.tablet.files) published_by)
      files_are m one false e =
          let free : upkeep.publishing ≡ None = same.1 ∙ ap (λ (b : Bool). publishing_home b view.upkeep.publishing) e in
          none_at m.number upkeep view.tablet.files free
          ∙ sym (ap (λ (o : Option JobView). files_over (job_at m.number o) view.tablet.files) published_by ∙ ap (λ (o : Option JobView). files_over o view.tablet.files) (before_job m.number job (older m one e)))

      rests : (upkeep.publishing ≡ None) ⊎ (view.tablet.core.aloft ≡ [])
      rests = elim is.1.rests [ inl none ↦ absurd (let no : None ≡ Some n = sym none ∙ mine in cc) | inr calm ↦ inr calm ]

      own : (j : JobView) → Some (record job { stage = stage_home published }) ≡ Some j → JobOn (view.records ++ is.1.run) j
      own j e =
          let on = is.1.jobs n job had in
          let one : record job { stage = stage_home published } ≡ j = cc in
          subst (JobOn (view.records ++ is.1.run)) one (record { many = on.many; names = on.names })

  -- it is given up
  pub abandoned_both : (n : ℕ) (w : Want) → HasUpkeep n (job_abandoned w (upkeep_at n view.upkeep.passes)) view.upkeep upkeep → view.upkeep.publishing ≡ None → (upkeep.begun ≡ view.upkeep.begun) × (upkeep.publishing ≡ view.upkeep.publishing) → BothOn view
      → BothOn (record view { upkeep = upkeep })
  abandoned_both n w changed none same is = free_both n (job_abandoned w (upkeep_at n view.upkeep.passes)) changed none same is (λ j e. absurd (let no : None ≡ Some j = e in cc)) (λ j e at. absurd (let no : None ≡ Some j = e in cc))

  -- one freezes the MemRowSet that takes inserts, and that counts as a job more
  pub refrozen_both : (tablet : View C) (n : ℕ) (u : UpkeepView) (h : HasFrozen view.tablet tablet) → h.number + 1 < 2 ^ 64 → HasUpkeep n u view.upkeep upkeep → upkeep.begun ≡ suc view.upkeep.begun → upkeep.publishing ≡ None → view.upkeep.begun < 2 ^ 24 → view.upkeep.publishing ≡ None
      → (is : BothOn view) → ((j : JobView) → u.job ≡ Some j → JobOn (view.records ++ is.1.run) j) → ((j : JobView) → u.job ≡ Some j → is_at_outside j.stage ≡ false) → BothOn (record view { tablet = tablet; upkeep = upkeep })
  refrozen_both tablet n u h fits has counted still few none is on other = (
    frozen_keeps log_tells log_seen log_now log_leaves log_faults tells seen faults view tablet upkeep h fits (λ zero_. let no : suc view.upkeep.begun ≡ 0 = sym counted ∙ zero_ in cc) is.0,
    frozen_stored log_tells log_seen log_now log_leaves log_faults tells seen faults view tablet upkeep h fits is.1 none still counted few (jobs_kept (view.records ++ is.1.run) n u view.upkeep upkeep has on is.1.jobs)
        (outside_beside view is.1.run is.1.outside upkeep n u has still (λ zero_. absurd (let no : suc view.upkeep.begun ≡ 0 = sym counted ∙ zero_ in cc)) other),
  )

  -- a job has begun
  pub begun_both : (tablet : View C) (n : ℕ) (w : Want) (job : JobView) (h : HasFrozen view.tablet tablet) → h.number + 1 < 2 ^ 64 → HasUpkeep n (asked w job (upkeep_at n view.upkeep.passes)) view.upkeep upkeep
      → (upkeep.begun ≡ job.number) × (upkeep.publishing ≡ view.upkeep.publishing) → job.number ≡ suc view.upkeep.begun → view.upkeep.begun < 2 ^ 24 → view.upkeep.publishing ≡ None → job.many ≡ view.log.known.count + length (view.log.out ++ view.log.queued)
      → job.first_rowset ≡ view.store.next_rowset → view.store.next_rowset ≢ 2 ^ 64 - 1 → job.last_mem ≡ h.number → is_at_outside job.stage ≡ false → BothOn view → BothOn (record view { tablet = tablet; upkeep = upkeep })
  begun_both tablet n w job h fits has counted next begins none many rowset few last other is = (
    frozen_keeps log_tells log_seen log_now log_leaves log_faults tells seen faults view tablet upkeep h fits (λ zero_. let no : suc view.upkeep.begun ≡ 0 = sym next ∙ sym counted.0 ∙ zero_ in cc) is.0,
    frozen_stored log_tells log_seen log_now log_leaves log_faults tells seen faults view tablet upkeep h fits is.1 none (counted.1 ∙ none) (counted.0 ∙ next) begins
        (jobs_kept (view.records ++ is.1.run) n (asked w job (upkeep_at n view.upkeep.passes)) view.upkeep upkeep has
        (λ j e. subst (JobOn (view.records ++ is.1.run)) (let one : job ≡ j = cc in one) (job_begins log_tells log_seen log_now log_leaves log_faults tells seen faults view tablet upkeep h fits is.1 job many rowset few last)) is.1.jobs)
        (outside_beside view is.1.run is.1.outside upkeep n (asked w job (upkeep_at n view.upkeep.passes)) has (counted.1 ∙ none) (λ zero_. absurd (let no : suc view.upkeep.begun ≡ 0 = sym next ∙ sym counted.0 ∙ zero_ in cc)) (λ j e. let one : job ≡ j = cc in sym (ap (λ (x : JobView). is_at_outside x.stage) one) ∙ other)),
  )
