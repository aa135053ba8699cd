-- The engine and its store at the events of a job on the files of a disk rowset: it begins, and it is over.
use Rattle.std.proofs.Common.{◌≡◌, ℕ, suc, ◌<◌, ◌≤◌, ◌+◌, ◌^◌, Bool, false, List, [], ◌∷◌, ◌++◌, length, take, Option, Some, None, refl, sym, ap, ◌∙◌, subst, arith, inl, inr}
use Rattle.kt_disk.specs.Disk.{Files}
use Rattle.kt_content.specs.Flushes.{before}
use Rattle.kt_content.specs.RunEvents.{RecordsBelow}
use Rattle.kt_pick.specs.declared.rules.Want.{Want}
use Rattle.kt_pool.specs.Contents.{Contents}
use Rattle.kt_records.specs.declared.entry.Entry.{Entry}
use Rattle.kt_diskrowset.specs.declared.data.RowSetData.{RowSetData}
use Rattle.kt_diskrowset.specs.Data.{held_in}
use Rattle.kt_diskrowset.specs.Rowset.{HeldFiles}
use Rattle.kt_super.specs.declared.meta.Meta.{Meta}
use Rattle.kt_tablet.specs.Jobs.{dms_in, with_files}
use Rattle.kt_tablet.specs.Views.{View}
use Rattle.kt_engine.specs.declared.upkeep.Stage.TheVariants as stage
use Rattle.kt_engine.specs.Engines.{EngineView, IsEngine, core_from}
use Rattle.kt_engine.specs.DeltaJobs.{IsOn, HasBegunDeltas, MayFinishDeltas, HasFinishedDeltas}
use Rattle.kt_engine.specs.Files.{AreFiled, publisher_by, job_at, files_by, files_over}
use Rattle.kt_engine.specs.Jobs.{JobView, UpkeepsView, JobOn, HasUpkeep, upkeep_at, job_of, asked, job_finished, over_for, over_of, over_by, takes_of}
use Rattle.kt_engine.specs.Logged.{KeepsSince}
use Rattle.kt_engine.specs.Near.{AreNear}
use Rattle.kt_engine.specs.Outside.{is_at_outside}
use Rattle.kt_engine.specs.Over.{Over, over_at, core_over, names_over}
use Rattle.kt_engine.specs.Stored.{IsOneOf, IsStored, over, files_at}
use Rattle.kt_engine.specs.Visits.{IsVisit}
use Rattle.kt_engine.proofs.Filed.{none_at, own_job}
use Rattle.kt_engine.proofs.Near.{near_begun}
use Rattle.kt_engine.proofs.Outsiders.{none_kept, none_beside, outside_beside}
use Rattle.kt_engine.proofs.Stored.{filed_now}
use Rattle.kt_engine.proofs.Upkeeps.{jobs_kept, upkeep_keeps}
use Rattle.kt_engine.proofs.Visiting.{shelf_visit}

-- such a job asks nothing of the records
pub on_none : (records : List Entry) (job : JobView) → job.many ≡ 0 → JobOn records job
on_none records job none = record {
  many = subst (λ (n : ℕ). n ≤ length records) (sym none) (omega arith);
  names = subst (λ (n : ℕ). RecordsBelow (before job.first_rowset job.last_mem) (take n records)) (sym none) (none_taken records);
}
  where
    none_taken : (xs : List Entry) → RecordsBelow (before job.first_rowset job.last_mem) (take 0 xs)
    none_taken [] = tt
    none_taken (x ∷ xs) = tt

module _ {L D C : Type 0} (log_tells : Bool) (log_seen : L → Files) (log_now : L → ℕ) (log_leaves : L → ℕ → Files → Type 0) (log_faults : L → ℕ) (tells : Bool) (seen : D → Files) (faults : D → ℕ) (view : EngineView L D C) (upkeep : UpkeepsView) where
  abbrev Both : EngineView L D C → Type 0
  Both v = IsEngine log_tells log_seen log_now log_leaves log_faults v × IsStored log_tells log_seen tells seen faults v

  -- one job more has begun
  pub begun_more : (n : ℕ) (w : Want) (job : JobView) → HasUpkeep n (asked w job (upkeep_at n view.upkeep.passes)) view.upkeep upkeep → upkeep.begun ≡ suc view.upkeep.begun → upkeep.publishing ≡ view.upkeep.publishing → view.upkeep.begun < 2 ^ 24
      → view.upkeep.publishing ≡ None → is_at_outside job.stage ≡ false → (is : Both view) → JobOn (view.records ++ is.1.run) job → Both (record view { upkeep = upkeep })
  begun_more n w job has counted publishing few none other is on =
      let free : upkeep.publishing ≡ None = publishing ∙ none in
      let s = is.1 in (
        upkeep_keeps log_tells log_seen log_now log_leaves log_faults view upkeep (λ zero_. absurd (let no : suc view.upkeep.begun ≡ 0 = sym counted ∙ zero_ in cc)) is.0,
        record {
          run = s.run;
          all = s.all;
          count = s.count;
          stands = s.stands;
          keeps = λ rules first h plan t super one.
              subst (λ (o : Option Over). KeepsSince rules (core_over o view.tablet.names (core_from view first)) super (names_over o view.tablet.names) view.tablet.notes view.records s.run view.log.known.count)
              (ap (λ (p : Option ℕ). over_at one.meta.number (over_by p view.upkeep)) none ∙ sym (ap (λ (p : Option ℕ). over_at one.meta.number (over_by p upkeep)) free))
              (s.keeps rules first (record { closed = h.closed; opens = h.opens; holds = h.holds }) plan t super (record { meta = one.meta; one = one.one; held = one.held; hold = one.hold; is = one.is }));
          below = s.below;
          names_below = s.names_below;
          near = subst (λ (k : ℕ). AreNear view.found view.tablet.names view.first_rowset view.store.next_rowset k s.run) (sym counted) (near_begun view.found view.tablet.names view.first_rowset view.store.next_rowset view.upkeep.begun s.run few s.near);
          files_near = s.files_near;
          room = s.room;
          rests = inl free;
          jobs = jobs_kept (view.records ++ s.run) n (asked w job (upkeep_at n view.upkeep.passes)) view.upkeep upkeep has (λ j e. subst (JobOn (view.records ++ s.run)) (let one : job ≡ j = cc in one) on) s.jobs;
          outside = outside_beside view s.run s.outside upkeep n (asked w job (upkeep_at n view.upkeep.passes)) has free (λ zero_. absurd (let no : suc view.upkeep.begun ≡ 0 = sym counted ∙ zero_ in cc)) (λ j e. let one : job ≡ j = cc in sym (ap (λ (x : JobView). is_at_outside x.stage) one) ∙ other);
          holds = s.holds;
          files = λ m one. subst (AreFiled tells (seen view.store.known) m.rowsets) (sym (none_at m.number upkeep view.tablet.files free)) (filed_now log_tells log_seen tells seen faults view s none m one);
          columns = s.columns;
          mark = s.mark;
          marked = s.marked;
          clock = s.clock;
          low = s.low;
          later = s.later;
          home = s.home;
        },
      )

  pub begun_so : (n k : ℕ) (w : Want) (job : JobView) → job.want ≡ w → job.stage ≡ stage.Begun → k ≡ job.number → job.number ≡ view.upkeep.begun + 1 → (upkeep.begun ≡ job.number) × (upkeep.publishing ≡ None) → IsOn job.rowset w → (dms : ℕ) × (dms_in job.rowset view.tablet.names ≡ Some dms)
      → (job.output ≡ None) × (job.held ≡ []) → HasUpkeep n (asked w job (upkeep_at n view.upkeep.passes)) view.upkeep upkeep → HasBegunDeltas view (record view { upkeep = upkeep }) n w k
  begun_so n k w job want_is stage_is same next counted on there none has = record {
    job = job;
    number = (sym same, same ∙ next ∙ (let e : view.upkeep.begun + 1 ≡ suc view.upkeep.begun = omega arith in e), counted.0 ∙ sym same, counted.1);
    want_is = want_is;
    stage_is = stage_is;
    on = on;
    there = there;
    none = none;
    upkeep = has;
    beside = refl;
  }

-- the files of a rowset and the cells are others
files_keep : {L D C : Type 0} (log_tells : Bool) (log_seen : L → Files) (log_now : L → ℕ) (log_leaves : L → ℕ → Files → Type 0) (log_faults : L → ℕ) (view : EngineView L D C) (pool : Contents) (files : List HeldFiles)
    → IsEngine log_tells log_seen log_now log_leaves log_faults view → IsEngine log_tells log_seen log_now log_leaves log_faults (record view { tablet = record view.tablet { pool = pool; files = files } })
files_keep log_tells log_seen log_now log_leaves log_faults view pool files e = record {
  logged = record {
    run = e.logged.run;
    all = e.logged.all;
    count = e.logged.count;
    begins = e.logged.begins;
    stands = e.logged.stands;
    keeps = λ rules first h plan none. e.logged.keeps rules first (record { closed = h.closed; opens = h.opens; holds = h.holds }) plan none;
    names = e.logged.names;
    framed = e.logged.framed;
    durable = e.logged.durable;
    acknowledged = e.logged.acknowledged;
  };
  home = λ journal h.
      let home = e.home journal h in
      record { opens = home.opens; others = home.others; later = home.later; known = home.known; rose = home.rose; images = home.images };
  others = e.others;
  lent = e.lent;
  whole = e.whole;
  stops = e.stops;
  ready = record { room = e.ready.room; apart = e.ready.apart; spelled = e.ready.spelled; shelved = e.ready.shelved; named = e.ready.named };
  placed = e.placed;
}

-- ---- its job is over: its files have taken the place of the old ones

module _ {L D C : Type 0} (log_tells : Bool) (log_seen : L → Files) (log_now : L → ℕ) (log_leaves : L → ℕ → Files → Type 0) (log_faults : L → ℕ) (tells : Bool) (seen : D → Files) (faults : D → ℕ) (view : EngineView L D C) (n : ℕ) (job : JobView) (d : RowSetData)
    (had : job_of n view.upkeep ≡ Some job) (may : MayFinishDeltas view n job d) (tablet : View C) (upkeep : UpkeepsView) (has : HasUpkeep n (job_finished job.want (upkeep_at n view.upkeep.passes)) view.upkeep upkeep)
    (counted : (upkeep.begun ≡ view.upkeep.begun) × (upkeep.publishing ≡ None)) (put : tablet ≡ record view.tablet { pool = tablet.pool; files = with_files (held_in d) view.tablet.files }) where
  -- it had no outputs beside, and each superblock from its own on is told of the files that were written
  none_over : over view ≡ None
  none_over = ap (λ (p : Option ℕ). over_by p view.upkeep) may.published.0 ∙ ap over_of had ∙ ap (λ (o : Option RowSetData). over_for o job) may.output

  told : (m : Meta) → job.super ≤ m.number → files_at view m ≡ with_files (held_in d) view.tablet.files
  told m up =
      ap (λ (p : Option ℕ). files_over (job_at m.number (publisher_by p view.upkeep)) view.tablet.files) may.published.0
      ∙ ap (λ (j : Option JobView). files_over (job_at m.number j) view.tablet.files) had
      ∙ ap (λ (j : Option JobView). files_over j view.tablet.files) (own_job m.number job up)
      ∙ ap (λ (o : Option RowSetData). files_by o (takes_of job) job.held view.tablet.files) may.output

  later : (m : Meta) → IsOneOf view.store m → job.super ≤ m.number
  later m (inl e) = let k = ap (λ (x : Meta). x.number) e in let up = may.published.1 in omega arith
  later m (inr lent) = absurd (let no : None ≡ Some m = sym may.published.2 ∙ lent in cc)

  settled_stored : IsStored log_tells log_seen tells seen faults view → IsStored log_tells log_seen tells seen faults (record view { tablet = record view.tablet { pool = tablet.pool; files = with_files (held_in d) view.tablet.files }; upkeep = upkeep })
  settled_stored s = record {
    run = s.run;
    all = s.all;
    count = s.count;
    stands = s.stands;
    keeps = λ rules first h plan t super one.
        subst (λ (o : Option Over). KeepsSince rules (core_over o view.tablet.names (core_from view first)) super (names_over o view.tablet.names) view.tablet.notes view.records s.run view.log.known.count)
        (ap (over_at one.meta.number) none_over ∙ sym (ap (λ (p : Option ℕ). over_at one.meta.number (over_by p upkeep)) counted.1))
        (s.keeps rules first (record { closed = h.closed; opens = h.opens; holds = h.holds }) plan t super (record { meta = one.meta; one = one.one; held = one.held; hold = one.hold; is = one.is }));
    below = s.below;
    names_below = s.names_below;
    near = subst (λ (k : ℕ). AreNear view.found view.tablet.names view.first_rowset view.store.next_rowset k s.run) (sym counted.0) s.near;
    files_near = s.files_near;
    room = s.room;
    rests = inl counted.1;
    jobs = jobs_kept (view.records ++ s.run) n (job_finished job.want (upkeep_at n view.upkeep.passes)) view.upkeep upkeep has (λ j e. absurd (let no : None ≡ Some j = e in cc)) s.jobs;
    outside = λ k j at out. absurd (none_kept n (job_finished job.want (upkeep_at n view.upkeep.passes)) view.upkeep upkeep has (λ i e. absurd (let no : None ≡ Some i = e in cc)) (none_beside view s.run s.outside n may.published.0) k j at out);
    holds = s.holds;
    files = λ m one. subst (AreFiled tells (seen view.store.known) m.rowsets) (told m (later m one) ∙ sym (none_at m.number upkeep (with_files (held_in d) view.tablet.files) counted.1)) (s.files m one);
    columns = s.columns;
    mark = s.mark;
    marked = s.marked;
    clock = s.clock;
    low = s.low;
    later = s.later;
    home = s.home;
  }

  pub settled_both : IsEngine log_tells log_seen log_now log_leaves log_faults view × IsStored log_tells log_seen tells seen faults view
      → IsEngine log_tells log_seen log_now log_leaves log_faults (record view { tablet = tablet; upkeep = upkeep }) × IsStored log_tells log_seen tells seen faults (record view { tablet = tablet; upkeep = upkeep })
  settled_both is =
      subst (λ (t : View C). IsEngine log_tells log_seen log_now log_leaves log_faults (record view { tablet = t; upkeep = upkeep }) × IsStored log_tells log_seen tells seen faults (record view { tablet = t; upkeep = upkeep })) (sym put) (
        upkeep_keeps log_tells log_seen log_now log_leaves log_faults (record view { tablet = record view.tablet { pool = tablet.pool; files = with_files (held_in d) view.tablet.files } }) upkeep (λ zero_. sym counted.0 ∙ zero_)
            (files_keep log_tells log_seen log_now log_leaves log_faults view tablet.pool (with_files (held_in d) view.tablet.files) is.0),
        settled_stored is.1,
      )

  pub settled_visit : IsVisit n view (record view { tablet = tablet; upkeep = upkeep })
  settled_visit = shelf_visit n (job_finished job.want (upkeep_at n view.upkeep.passes)) view tablet upkeep view.tablet.core.stores view.tablet.names view.tablet.frozen tablet.pool (with_files (held_in d) view.tablet.files) put has

  pub settled_finished : HasFinishedDeltas n view (record view { tablet = tablet; upkeep = upkeep })
  settled_finished = record {
    job = job;
    had = had;
    output = d;
    gave = may.output;
    upkeep = has;
    begun = counted;
    beside = ap (λ (t : View C). record view { tablet = t; upkeep = upkeep }) put;
  }
