-- A job leaves the lock with what it read, and comes back.
use Rattle.std.proofs.Common.{◌≡◌, ◌≢◌, ◌<◌, ◌+◌, ◌^◌, ℕ, suc, min, Bool, List, [], ◌∷◌, ◌++◌, length, map, take, Option, Some, None, refl, sym, ap, ◌∙◌, subst, arith, inl, inr}
use Rattle.std.specs.Prelude.{IsTrue}
use Rattle.std.specs.List.{All, AllByRecursion}
use Rattle.std.proofs.lemmas.List.{take_all}
use Rattle.kt_disk.specs.Disk.{Files}
use Rattle.kt_history.specs.declared.target.Target.{Target}
use Rattle.kt_records.specs.declared.entry.Entry.{Entry}
use Rattle.kt_history.specs.Grown.{AllGrown}
use Rattle.kt_history.specs.History.{Past}
use Rattle.kt_history.specs.Stores.{Hist}
use Rattle.kt_histlaws.specs.Flights.{AllUnder}
use Rattle.kt_histlaws.specs.Histories.{hists}
use Rattle.kt_histlaws.specs.Pending.{Aloft}
use Rattle.kt_rowfiles.specs.Merging.{joined_history}
use Rattle.kt_content.specs.Flushes.{before}
use Rattle.kt_content.specs.Rules.{Rules, HistPasses}
use Rattle.kt_content.specs.RunEvents.{RecordsBelow, RowsBelow}
use Rattle.kt_pick.specs.declared.rules.Want.{Want}
use Rattle.kt_pick.specs.declared.rules.Want.TheVariants as want
use Rattle.kt_diskrowset.specs.declared.data.RowSetData.{RowSetData}
use Rattle.kt_diskrowset.specs.Data.{held_in, store_in}
use Rattle.kt_merge.specs.Merge.{hists_of}
use Rattle.kt_joblaws.specs.Apart.{AreApart}
use Rattle.kt_joblaws.specs.Late.{AllHaveLater}
use Rattle.kt_joblaws.proofs.Late.{nothing_later, late_apart}
use Rattle.kt_joblaws.proofs.Standing.{stand_apart}
use Rattle.kt_stores.specs.Takes.{Takes, rowsets as disks, files_taken}
use Rattle.kt_tablet.specs.Views.{Opens, IsSound}
use Rattle.kt_tablet.specs.Jobs.{files_of, taken_stores, taken_rowsets}
use Rattle.kt_engine.specs.declared.upkeep.Stage.TheVariants as stage
use Rattle.kt_engine.specs.declared.job.Returned.TheVariants as returned
use Rattle.kt_engine.specs.DeltaJobs.{IsOn, IsRead}
use Rattle.kt_engine.specs.Engines.{EngineView, IsEngine, IsFound, IsContent}
use Rattle.kt_engine.specs.Jobs.{JobView, UpkeepsView, JobOn, HasUpkeep, IsAtStage, job_of, takes_of, upkeep_at}
use Rattle.kt_engine.specs.JobCalls.{ByWant}
use Rattle.kt_engine.specs.JobSteps.{TakesBy, TakesInputs}
use Rattle.kt_engine.specs.Logged.{PlanPasses}
use Rattle.kt_engine.specs.Near.{first_number}
use Rattle.kt_engine.specs.Outside.{IsOutside, MergesOutside, Rewrites, RewritesOutside, AreUpToInFiles, TakesDisks, TakesStill, hists_read, job_back, job_out}
use Rattle.kt_engine.specs.Over.{AreShelved}
use Rattle.kt_engine.specs.Returning.{LeavesAs, LeavesOne, HasReturned, HasReread, ReturnsBy}
use Rattle.kt_engine.specs.Stored.{IsStored}
use Rattle.kt_engine.proofs.GoesOut.{GoesWith, goes_with}
use Rattle.kt_engine.proofs.JobBoth.{free_both}
use Rattle.kt_engine.proofs.LaterFiles.{of_each_key, none_above}
use Rattle.kt_engine.proofs.Lists.{all_none, some_one}
use Rattle.kt_engine.proofs.Outside.{takes_disks}
use Rattle.kt_engine.proofs.Outsiders.{a_merge, a_rewrite, not_outside}
use Rattle.kt_engine.proofs.Rising.{records_rise}
use Rattle.kt_engine.proofs.Stored.{filed_now}
use Rattle.kt_engine.proofs.TakenRead.{own_are, own_under, rowsets_are_taken, passing_from}

-- where nothing is, each is so
none_noted : {A B : Type 0} (P : A → Type 0) (notes : List A) (xs : List B) → length notes ≡ length xs → xs ≡ [] → AllByRecursion P notes
none_noted P [] xs same none = tt
none_noted P (x ∷ notes) xs same none = absurd (let no : length xs ≡ 0 = ap length none in omega (arith, same, no))

module _ {L D C : Type 0} (log_tells : Bool) (log_seen : L → Files) (tells : Bool) (seen : D → Files) (faults : D → ℕ) (readings : C → Option (List ℕ)) (view : EngineView L D C) (is : IsStored log_tells log_seen tells seen faults view) (sound : IsSound readings view.tablet)
    (grown : AllGrown (take (suc view.tablet.frozen) view.tablet.core.stores)) (shelved : AreShelved (suc view.tablet.frozen) (2 ^ 64) view.tablet.names) (as_many : length view.tablet.names ≡ length view.tablet.core.stores) (noted : length view.tablet.notes ≡ length view.tablet.core.aloft)
    (calm : view.tablet.core.aloft ≡ []) (free : view.upkeep.publishing ≡ None) (none : view.store.lent ≡ None) (begun : view.upkeep.begun ≢ 0) (n : ℕ) (job : JobView) (had : job_of n view.upkeep ≡ Some job) (takes : TakesInputs view job) (leaves : LeavesAs view.tablet job) where
  its : GoesWith view.tablet job leaves.inputs job.want
  its = goes_with readings view sound grown shelved as_many job takes leaves

  -- the records of the log name nothing that came since
  all_named : RecordsBelow (before job.first_rowset (first_number view.tablet.names)) (view.records ++ is.run)
  all_named =
      let on = is.jobs n job had in
      let all : take job.many (view.records ++ is.run) ≡ view.records ++ is.run = take_all job.many (view.records ++ is.run) (let k = is.count in let m = takes.many in omega arith) in
      let first = its.first in
      records_rise (before job.first_rowset job.last_mem) (before job.first_rowset (first_number view.tablet.names)) (view.records ++ is.run) (omega arith) (omega (arith, first))
      (subst (RecordsBelow (before job.first_rowset job.last_mem)) all on.names)

  abbrev Found : Past → Type 0
  Found first = Opens view.tablet.opening view.tablet.mark view.tablet.core.opened first

  -- its mark is the engine's
  mark_is : (first : Past) → Found first → job.mark ≡ view.tablet.core.a
  mark_is first opens = let up = (sound.stands first opens).flown.marked in let bound = leaves.bound in leaves.mark ∙ ap (λ (b : ℕ). min b view.tablet.core.a) bound ∙ (omega arith)

  under_bound : (first : Past) → Found first → (q : List ℕ) → AllUnder (suc job.bound) (hists q (taken_stores (disks job.taken) view.tablet))
  under_bound first opens q =
      subst (λ (b : ℕ). AllUnder (suc b) (hists q (taken_stores (disks job.taken) view.tablet))) (sym leaves.bound) (own_under view.tablet job.taken shelved as_many readings sound first opens q)

  apart_read : (first : Past) → Found first → (q : List ℕ) → AreApart job.mark (hists_read job.want leaves.inputs q) × AllUnder (suc job.bound) (hists_read job.want leaves.inputs q)
  apart_read first opens q = (
    subst (λ (a : ℕ). AreApart a (hists_read job.want leaves.inputs q)) (sym (mark_is first opens)) (subst (AreApart view.tablet.core.a) (sym (its.read first opens q)) (its.apart first opens q).0),
    subst (λ (b : ℕ). AllUnder (suc b) (hists_read job.want leaves.inputs q)) (sym leaves.bound) (subst (AllUnder (suc view.tablet.core.c)) (sym (its.read first opens q)) (its.apart first opens q).1),
  )

  pub goes_outside : MergesOutside view.tablet view.store.meta view.store.lent view.upkeep (view.records ++ is.run) (job_out view.tablet.frozen job)
  goes_outside = record {
    inputs = leaves.inputs;
    read = leaves.read;
    free = (free, none);
    begun = begun;
    takes = its.takes;
    left = takes.left;
    below = takes.below;
    as_many = as_many;
    named = all_named;
    noted = none_noted (RowsBelow (before job.first_rowset (first_number view.tablet.names))) view.tablet.notes view.tablet.core.aloft noted calm;
    since = (let bound = leaves.bound in omega arith);
    flies = subst (All (λ (w : Aloft). job.bound < w.ts)) (sym calm) (all_none (λ (w : Aloft). job.bound < w.ts));
    mark = (let least = leaves.mark in (omega arith, omega arith));
    low = λ first opens. let up = mark_is first opens in let low = is.low view.store.meta (inl refl) in omega arith;
    front = its.front;
    later = λ first opens q. subst (λ (hs : List Hist). AllHaveLater job.bound hs (hists q (taken_stores (takes_of job) view.tablet))) (sym (its.read first opens q)) (nothing_later job.bound (hists q (taken_stores (takes_of job) view.tablet)));
    apart = apart_read;
    whole = λ first opens q. subst (λ (a : ℕ). AreApart a (hists q view.tablet.core.stores)) (sym (mark_is first opens)) (stand_apart (record view.tablet.core { first = first }) q (sound.stands first opens)).0;
    upto = λ first opens. of_each_key job.bound (files_taken job.taken view.tablet.files) (λ q. leaves.files job.bound q (under_bound first opens q));
  }

-- one on the files of a disk rowset leaves with what it read
pub one_goes : {L D C : Type 0} (view : EngineView L D C) (job : JobView) → view.upkeep.publishing ≡ None → view.store.lent ≡ None → view.upkeep.begun ≢ 0 → Rewrites job.want → LeavesOne view.tablet job → RewritesOutside view.tablet view.store.lent view.upkeep (job_out view.tablet.frozen job)
one_goes view job free none begun on leaves = record {
  on = on;
  free = (free, none);
  begun = begun;
  was = leaves.was;
  read = leaves.read;
  held = leaves.held;
}

-- by its want
pub leaves_by : {L D C : Type 0} (view : EngineView L D C) (records : List Entry) (job : JobView) → view.upkeep.publishing ≡ None → view.store.lent ≡ None → view.upkeep.begun ≢ 0
    → (TakesInputs view job × LeavesAs view.tablet job → MergesOutside view.tablet view.store.meta view.store.lent view.upkeep records (job_out view.tablet.frozen job)) → (w : Want) → w ≡ job.want
    → ByWant w (TakesInputs view job × LeavesAs view.tablet job) (λ rowset. LeavesOne view.tablet job) → IsOutside view.tablet view.store.meta view.store.lent view.upkeep records (job_out view.tablet.frozen job)
leaves_by view records job free none begun merges want.Flush is may = inl (merges may)
leaves_by view records job free none begun merges (want.Compact taken) is may = inl (merges may)
leaves_by view records job free none begun merges (want.FlushDeltas r) is may = inr (one_goes view job free none begun (subst Rewrites is tt) may)
leaves_by view records job free none begun merges (want.Minor r) is may = inr (one_goes view job free none begun (subst Rewrites is tt) may)
leaves_by view records job free none begun merges (want.Major r) is may = inr (one_goes view job free none begun (subst Rewrites is tt) may)

-- it has left: no other job has changed
pub left_both : {L D C : Type 0} (log_tells : Bool) (log_seen : L → Files) (log_now : L → ℕ) (log_leaves : L → ℕ → Files → Type 0) (log_faults : L → ℕ) (tells : Bool) (seen : D → Files) (faults : D → ℕ) (view : EngineView L D C)
    → (are : IsEngine log_tells log_seen log_now log_leaves log_faults view × IsStored log_tells log_seen tells seen faults view) → (n : ℕ) (job : JobView) → job_of n view.upkeep ≡ Some job → (upkeep : UpkeepsView)
    → HasUpkeep n (record (upkeep_at n view.upkeep.passes) { job = Some (job_out view.tablet.frozen job) }) view.upkeep upkeep → view.upkeep.publishing ≡ None → (upkeep.begun ≡ view.upkeep.begun) × (upkeep.publishing ≡ view.upkeep.publishing)
    → IsOutside view.tablet view.store.meta view.store.lent view.upkeep (view.records ++ are.1.run) (job_out view.tablet.frozen job)
    → IsEngine log_tells log_seen log_now log_leaves log_faults (record view { upkeep = upkeep }) × IsStored log_tells log_seen tells seen faults (record view { upkeep = upkeep })
left_both log_tells log_seen log_now log_leaves log_faults tells seen faults view are n job had upkeep has free same out =
    let on = are.1.jobs n job had in
    free_both log_tells log_seen log_now log_leaves log_faults tells seen faults view upkeep n (record (upkeep_at n view.upkeep.passes) { job = Some (job_out view.tablet.frozen job) }) has free same are
    (λ j e. subst (JobOn (view.records ++ are.1.run)) (some_one (job_out view.tablet.frozen job) j e) (record { many = on.many; names = on.names }))
    (λ j e at. subst (IsOutside view.tablet view.store.meta view.store.lent view.upkeep (view.records ++ are.1.run)) (some_one (job_out view.tablet.frozen job) j e) out)

-- the job that is at a stage is the pass's own
pub same_stage : (n : ℕ) (v : UpkeepsView) (known : (job : JobView) × IsAtStage v n stage.Outside job) (job : JobView) → job_of n v ≡ Some job → job.stage ≡ stage.Outside
same_stage n v known job had = ap (λ (j : JobView). j.stage) (some_one job known.0 (sym had ∙ known.1.has)) ∙ known.1.at

pub same_want : (n : ℕ) (v : UpkeepsView) (known : (job : JobView) × IsAtStage v n stage.Outside job) → known.0.want ≡ want.Compact known.0.taken → (job : JobView) → job_of n v ≡ Some job → job.want ≡ want.Compact job.taken
same_want n v known compacts job had = subst (λ (j : JobView). j.want ≡ want.Compact j.taken) (some_one known.0 job (sym known.1.has ∙ had)) compacts

-- of disk rowsets a flush takes none, and a compaction some
pub is_flush : (names : List Target) (job : JobView) → TakesStill names job job.want → job.taken ≡ [] → job.want ≡ want.Flush
is_flush names job t none = by job.want t
  where
    by : (w : Want) → TakesStill names job w → w ≡ want.Flush
    by want.Flush t = refl
    by (want.Compact taken) t = absurd (t.1.some none)
    by (want.FlushDeltas r) t = absurd t
    by (want.Minor r) t = absurd t
    by (want.Major r) t = absurd t

pub is_compaction : (names : List Target) (job : JobView) → TakesStill names job job.want → job.taken ≢ [] → job.want ≡ want.Compact job.taken
is_compaction names job t some = by job.want t
  where
    by : (w : Want) → TakesStill names job w → w ≡ want.Compact job.taken
    by want.Flush t = absurd (some t.none)
    by (want.Compact taken) t = ap want.Compact (sym t.0)
    by (want.FlushDeltas r) t = absurd t
    by (want.Minor r) t = absurd t
    by (want.Major r) t = absurd t

-- ---- it comes back

module _ {L D C : Type 0} (log_tells : Bool) (log_seen : L → Files) (log_now : L → ℕ) (log_leaves : L → ℕ → Files → Type 0) (log_faults : L → ℕ) (tells : Bool) (seen : D → Files) (faults : D → ℕ) (view : EngineView L D C)
    (are : IsEngine log_tells log_seen log_now log_leaves log_faults view × IsStored log_tells log_seen tells seen faults view) (n : ℕ) (job : JobView) (had : job_of n view.upkeep ≡ Some job) (at : job.stage ≡ stage.Outside) (compacts : job.want ≡ want.Compact job.taken) (many last : ℕ) (list : List RowSetData)
    (count : many ≡ view.log.known.count + length (view.log.out ++ view.log.queued)) (active : last ≡ first_number view.tablet.names) (upkeep : UpkeepsView) (has : HasUpkeep n (record (upkeep_at n view.upkeep.passes) { job = Some (job_back many last list job) }) view.upkeep upkeep)
    (same : (upkeep.begun ≡ view.upkeep.begun) × (upkeep.publishing ≡ view.upkeep.publishing)) where
  was : MergesOutside view.tablet view.store.meta view.store.lent view.upkeep (view.records ++ are.1.run) job
  was = a_merge view.tablet view.store.meta view.store.lent view.upkeep (view.records ++ are.1.run) job (are.1.outside n job had at) (λ on. subst Rewrites compacts on)

  its_rowsets : TakesDisks view.tablet.names job
  its_rowsets = (subst (TakesStill view.tablet.names job) compacts was.takes).1

  -- what was read, and what is taken
  read_all : (q : List ℕ) → hists_read job.want was.inputs q ≡ hists_of q was.inputs
  read_all q = ap (λ (w : Want). hists_read w was.inputs q) compacts

  taken_are : takes_of job ≡ disks job.taken
  taken_are = takes_disks job.taken job.last_mem its_rowsets.some

  later_are : (first : Past) → IsFound view first → (q : List ℕ) → AllHaveLater job.bound (hists_of q was.inputs) (hists q (taken_stores (disks job.taken) view.tablet))
  later_are first opens q = subst (λ (hs : List Hist). AllHaveLater job.bound hs (hists q (taken_stores (disks job.taken) view.tablet))) (read_all q)
      (subst (λ (t : Takes). AllHaveLater job.bound (hists_read job.want was.inputs q) (hists q (taken_stores t view.tablet))) taken_are (was.later first opens q))

  apart_are : (first : Past) → IsFound view first → (q : List ℕ) → AreApart job.mark (hists_of q was.inputs) × AllUnder (suc job.bound) (hists_of q was.inputs)
  apart_are first opens q = subst (λ (hs : List Hist). AreApart job.mark hs × AllUnder (suc job.bound) hs) (read_all q) (was.apart first opens q)

  on_again : JobOn (view.records ++ are.1.run) (job_back many last list job)
  on_again =
      let k = are.1.count in
      let c = count in
      record {
        many = omega arith;
        names = subst (RecordsBelow (before job.first_rowset last)) (sym (take_all many (view.records ++ are.1.run) (omega arith))) (subst (λ (l : ℕ). RecordsBelow (before job.first_rowset l) (view.records ++ are.1.run)) (sym active) was.named);
      }

  pub back_both : IsEngine log_tells log_seen log_now log_leaves log_faults (record view { upkeep = upkeep }) × IsStored log_tells log_seen tells seen faults (record view { upkeep = upkeep })
  back_both = free_both log_tells log_seen log_now log_leaves log_faults tells seen faults view upkeep n (record (upkeep_at n view.upkeep.passes) { job = Some (job_back many last list job) }) has was.free.0 same are
      (λ j e. subst (JobOn (view.records ++ are.1.run)) (some_one (job_back many last list job) j e) on_again)
      (λ j e out. absurd (not_outside (job_back many last list job).stage refl (ap (λ (x : JobView). x.stage) (some_one (job_back many last list job) j e) ∙ out)))

  its_takes : TakesInputs (record view { upkeep = upkeep }) (job_back many last list job)
  its_takes = record {
    takes = subst (TakesBy (record view { upkeep = upkeep }) (job_back many last list job)) (sym compacts) (refl, record { some = its_rowsets.some; there = its_rowsets.there; first = omega (arith, active) });
    left = was.left;
    below = was.below;
    many = count;
  }

  -- they are apart, with what came later
  apart_now : (first : Past) → IsFound view first → (q : List ℕ) → AreApart job.mark (hists q (taken_stores (disks job.taken) view.tablet))
  apart_now first opens q =
      let then = apart_are first opens q in
      late_apart job.mark job.bound (hists_of q was.inputs) (hists q (taken_stores (disks job.taken) view.tablet)) was.mark.0 then.0 then.1 (later_are first opens q)

  passes_now : IsTrue tells → view.tablet.core.aloft ≡ [] → (rules : Rules) (first : Past) → IsContent rules view first → PlanPasses rules view.tablet.core.work → (q : List ℕ) → HistPasses rules q (joined_history job.mark (hists q (taken_stores (disks job.taken) view.tablet)))
  passes_now t calm rules first content plan q =
      let shelved = are.0.ready.shelved in
      let all = own_are view.tablet job.taken shelved was.as_many q in
      subst (λ (l : List Hist). HistPasses rules q (joined_history job.mark l)) all
      (passing_from log_tells log_seen tells seen faults view are.1 job.taken was.free.0 calm t rules first content plan job.mark (was.low first content.opens) q
      (subst (AreApart job.mark) (sym all) (apart_now first content.opens q)))

  -- with all that its disk rowsets have now
  pub has_returned : view.tablet.core.aloft ≡ [] → map store_in list ≡ taken_rowsets job.taken view.tablet → map held_in list ≡ files_taken job.taken view.tablet.files → HasReturned tells n job list view (record view { upkeep = upkeep })
  has_returned calm stores files = record {
    many = many;
    at = record { upkeep = subst (λ (l : ℕ). HasUpkeep n (record (upkeep_at n view.upkeep.passes) { job = Some (job_back many l list job) }) view.upkeep upkeep) active has; begun = same; beside = refl };
    takes = subst (λ (l : ℕ). TakesInputs (record view { upkeep = upkeep }) (job_back many l list job)) active its_takes;
    as_many = was.as_many;
    free = same.1 ∙ was.free.0;
    begun = λ none. was.begun (sym same.0 ∙ none);
    inputs = was.inputs;
    read = was.read;
    stores = stores ∙ rowsets_are_taken view.tablet job.taken are.0.ready.shelved;
    later = later_are;
    apart = apart_are;
    upto = λ first opens. none_above job.bound list (subst (AllByRecursion (AreUpToInFiles job.bound)) (sym files) (was.upto first opens));
    mark = was.mark;
    passes = λ t rules first content plan. passes_now t calm rules first (record { closed = content.closed; opens = content.opens; holds = content.holds }) plan;
  }

-- one on the files of a disk rowset comes back with all that this has now
module _ {L D C : Type 0} (log_tells : Bool) (log_seen : L → Files) (log_now : L → ℕ) (log_leaves : L → ℕ → Files → Type 0) (log_faults : L → ℕ) (tells : Bool) (seen : D → Files) (faults : D → ℕ) (view : EngineView L D C)
    (are : IsEngine log_tells log_seen log_now log_leaves log_faults view × IsStored log_tells log_seen tells seen faults view) (n : ℕ) (job : JobView) (had : job_of n view.upkeep ≡ Some job) (at : job.stage ≡ stage.Outside) (on : Rewrites job.want) (dms : ℕ) (d : RowSetData)
    (upkeep : UpkeepsView) (has : HasUpkeep n (record (upkeep_at n view.upkeep.passes) { job = Some (record job { stage = stage.Read; dms = dms; read = Some d }) }) view.upkeep upkeep)
    (same : (upkeep.begun ≡ view.upkeep.begun) × (upkeep.publishing ≡ view.upkeep.publishing)) where
  rewrites : RewritesOutside view.tablet view.store.lent view.upkeep job
  rewrites = a_rewrite view.tablet view.store.meta view.store.lent view.upkeep (view.records ++ are.1.run) job (are.1.outside n job had at) on

  pub reread_both : IsEngine log_tells log_seen log_now log_leaves log_faults (record view { upkeep = upkeep }) × IsStored log_tells log_seen tells seen faults (record view { upkeep = upkeep })
  reread_both =
      let on = are.1.jobs n job had in
      free_both log_tells log_seen log_now log_leaves log_faults tells seen faults view upkeep n (record (upkeep_at n view.upkeep.passes) { job = Some (record job { stage = stage.Read; dms = dms; read = Some d }) }) has rewrites.free.0 same are
      (λ j e. subst (JobOn (view.records ++ are.1.run)) (some_one (record job { stage = stage.Read; dms = dms; read = Some d }) j e) (record { many = on.many; names = on.names }))
      (λ j e out. absurd (not_outside stage.Read refl (ap (λ (x : JobView). x.stage) (some_one (record job { stage = stage.Read; dms = dms; read = Some d }) j e) ∙ out)))

  pub has_reread : IsRead view.tablet job.rowset dms d → files_of d.number view.tablet.files ≡ Some (held_in d) → HasReread tells seen n job d view (record view { upkeep = upkeep })
  has_reread is held = record {
    dms = dms;
    is = is;
    held = held;
    filed = filed_now log_tells log_seen tells seen faults view are.1 rewrites.free.0 view.store.meta (inl refl) d.number (held_in d) held;
    was = rewrites.was;
    read = rewrites.read;
    same = some_one (held_in d) (held_in rewrites.was) (sym held ∙ ap (λ (r : ℕ). files_of r view.tablet.files) is.number ∙ rewrites.held);
    at = record { upkeep = has; begun = same; beside = refl };
    free = same.1 ∙ rewrites.free.0;
    begun = λ none. rewrites.begun (sym same.0 ∙ none);
  }

pub rereads_by : {L D C : Type 0} (tells : Bool) (seen : D → Files) (n : ℕ) (job : JobView) (d : RowSetData) (old new : EngineView L D C) (w : Want) (r : ℕ) → IsOn r w → HasReread tells seen n job d old new → ReturnsBy w tells seen n job (returned.Rowset d) old new
rereads_by tells seen n job d old new want.Flush r on has = absurd on
rereads_by tells seen n job d old new (want.Compact taken) r on has = absurd on
rereads_by tells seen n job d old new (want.FlushDeltas s) r on has = has
rereads_by tells seen n job d old new (want.Minor s) r on has = has
rereads_by tells seen n job d old new (want.Major s) r on has = has
