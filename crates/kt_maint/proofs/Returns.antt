-- The steps of the last visit of a compaction.
use Rattle.std.proofs.Common.{◌≡◌, ◌≤◌, ◌+◌, ◌^◌, ℕ, suc, Bool, true, List, map, Some, None, Result, Ok, Err, inr, refl, sym, ap, subst, ◌∙◌, arith}
use Rattle.std.specs.Prelude.{IsTrue, IfOk, OnOk}
use Rattle.std.specs.List.{AllByRecursion}
use Rattle.std.proofs.Math.Nat.{le-max_left}
use Rattle.kt_disk.specs.Disk.{Files}
use Rattle.kt_history.specs.History.{Past}
use Rattle.kt_rowfiles.specs.Files.{DiskRowset}
use Rattle.kt_content.specs.Content.{NumbersDiffer}
use Rattle.kt_content.specs.Flushes.{AreFrom, before}
use Rattle.kt_content.specs.Rules.{Rules, RowsetsPass}
use Rattle.kt_content.specs.RunEvents.{RowsetsBelow}
use Rattle.kt_diskrowset.specs.declared.data.RowSetData.{RowSetData}
use Rattle.kt_diskrowset.specs.declared.inputs.Outputs.{Outputs}
use Rattle.kt_diskrowset.specs.Data.{held_in}
use Rattle.kt_files.specs.Named.{HasNamed}
use Rattle.kt_files.specs.Reading.{HoldAll}
use Rattle.kt_super.specs.declared.meta.MetaRowset.{MetaRowset}
use Rattle.kt_super.specs.Rowsets.{is_small}
use Rattle.kt_merge.specs.Merge.{AreFaultless}
use Rattle.kt_outputs.specs.Again.{AreAgain, AllNumbered, AllKeptStand}
use Rattle.kt_outputs.specs.Fewer.{some_stand}
use Rattle.kt_outputs.specs.Outputs.{meta_in, AreThere, AreStable}
use Rattle.kt_outputs.specs.declared.outputs.WriteNo.{WriteNo}
use Rattle.kt_outputs.specs.declared.outputs.WriteNo.TheVariants as write_no
use Rattle.kt_outputs.proofs.Written.{left_none}
use Rattle.kt_joblaws.specs.Written.{named_rowsets_tell}
use Rattle.kt_storeside.specs.declared.side.Lent.{Lent}
use Rattle.kt_storeside.specs.Sides.{StoreView, MayBeLent, IsWithin}
use Rattle.kt_stores.specs.Takes.{Takes, mems, rowsets}
use Rattle.kt_pick.specs.declared.rules.Want.{Want}
use Rattle.kt_engine.specs.declared.job.MaintNo.{MaintNo}
use Rattle.kt_engine.specs.declared.upkeep.Stage.TheVariants as stage
use Rattle.kt_engine.specs.Engines.{EngineView, IsFound}
use Rattle.kt_engine.specs.JobMeta.{metas_left, last_by}
use Rattle.kt_engine.specs.Jobs.{JobView, UpkeepView, UpkeepsView, job_of, takes_of}
use Rattle.kt_engine.specs.JobSteps.{HoldInputs, IsMerge, TellPassing}
use Rattle.kt_engine.specs.Logged.{PlanPasses}
use Rattle.kt_engine.specs.Near.{first_number}
use Rattle.kt_engine.specs.Outside.{job_back}
use Rattle.kt_engine.specs.Returning.{HasReturned}
use Rattle.kt_engine.specs.Stored.{next_super, job_meta}
use Rattle.kt_engine.specs.Visits.{IsVisit, Root, PartView, lent_of, out_of, part_in}
use Rattle.kt_engine.proofs.JobCalls.{as_merge, by_merge}
use Rattle.kt_engine.proofs.Visiting.{root_stays}
use Rattle.kt_maint.specs.Done.{FoundBy}
use Rattle.kt_maint.specs.JobRuns.{HasHandedIn, HasHandedOne, HandsIn, IsWrittenBy, MayHandIn, MergeIsWritten, OneIsWritten}
use Rattle.kt_maint.specs.Outside.{span_of, HasAdded, HasCome, HasFoundBy, HaveLateFiles, KeepsRead}
use Rattle.kt_maint.specs.Runs.{IsPublished, IsReady, JobHas, MayAbandon}
use Rattle.kt_maint.proofs.Begun.{on_ok}
use Rattle.kt_maint.proofs.HandedIn.{has_handed}
use Rattle.kt_maint.proofs.Merged.{ends_as, merged_same}
use Rattle.kt_maint.proofs.Written.{last_is, names_written, no_dms}

-- ---- nothing was added

pub none_added : {D A : Type 0} (tells : Bool) (seen : D → Files) (now : D → ℕ) (leaves : D → ℕ → Files → Type 0) (faults : D → ℕ) (most : ℕ) (lent : Lent D) → HasAdded {A = A} tells seen now leaves faults most lent lent (Err write_no.Memory)
none_added tells seen now leaves faults most lent = record {
  meta = refl;
  up = ((let e : lent.next_rowset ≤ lent.next_rowset = omega arith in e), (let e : lent.next_file ≤ lent.next_file = omega arith in e));
  risen = (let e : lent.next_rowset ≤ lent.next_rowset + 2 ^ 31 = omega arith in e);
  few_files = le-max_left lent.next_file most;
  left = λ t. left_none seen now leaves lent.next_file lent.device;
  faults_rise = (let e : faults lent.device ≤ faults lent.device = omega arith in e);
  rose = λ never. absurd cc;
}

-- the files that came are written
module _ {D : Type 0} (tells : Bool) (seen : D → Files) (now : D → ℕ) (leaves : D → ℕ → Files → Type 0) (went came : Lent D) (late : List RowSetData) where
  pub have_late : came.next_rowset ≡ went.next_rowset → (r : Result Outputs WriteNo) → IfOk r (λ done. AreAgain late done.rowsets) → IfOk r (λ done. AllNumbered went.next_file came.next_file late done.rowsets)
      → IfOk r (λ done. IsTrue tells → (files : Files) → AreThere went.next_file came.next_file (seen came.device) files → AllKeptStand files late → HoldAll files (map (meta_in 0) done.rowsets) (map held_in done.rowsets))
      → OnOk r (IsTrue tells → AreStable seen now leaves went.next_file came.next_file came.device) → IfOk r (λ done. HaveLateFiles tells seen now leaves went came late done.rowsets)
  have_late same (Ok done) again numbered holds stable = record { again = again; rowset = same; numbered = numbered; holds = λ t kept. holds t (seen came.device) (λ k lo hi. refl) kept; stable = stable }
  have_late same (Err x) again numbered holds stable = tt

-- ---- behind a step of the log alone

pub come_then : {L D C : Type 0} (n : ℕ) (a b : EngineView L D C) → IsVisit n a b → b.store ≡ a.store → b.upkeep ≡ a.upkeep → b.log.holder ≡ None → (tells : Bool) (seen : D → Files) (now : D → ℕ) (leaves : D → ℕ → Files → Type 0) (faults : D → ℕ) (bound most : ℕ) (lent : Lent D) (r : Result Outputs WriteNo)
    → HasCome tells seen now leaves faults n bound most lent r (part_in a n) → HasCome tells seen now leaves faults n bound most lent r (part_in b n)
come_then {L} {D} {C} n a b visit store upkeep home tells seen now leaves faults bound most lent r c =
    let w = c.away in
    let root = root_stays n a b visit in
    record {
      want = c.want;
      out = c.out;
      away = record {
        log = ap (λ h. out_of h b.log.out n) home;
        store = w.store;
        has = ap (λ (s : StoreView D). lent_of s.holder s n) store ∙ w.has;
        lent = w.lent;
        near = subst (λ (x : Root L D C). suc w.store.next_rowset ≤ x.first_rowset + 2 ^ 44) (sym root) w.near;
        near_files = subst (λ (x : Root L D C). suc w.store.next_file ≤ x.first_file + 2 ^ 44) (sym root) w.near_files;
        few_files = w.few_files;
        job = w.job;
        own = ap (job_of n) upkeep ∙ w.own;
        at = w.at;
        want = w.want;
        output = w.output;
        inputs = w.inputs;
        times = w.times;
        given = w.given;
        may = w.may;
        well = record {
          faultless = subst (λ (x : Root L D C). (first : Past) → FoundBy x first → AreFaultless (span_of c.out.input) c.out.input.inputs) (sym root) w.well.faultless;
          passes = subst (λ (x : Root L D C). IsTrue tells → (rules : Rules) (first : Past) → HasFoundBy rules x first → PlanPasses rules x.work → TellPassing rules c.out.input.bound c.out.input.mark c.out.input.inputs) (sym root) w.well.passes;
        };
      };
      bound_is = c.bound_is;
      most_is = c.most_is;
      written = c.written;
    }

-- the numbers that are still to be given are free
pub still_free : {D : Type 0} (tells : Bool) (seen : D → Files) (now : D → ℕ) (leaves : D → ℕ → Files → Type 0) (faults : D → ℕ) {L C : Type 0} (n bound most : ℕ) (lent : Lent D) (r : Result Outputs WriteNo) (part : PartView L D C) → HasCome tells seen now leaves faults n bound most lent r part
    → (IsTrue tells → (k : ℕ) → lent.next_file ≤ k → seen lent.device k ≡ None) × (3 ≤ lent.next_file)
still_free tells seen now leaves faults n bound most lent r part c =
    let out = c.out.lent in
    (λ t k low. (c.written.left t).reads k (inr low) ∙ c.away.may.vacant t k (let up = c.written.up.1 in omega arith), (let up = c.written.up.1 in let low = c.away.may.apart in omega arith))

-- a job that is back may still be given up
pub returned_abandon : {L D C : Type 0} (tells : Bool) (n : ℕ) (job : JobView) (list : List RowSetData) (a b : EngineView L D C) → HasReturned tells n job list a b → MayAbandon b n
returned_abandon tells n job list a b back = record {
  job = job_back back.many (first_number a.tablet.names) list job;
  has = ap (λ (u : UpkeepView). u.job) back.at.upkeep.own;
  early = tt;
  free = back.free;
}

-- and has what was read of it
pub returned_read : {L D C : Type 0} (tells : Bool) (n : ℕ) (job : JobView) (list : List RowSetData) (a b : EngineView L D C) → job_of n a.upkeep ≡ Some job → HasReturned tells n job list a b → KeepsRead n a.upkeep b.upkeep
returned_read tells n job list a b had back = record {
  its = job;
  had = had;
  job = job_back back.many (first_number a.tablet.names) list job;
  has = ap (λ (u : UpkeepView). u.job) back.at.upkeep.own;
  same = record { inputs = refl; times = (refl, refl) };
}

-- ---- the outputs are handed in

module _ {L D C : Type 0} (tells : Bool) (seen : D → Files) (now : D → ℕ) (leaves : D → ℕ → Files → Type 0) (n : ℕ) (w : Want) (a : EngineView L D C) (u : UpkeepsView) (out : List RowSetData) (may : MayHandIn tells seen now leaves a n w out)
    (hands : (j : JobView) → job_of n a.upkeep ≡ Some j → HandsIn n j out a (record a { upkeep = u })) (still : some_stand) where
  abbrev b : EngineView L D C
  b = record a { upkeep = u }

  handed : HasHandedIn n may.at.job out a b
  handed = by_merge (HasHandedIn n may.at.job out a b) (λ r. HasHandedOne n may.at.job out a b) may.at.job.want may.at.want (hands may.at.job may.at.has)

  abbrev has : JobHas b n stage.Written out
  has = has_handed n a b may.at out handed may.from

  abbrev job : JobView
  job = has.at.job

  abbrev left : List MetaRowset
  left = metas_left (takes_of job) a.store.meta.rowsets

  -- the last MemRowSet has a number that a superblock spells
  last_small : (t : Takes) → t ≡ takes_of job → is_small job.last_mem ≡ true → is_small (next_super b).last_mem ≡ true → is_small (last_by t (next_super b).last_mem) ≡ true
  last_small (mems last) same small was = subst (λ (k : ℕ). is_small k ≡ true) (sym (last_is job.taken last job.last_mem same)) small
  last_small (rowsets taken) same small was = was

  -- the files of those that it leaves stand
  left_stand : (t : Takes) (image : Files) → HasNamed a.store.meta.rowsets (seen a.store.known) image → HasNamed (metas_left t a.store.meta.rowsets) (seen a.store.known) image
  left_stand (mems last) image is = is
  left_stand (rowsets taken) image is = still _ a.store.meta.rowsets (seen a.store.known) image is

  may_be_lent : MayBeLent tells seen now leaves b.store (next_super b) → is_small job.last_mem ≡ true → IsWithin b.store.first.most (job_meta b job) → MayBeLent tells seen now leaves b.store (job_meta b job)
  may_be_lent next small within = record {
    next = record {
      rules = record {
        number = next.next.rules.number;
        a = next.next.rules.a;
        c = next.next.rules.c;
        need = next.next.rules.need;
        last_mem = last_small (takes_of job) refl small next.next.rules.last_mem;
        next_rowset = next.next.rules.next_rowset;
        next_file = next.next.rules.next_file;
        next_column = next.next.rules.next_column;
        count = next.next.rules.count;
        columns = next.next.rules.columns;
        schema = next.next.rules.schema;
        rowsets = may.named;
      };
      number = next.next.number;
      rowsets = next.next.rowsets;
      files = next.next.files;
    };
    within = within;
    files = λ told image stays. may.stand told image stays (left_stand (takes_of job) image (next.files told image stays));
  }

  pub hand_written : named_rowsets_tell → IsReady b → MergeIsWritten tells seen now leaves b n w
  hand_written told ready =
      let is = told out in
      record {
        outputs = out;
        has = has;
        want = may.want;
        may = record {
          at = has.at.at;
          output = has.at.output;
          calm = ready.calm;
          takes = has.at.takes;
          named = names_written out;
          from = subst (AreFrom job.first_rowset) (sym is) has.from;
          differ = subst NumbersDiffer (sym is) may.differ;
          given = subst (RowsetsBelow (before a.store.next_rowset job.last_mem)) (sym is) may.given;
          up = (has.at.given, may.small);
          first_dms = subst (AllByRecursion (λ (d : DiskRowset). d.last_dms ≡ 0)) (sym is) (no_dms out);
          hold = may.hold;
          holds = λ first found. subst (HoldInputs a.tablet (takes_of job)) (sym is) (may.holds first found);
          passes = λ t rules first content plan. subst (RowsetsPass rules) (sym is) (may.passes t rules first (record { closed = content.closed; opens = content.opens; holds = content.holds }) plan);
          lent = may_be_lent;
        };
        gives = record {
          taken = may.taken;
          made = may.made;
          merged = merged_same (IsFound a) (IsFound b) (λ past found. found) may.at.job job refl refl refl may.made may.merged;
          first = may.first;
          out = may.out;
          written = may.written;
          done = out;
          ends = ends_as (IsFound a) (IsFound b) (λ past found. found) job.want may.at.job job refl refl refl may.merged.inputs may.out out may.ends;
          from = has.from;
          metas = has.metas;
          held = has.held;
        };
      }

-- so it is of the engine that they were handed to
pub hand_in_written : {L D C : Type 0} (tells : Bool) (seen : D → Files) (now : D → ℕ) (leaves : D → ℕ → Files → Type 0) (n : ℕ) (w : Want) (a b : EngineView L D C) (out : List RowSetData) → MayHandIn tells seen now leaves a n w out
    → b ≡ record a { upkeep = b.upkeep } → ((j : JobView) → job_of n a.upkeep ≡ Some j → HandsIn n j out a b) → some_stand → named_rowsets_tell → IsReady b → MergeIsWritten tells seen now leaves b n w
hand_in_written {L} {D} {C} tells seen now leaves n w a b out may beside hands still told ready =
    subst (λ (v : EngineView L D C). MergeIsWritten tells seen now leaves v n w) (sym beside)
    (hand_written tells seen now leaves n w a b.upkeep out may (subst (λ (v : EngineView L D C). (j : JobView) → job_of n a.upkeep ≡ Some j → HandsIn n j out a v) beside hands) still told (subst IsReady beside ready))

-- which is what its want asks
pub written_by : {L D C : Type 0} (tells : Bool) (seen : D → Files) (now : D → ℕ) (leaves : D → ℕ → Files → Type 0) (v : EngineView L D C) (n : ℕ) (w : Want) → MergeIsWritten tells seen now leaves v n w → IsWrittenBy tells seen now leaves v n w
written_by tells seen now leaves v n w m = as_merge (MergeIsWritten tells seen now leaves v n w) (λ r. OneIsWritten tells seen now leaves v n w) w (subst IsMerge m.want m.has.at.want) m

-- once it is published the job has what was read of it
pub published_read : {L D C : Type 0} (n : ℕ) (job : JobView) (out : List RowSetData) (a b c : EngineView L D C) (r : Result (Unit {0}) MaintNo) → job_of n a.upkeep ≡ Some job → IsMerge job.want → HandsIn n job out a b
    → ((j : JobView) → job_of n b.upkeep ≡ Some j → OnOk r (IsPublished n j b c)) → OnOk r (KeepsRead n a.upkeep c.upkeep)
published_read n job out a b c r had merges hands published =
    let h = by_merge (HasHandedIn n job out a b) (λ x. HasHandedOne n job out a b) job.want merges hands in
    let written : JobView = record job { stage = stage.Written; metas = map (meta_in 0) out; held = map held_in out; room = h.room } in
    on_ok r (IsPublished n written b c)
    (λ p. record { its = job; had = had; job = record written { stage = stage.Published; super = p.number }; has = p.has; same = record { inputs = refl; times = (refl, refl) } }) (published written (ap (λ (u : UpkeepView). u.job) h.later.upkeep.own))
