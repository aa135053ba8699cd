-- A job on the files of one disk rowset that is outside the lock: its store may come home, and what it wrote may be handed in.
use Rattle.std.proofs.Common.{◌≡◌, ◌≤◌, ◌<◌, ◌+◌, ◌^◌, ℕ, suc, Bool, List, [], ◌∷◌, Option, Some, None, Result, Ok, Err, inl, inr, refl, sym, ap, subst, ◌∙◌, arith}
use Rattle.std.specs.Prelude.{IsTrue, IfErr, IfOk, OnOk, max}
use Rattle.std.proofs.Math.Nat.{le-max_left, le-max_right}
use Rattle.kt_disk.specs.Disk.{Files}
use Rattle.kt_base.specs.Causes.{Rose}
use Rattle.kt_history.specs.declared.changes.Delta.{Delta}
use Rattle.kt_rowfiles.specs.Files.{DiskRowset, records_for}
use Rattle.kt_diskrowset.specs.declared.data.RowSetData.{RowSetData}
use Rattle.kt_diskrowset.specs.Data.{files_in, held_in, store_in}
use Rattle.kt_diskrowset.specs.Held.{files_told}
use Rattle.kt_diskrowset.specs.Rowset.{HeldFiles}
use Rattle.kt_diskrowset.specs.Rows.{UndosLeadBack, store_with}
use Rattle.kt_diskrowset.proofs.Told.{told_with}
use Rattle.kt_files.specs.Reading.{HoldsRowset}
use Rattle.kt_merge.specs.Rewriting.{IsRewritten}
use Rattle.kt_outputs.specs.Outputs.{meta_in, AreStable, AreThere, HasLeft, IsWhole}
use Rattle.kt_outputs.specs.Rewriting.{HasNumbers, KeptStand}
use Rattle.kt_outputs.specs.declared.outputs.WriteNo.{WriteNo}
use Rattle.kt_outputs.specs.declared.outputs.WriteNo.TheVariants as write_no
use Rattle.kt_outputs.proofs.Written.{left_then}
use Rattle.kt_storeside.specs.declared.side.Lent.{Lent}
use Rattle.kt_storeside.specs.Sides.{StoreView, IsSide}
use Rattle.kt_pick.specs.declared.rules.Want.{Want}
use Rattle.kt_pick.specs.declared.rules.Want.TheVariants as want
use Rattle.kt_engine.specs.declared.job.Returned.{Returned}
use Rattle.kt_engine.specs.declared.job.Returned.TheVariants as returned
use Rattle.kt_engine.specs.declared.upkeep.Stage.TheVariants as stage
use Rattle.kt_engine.specs.Engines.{EngineView}
use Rattle.kt_engine.specs.Jobs.{JobView, UpkeepView, UpkeepsView, IsUnpublished, job_of}
use Rattle.kt_tablet.specs.Jobs.{files_of}
use Rattle.kt_engine.specs.DeltaJobs.{IsOn, IsRead, HasShape}
use Rattle.kt_engine.specs.JobSteps.{IsMerge}
use Rattle.kt_engine.specs.declared.again.MemsNow.{MemsNow}
use Rattle.kt_engine.specs.Near.{most_rowsets, most_files}
use Rattle.kt_engine.specs.Returning.{HasReread, ReturnsBy}
use Rattle.kt_engine.specs.Visits.{IsVisit, PartView, Root, lent_of, out_of, part_in}
use Rattle.kt_engine.proofs.Visiting.{root_stays}
use Rattle.kt_maint.specs.DeltaRuns.{DeltasAt, HasReadOne, HasRewritten, IsAwayOne, IsMade, IsOutWith, IsVacant, Leaves, MayHandOne}
use Rattle.kt_maint.specs.Outside.{HasAdded, KeepsRead, MayComeHome}
use Rattle.kt_maint.specs.Reworks.{HasComeOne, HaveNewFiles, IsPutOne, IsWrittenNow, IsWrittenOf}
use Rattle.kt_maint.specs.Runs.{LentToWrite, MayAbandon}
use Rattle.kt_maint.specs.declared.reworking.Made.{Made}
use Rattle.kt_maint.proofs.DeltaSteps.{made}
use Rattle.kt_maint.proofs.LateWritten.{IsOutsideFree, few_files, few_more, few_numbers, home_with, store_is}
use Rattle.kt_maint.proofs.Returns.{none_added}

-- ---- what is written

module _ {D : Type 0} (tells : Bool) (seen : D → Files) (now : D → ℕ) (leaves : D → ℕ → Files → Type 0) where
  -- how it went, as it is told of another answer
  pub added_as : {A B : Type 0} (faults : D → ℕ) (most : ℕ) (went came : Lent D) (r : Result A WriteNo) (q : Result B WriteNo) → (q ≡ Err write_no.Fault → r ≡ Err write_no.Fault) → HasAdded tells seen now leaves faults most went came r → HasAdded tells seen now leaves faults most went came q
  added_as faults most went came r q same h = record { meta = h.meta; up = h.up; risen = h.risen; few_files = h.few_files; left = h.left; faults_rise = h.faults_rise; rose = λ e. h.rose (same e) }

  -- from then on nothing was written
  pub still_added : {A : Type 0} (faults : D → ℕ) (most : ℕ) (lent : Lent D) (x : A) → HasAdded tells seen now leaves faults most lent lent (Ok x)
  still_added {A = A} faults most lent x = added_as faults most lent lent (Err write_no.Memory) (Ok x) (λ e. absurd cc) (none_added {A = A} tells seen now leaves faults most lent)

  -- the next numbers are free behind it
  pub vacant_then : {A : Type 0} (faults : D → ℕ) (most : ℕ) (went came : Lent D) (r : Result A WriteNo) → IsVacant tells seen went → HasAdded tells seen now leaves faults most went came r → IsVacant tells seen came
  vacant_then faults most went came r v h = record {
    vacant = λ t k low. (h.left t).reads k (inr low) ∙ v.vacant t k (let up = h.up.1 in omega arith);
    apart = (let up = h.up.1 in let low = v.apart in omega arith);
  }

-- with what it was made with
pub kept_files : (P : RowSetData → Type 0) (written : Result RowSetData WriteNo) (fresh read : List Delta) → fresh ≡ read → IfOk written P → (r : Result Made WriteNo) → IfOk r (λ (m : Made). (written ≡ Ok m.rowset) × (m.fresh ≡ fresh)) → IfOk r (λ (m : Made). (m.fresh ≡ read) × P m.rowset)
kept_files P written fresh read same h (Ok m) k = (k.1 ∙ same, subst (λ (x : Result RowSetData WriteNo). IfOk x P) k.0 h)
kept_files P written fresh read same h (Err e) k = tt

pub kept_fault : (written : Result RowSetData WriteNo) (r : Result Made WriteNo) → IfErr r (λ (no : WriteNo). written ≡ Err no) → r ≡ Err write_no.Fault → written ≡ Err write_no.Fault
kept_fault written r h e = subst (λ (x : Result Made WriteNo). IfErr x (λ (no : WriteNo). written ≡ Err no)) e h

-- the files are written
module _ {D : Type 0} (tells : Bool) (seen : D → Files) (now : D → ℕ) (leaves : D → ℕ → Files → Type 0) (went came : Lent D) (d : RowSetData) where
  pub new_files : (r : Result RowSetData WriteNo) → IfOk r (λ out. files_in out ≡ files_in d) → IfOk r (λ out. out.fresh ≡ []) → IfOk r (λ out. HasNumbers went.next_file came.next_file (held_in d) (held_in out))
      → IfOk r (λ out. IsTrue tells → (dms : ℕ) (files : Files) → AreThere went.next_file came.next_file (seen came.device) files → KeptStand files d → HoldsRowset files (meta_in dms out) (held_in out))
      → OnOk r (IsTrue tells → AreStable seen now leaves went.next_file came.next_file came.device) → IfOk r (λ out. HaveNewFiles tells seen now leaves went came d out)
  new_files (Ok out) same fresh numbered holds stable = record { same = same; fresh = fresh; numbered = numbered; holds = λ t kept dms. holds t dms (seen came.device) (λ k lo hi. refl) kept; stable = stable }
  new_files (Err x) same fresh numbered holds stable = tt

-- of what was made of what was read
pub written_of : {D : Type 0} (tells : Bool) (seen : D → Files) (now : D → ℕ) (leaves : D → ℕ → Files → Type 0) (w : Want) (read made : RowSetData) (went came : Lent D) → IsRewritten read made → HasShape w made → Leaves w (held_in read) (held_in made) → IsWhole made → (r : Result RowSetData WriteNo)
    → IfOk r (λ out. HaveNewFiles tells seen now leaves went came made out) → IfOk r (λ out. IsWrittenOf tells seen now leaves w read went came out)
written_of tells seen now leaves w read made went came same shape leave whole (Ok out) files = record { made = made; same = same; shape = shape; leave = leave; whole = whole; files = files }
written_of tells seen now leaves w read made went came same shape leave whole (Err x) files = tt

-- ---- the store comes home

module _ {L D C : Type 0} (n most : ℕ) (went : Lent D) (e : EngineView L D C) (out : IsOutWith n most went (part_in e n)) where
  with_store : e.store ≡ out.store
  with_store = store_is e.store.holder e.store out.store n out.has

  pub with_lent : LentToWrite n e.store went
  with_lent = subst (λ (s : StoreView D). LentToWrite n s went) (sym with_store) out.to_write

  with_near : e.store.next_rowset < e.first_rowset + 2 ^ 44
  with_near = subst (λ (s : StoreView D). s.next_rowset < e.first_rowset + 2 ^ 44) (sym with_store) out.near

  with_most : most ≤ e.first_file + most_files
  with_most =
      let low = subst (λ (s : StoreView D). s.next_file < e.first_file + 2 ^ 44) (sym with_store) out.near_files in
      let few = out.few_files in
      let same = with_lent.numbers.1 in
      omega arith

  pub log_out : out_of e.log.holder e.log.out n ≡ None
  log_out = out.log

  module _ (tells : Bool) (seen : D → Files) (now : D → ℕ) (leaves : D → ℕ → Files → Type 0) (faults : D → ℕ) where
    pub with_home : {A : Type 0} (came : Lent D) (r : Result A WriteNo) → HasAdded tells seen now leaves faults most went came r → MayComeHome tells seen now leaves faults e.first_rowset e.first_file e.store came
    with_home came r w = record {
      whole = with_lent.whole;
      meta = (w.meta ∙ with_lent.meta.0, with_lent.meta.1);
      up = ((let a = w.up.0 in let b = with_lent.numbers.0 in omega arith), (let a = w.up.1 in let b = with_lent.numbers.1 in omega arith));
      left = λ told. subst (λ (d : D). HasLeft seen now leaves e.store.next_file came.next_file d came.device) with_lent.device
          (subst (λ (k : ℕ). HasLeft seen now leaves k came.next_file went.device came.device) with_lent.numbers.1 (w.left told));
      faults_rise = subst (λ (d : D). faults d ≤ faults came.device) with_lent.device w.faults_rise;
      near = few_numbers e.first_rowset e.store.next_rowset went.next_rowset came.next_rowset with_near with_lent.numbers.0 w.risen;
      near_files = few_files e.first_file e.store.next_file went.next_file came.next_file most with_lent.numbers.1 with_most w.few_files;
    }

    -- with what was written to it later too
    pub with_both : {A B : Type 0} (mid came : Lent D) (q : Result A WriteNo) (r : Result B WriteNo) → HasAdded tells seen now leaves faults most went mid q → HasAdded tells seen now leaves faults most mid came r → MayComeHome tells seen now leaves faults e.first_rowset e.first_file e.store came
    with_both mid came q r w added =
        let may = with_home mid q w in
        record {
          whole = may.whole;
          meta = (added.meta ∙ may.meta.0, may.meta.1);
          up = ((let a = may.up.0 in let b = added.up.0 in omega arith), (let a = may.up.1 in let b = added.up.1 in omega arith));
          left = λ told. left_then seen now leaves e.store.next_file mid.next_file came.next_file e.store.known mid.device came.device may.up.1 added.up.1 (may.left told) (added.left told);
          faults_rise = (let a = may.faults_rise in let b = added.faults_rise in omega arith);
          near = few_more e.first_rowset e.store.next_rowset went.next_rowset mid.next_rowset came.next_rowset with_near with_lent.numbers.0 w.risen added.risen;
          near_files = (
              let low = with_most in
              let near = may.near_files in
              let few = added.few_files in
              let right = le-max_right e.store.next_file (e.first_file + most_files) in
              omega (arith, low, near, few, right));
        }

-- behind a step of the log alone
out_then : {L D C : Type 0} (n most : ℕ) (went : Lent D) (a b : EngineView L D C) → IsVisit n a b → b.store ≡ a.store → b.log.holder ≡ None → IsOutWith n most went (part_in a n) → IsOutWith n most went (part_in b n)
out_then {L} {D} {C} n most went a b visit store home w =
    let root = root_stays n a b visit in
    record {
      log = ap (λ h. out_of h b.log.out n) home;
      store = w.store;
      has = ap (λ (s : StoreView D). lent_of s.holder s n) store ∙ w.has;
      to_write = w.to_write;
      near = subst (λ (x : Root L D C). suc w.store.next_rowset ≤ x.first_rowset + 2 ^ 44) (sym root) w.near;
      near_files = subst (λ (x : Root L D C). suc w.store.next_file ≤ x.first_file + 2 ^ 44) (sym root) w.near_files;
      few_files = w.few_files;
    }

pub come_one_then : {L D C : Type 0} (tells : Bool) (seen : D → Files) (now : D → ℕ) (leaves : D → ℕ → Files → Type 0) (faults : D → ℕ) (n : ℕ) (w : Want) (most : ℕ) (lent : Lent D) (r : Result Made WriteNo) (a b : EngineView L D C) → IsVisit n a b → b.store ≡ a.store → b.upkeep ≡ a.upkeep → b.log.holder ≡ None
    → HasComeOne tells seen now leaves faults n w most lent r (part_in a n) → HasComeOne tells seen now leaves faults n w most lent r (part_in b n)
come_one_then tells seen now leaves faults n w most lent r a b visit store upkeep home c =
    let x = c.away in
    record {
      out = c.out;
      away = record {
        out_with = out_then n c.out.most c.out.lent a b visit store home x.out_with;
        vacant = x.vacant;
        job = x.job;
        own = ap (job_of n) upkeep ∙ x.own;
        at = x.at;
        want = x.want;
        on = x.on;
        read = x.read;
      };
      most_is = c.most_is;
      written = c.written;
    }

-- ---- it comes back

module _ {L D C : Type 0} (tells : Bool) (seen : D → Files) (now : D → ℕ) (leaves : D → ℕ → Files → Type 0) (faults : D → ℕ) (n : ℕ) (w : Want) (most : ℕ) (lent : Lent D) (r : Result Made WriteNo) (e : EngineView L D C)
    (come : HasComeOne tells seen now leaves faults n w most lent r (part_in e n)) where
  its_out : IsOutWith n most come.out.lent (part_in e n)
  its_out = subst (λ (k : ℕ). IsOutWith n k come.out.lent (part_in e n)) (sym come.most_is) come.away.out_with

  pub one_log : out_of e.log.holder e.log.out n ≡ None
  one_log = log_out n most come.out.lent e its_out

  pub one_lent : LentToWrite n e.store come.out.lent
  one_lent = with_lent n most come.out.lent e its_out

  pub one_home : MayComeHome tells seen now leaves faults e.first_rowset e.first_file e.store lent
  one_home = with_home n most come.out.lent e its_out tells seen now leaves faults lent r come.written.added

  pub one_home_then : {A : Type 0} (came : Lent D) (q : Result A WriteNo) → HasAdded tells seen now leaves faults most lent came q → MayComeHome tells seen now leaves faults e.first_rowset e.first_file e.store came
  one_home_then came q added = with_both n most come.out.lent e its_out tells seen now leaves faults lent came r q come.written.added added

  pub one_vacant : IsVacant tells seen lent
  one_vacant = vacant_then tells seen now leaves faults most come.out.lent lent r come.away.vacant come.written.added

  -- no superblock goes out while the job is outside
  pub one_give_up : IsOutsideFree n e → MayAbandon e n
  one_give_up free = record { job = come.away.job; has = come.away.own; early = subst IsUnpublished (sym come.away.at) tt; free = free come.away.job come.away.own come.away.at }

  pub one_want : (job : JobView) → job_of n e.upkeep ≡ Some job → w ≡ job.want
  one_want job has = sym come.away.want.0 ∙ ap (λ (j : JobView). j.want) (let same : come.away.job ≡ job = one_job come.away.job job (sym come.away.own ∙ has) in same)
    where
      one_job : (x y : JobView) → Some x ≡ Some y → x ≡ y
      one_job x y e = cc

-- what is handed out of a job on a disk rowset is that
pub reread_as : {L D C : Type 0} (tells : Bool) (seen : D → Files) (n : ℕ) (job : JobView) (d : RowSetData) (r : Returned) (a b : EngineView L D C) (w : Want) (k : ℕ) → IsOn k w → r ≡ returned.Rowset d → ReturnsBy w tells seen n job r a b → HasReread tells seen n job d a b
reread_as tells seen n job d r a b w k on is back = by w on (subst (λ (x : Returned). ReturnsBy w tells seen n job x a b) is back)
  where
    by : (x : Want) → IsOn k x → ReturnsBy x tells seen n job (returned.Rowset d) a b → HasReread tells seen n job d a b
    by want.Flush o h = absurd o
    by (want.Compact taken) o h = absurd o
    by (want.FlushDeltas s) o h = h
    by (want.Minor s) o h = h
    by (want.Major s) o h = h

-- and nothing else
pub not_rowsets : {L D C : Type 0} (tells : Bool) (seen : D → Files) (n : ℕ) (job : JobView) (list : List RowSetData) (r : Returned) (a b : EngineView L D C) (w : Want) (k : ℕ) → IsOn k w → r ≡ returned.Rowsets list → ReturnsBy w tells seen n job r a b → ⊥
not_rowsets tells seen n job list r a b w k on is back = by w on (subst (λ (x : Returned). ReturnsBy w tells seen n job x a b) is back)
  where
    by : (x : Want) → IsOn k x → ReturnsBy x tells seen n job (returned.Rowsets list) a b → ⊥
    by want.Flush o h = o
    by (want.Compact taken) o h = o
    by (want.FlushDeltas s) o h = h
    by (want.Minor s) o h = h
    by (want.Major s) o h = h

pub not_mems : {L D C : Type 0} (tells : Bool) (seen : D → Files) (n : ℕ) (job : JobView) (m : MemsNow) (r : Returned) (a b : EngineView L D C) (w : Want) (k : ℕ) → IsOn k w → r ≡ returned.Mems m → ReturnsBy w tells seen n job r a b → ⊥
not_mems tells seen n job m r a b w k on is back = by w on (subst (λ (x : Returned). ReturnsBy w tells seen n job x a b) is back)
  where
    by : (x : Want) → IsOn k x → ReturnsBy x tells seen n job (returned.Mems m) a b → ⊥
    by want.Flush o h = o
    by (want.Compact taken) o h = o
    by (want.FlushDeltas s) o h = h
    by (want.Minor s) o h = h
    by (want.Major s) o h = h

-- one that merges hands out no disk rowset by itself
pub not_one : {L D C : Type 0} (tells : Bool) (seen : D → Files) (n : ℕ) (job : JobView) (d : RowSetData) (r : Returned) (a b : EngineView L D C) (w : Want) → IsMerge w → r ≡ returned.Rowset d → ReturnsBy w tells seen n job r a b → ⊥
not_one tells seen n job d r a b w merges is back = by w merges (subst (λ (x : Returned). ReturnsBy w tells seen n job x a b) is back)
  where
    by : (x : Want) → IsMerge x → ReturnsBy x tells seen n job (returned.Rowset d) a b → ⊥
    by want.Flush o h = h
    by (want.Compact taken) o h = h
    by (want.FlushDeltas s) o h = o
    by (want.Minor s) o h = o
    by (want.Major s) o h = o

module _ {L D C : Type 0} (tells : Bool) (seen : D → Files) (n : ℕ) (w : Want) (job : JobView) (now_read : RowSetData) (a b : EngineView L D C) (had : job_of n a.upkeep ≡ Some job) (wants : job.want ≡ w) (on : IsOn job.rowset w) (back : HasReread tells seen n job now_read a b) where
  -- the job has come back
  abbrev later : JobView
  later = record job { stage = stage.Read; dms = back.dms; read = Some now_read }

  at_read : DeltasAt b n w stage.Read
  at_read = record { job = later; has = ap (λ (u : UpkeepView). u.job) back.at.upkeep.own; at = refl; want = wants; on = on; free = back.free; begun = back.begun }

  same_tablet : b.tablet ≡ a.tablet
  same_tablet = ap (λ (v : EngineView L D C). v.tablet) back.at.beside

  pub read_again : HasReadOne b n w now_read
  unfolding at_read
  read_again = record {
    at = at_read;
    read = refl;
    is = subst (λ t. IsRead t job.rowset back.dms now_read) (sym same_tablet) back.is;
    held = subst (λ t. files_of now_read.number t.files ≡ Some (held_in now_read)) (sym same_tablet) back.held;
  }

  pub reread_on : IsOn now_read.number w
  reread_on = subst (λ (k : ℕ). IsOn k w) (sym back.is.number) on

  pub reread_abandon : MayAbandon b n
  unfolding at_read
  reread_abandon = record { job = later; has = at_read.has; early = tt; free = back.free }

  pub reread_reads : KeepsRead n a.upkeep b.upkeep
  unfolding at_read
  reread_reads = record { its = job; had = had; job = later; has = at_read.has; same = record { inputs = refl; times = (refl, refl) } }

-- with the same changes in memory, in the same files, it is as it was read
pub as_read : (read now : RowSetData) → held_in now ≡ held_in read → now.fresh ≡ read.fresh → (d : RowSetData) → IsRewritten read d → IsRewritten now d
as_read read now same fresh d h = record {
  number = h.number ∙ sym (ap (λ (x : HeldFiles). x.number) same);
  store = h.store ∙ sym store;
  fresh = h.fresh;
  lead = λ l. h.lead (subst UndosLeadBack files l);
}
  where
    files : files_in now ≡ files_in read
    files = told_with now.number now.base now.undo now.redo ∙ ap files_told same ∙ sym (told_with read.number read.base read.undo read.redo)

    store : store_in now ≡ store_in read
    store = (λ k. store_with (files k) (λ m. records_for m (fresh k)))

-- ---- it may be handed in

module _ {L D C : Type 0} (tells : Bool) (seen : D → Files) (now : D → ℕ) (leaves : D → ℕ → Files → Type 0) (n : ℕ) (w : Want) (read : RowSetData) (went came : Lent D) (out : RowSetData) (a b : EngineView L D C) where
  pub put_one : b ≡ record a { upkeep = b.upkeep } → KeepsRead n a.upkeep b.upkeep → HasReadOne b n w read → a.store.next_file ≤ went.next_file → IsWrittenOf tells seen now leaves w read went came out → IsPutOne tells seen now leaves n w came out a b
  put_one beside reads has low h = record {
    beside = beside;
    reads = reads;
    d = h.made;
    made = made n w b read h.made has h.same h.shape h.whole h.leave;
    first = went.next_file;
    low = low;
    same = h.files.same;
    fresh = h.files.fresh;
    numbered = h.files.numbered;
    holds = h.files.holds;
    stable = h.files.stable;
  }

-- as it was written outside, where it is as it was read
pub put_first : {L D C : Type 0} (tells : Bool) (seen : D → Files) (now : D → ℕ) (leaves : D → ℕ → Files → Type 0) (n : ℕ) (w : Want) (first read : RowSetData) (went came : Lent D) (out : RowSetData) (a b : EngineView L D C) → held_in read ≡ held_in first → read.fresh ≡ first.fresh
    → b ≡ record a { upkeep = b.upkeep } → KeepsRead n a.upkeep b.upkeep → HasReadOne b n w read → a.store.next_file ≤ went.next_file → IsWrittenOf tells seen now leaves w first went came out → IsPutOne tells seen now leaves n w came out a b
put_first tells seen now leaves n w first read went came out a b same fresh beside reads has low h =
    let p = put_one tells seen now leaves n w read went came out a b beside reads has low
    (record { made = h.made; same = as_read first read same fresh h.made h.same; shape = h.shape; leave = subst (λ (x : HeldFiles). Leaves w x (held_in h.made)) (sym same) h.leave; whole = h.whole; files = h.files }) in
    record { beside = p.beside; reads = p.reads; d = p.d; made = p.made; first = p.first; low = p.low; same = p.same; fresh = p.fresh; numbered = p.numbered; holds = p.holds; stable = p.stable }

-- it is back with its rowset as it is now
module _ {L D C : Type 0} (tells : Bool) (seen : D → Files) (now : D → ℕ) (leaves : D → ℕ → Files → Type 0) (faults : D → ℕ) (n : ℕ) (w : Want) (most : ℕ) (lent : Lent D) (m : Made) (e : EngineView L D C) (come : HasComeOne tells seen now leaves faults n w most lent (Ok m) (part_in e n)) (job : JobView)
    (own : job_of n e.upkeep ≡ Some job) (wants : job.want ≡ w) (on : IsOn job.rowset w) (read : job.read ≡ Some come.out.rowset) (d : RowSetData) (b : EngineView L D C) (back : HasReread tells seen n job d e b) (came : Lent D) where
  went_low : e.store.next_file ≤ come.out.lent.next_file
  went_low = let same = (one_lent tells seen now leaves faults n w most lent (Ok m) e come).numbers.1 in omega arith

  lent_low : e.store.next_file ≤ lent.next_file
  lent_low = let low = went_low in let up = come.written.added.up.1 in omega arith

  first_read : held_in d ≡ held_in come.out.rowset
  first_read = back.same ∙ ap held_in (one_of back.was come.out.rowset (sym back.read ∙ read))
    where
      one_of : (x y : RowSetData) → Some x ≡ Some y → x ≡ y
      one_of x y e = cc

  pub put_now : (out : RowSetData) → IsWrittenNow tells seen now leaves w d m lent came out → IsPutOne tells seen now leaves n w came out e b
  put_now out (inl kept) =
      subst (λ (x : RowSetData). IsPutOne tells seen now leaves n w came x e b) (sym kept.1)
      (subst (λ (l : Lent D). IsPutOne tells seen now leaves n w l m.rowset e b) (sym kept.2)
      (put_first tells seen now leaves n w come.out.rowset d come.out.lent lent m.rowset e b first_read (kept.0 ∙ come.written.files.0) back.at.beside (reread_reads tells seen n w job d e b own wants on back) (read_again tells seen n w job d e b own wants on back) went_low come.written.files.1))
  put_now out (inr anew) = put_one tells seen now leaves n w d lent came out e b back.at.beside (reread_reads tells seen n w job d e b own wants on back) (read_again tells seen n w job d e b own wants on back) lent_low anew

-- the store is home
module _ {L D C : Type 0} (tells : Bool) (seen : D → Files) (now : D → ℕ) (leaves : D → ℕ → Files → Type 0) (faults : D → ℕ) (n : ℕ) (w : Want) (came : Lent D) (out : RowSetData) (a b c : EngineView L D C) (side : IsSide tells seen now leaves faults a.store)
    (put : IsPutOne tells seen now leaves n w came out a b) (home : c ≡ record b { store = home_with b.store came }) where
  its_made : IsMade (record b { store = home_with b.store came }) n w put.d
  its_made =
      let m = put.made in
      let at = m.at in
      record {
        at = record { job = at.job; has = at.has; at = at.at; want = at.want; on = at.on; free = at.free; begun = at.begun };
        all = m.all;
        shape = m.shape;
        was = m.was;
        there = m.there;
        leaves = m.leaves;
        read = m.read;
        has_read = m.has_read;
        same = m.same;
        lead = m.lead;
        whole = m.whole;
      }

  pub may_hand : MayHandOne tells seen now leaves c n w out
  may_hand =
      let low : b.store.meta.next_file ≤ put.first = (let x = side.files in let y = put.low in let same = ap (λ (v : EngineView L D C). v.store.meta.next_file) put.beside in omega (arith, x, y, same)) in
      subst (λ (v : EngineView L D C). MayHandOne tells seen now leaves v n w out) (sym home) (record {
        d = put.d;
        made = its_made;
        files = record { same = put.same; fresh = put.fresh; first = put.first; low = low; numbered = put.numbered; holds = put.holds; stable = put.stable };
      })
