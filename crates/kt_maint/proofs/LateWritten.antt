-- What came to the disk rowsets of a compaction is put into its outputs and written: these may be handed in.
use Rattle.std.proofs.Common.{◌≡◌, ◌≢◌, ◌≤◌, ◌<◌, ◌+◌, ◌++◌, ◌^◌, ℕ, suc, Bool, true, false, cond, inl, Result, Ok, List, [], ◌∷◌, length, map, Option, Some, None, refl, sym, ap, subst, ◌∙◌, arith}
use Rattle.std.specs.Prelude.{IsTrue, ◌==◌, max}
use Rattle.std.proofs.Math.Nat.{le-max_left, le-max_right}
use Rattle.kt_base.specs.Causes.{Rose}
use Rattle.kt_disk.specs.Disk.{Files}
use Rattle.kt_history.specs.History.{Past}
use Rattle.kt_history.specs.Stores.{Hist}
use Rattle.kt_histlaws.specs.Fitting.{AreSound}
use Rattle.kt_histlaws.specs.Flights.{AllUnder}
use Rattle.kt_histlaws.specs.Histories.{hists}
use Rattle.kt_histlaws.specs.Jobs.{AreAlike}
use Rattle.kt_rowfiles.specs.Files.{hist_in_files}
use Rattle.kt_rowfiles.specs.Merging.{joined_history}
use Rattle.kt_content.specs.Flushes.{before}
use Rattle.kt_content.specs.Rules.{Rules, HistPasses, RowsetsPass}
use Rattle.kt_super.specs.Rowsets.{AreRowsets}
use Rattle.kt_super.specs.declared.meta.MetaRowset.{MetaRowset}
use Rattle.kt_files.specs.Named.{HasNamed}
use Rattle.kt_files.specs.Reading.{HoldAll}
use Rattle.kt_diskrowset.specs.declared.data.RowSetData.{RowSetData}
use Rattle.kt_diskrowset.specs.declared.inputs.Inputs.{Inputs}
use Rattle.kt_diskrowset.specs.declared.inputs.Outputs.{Outputs}
use Rattle.kt_diskrowset.specs.Data.{files_in, held_in}
use Rattle.kt_joblaws.specs.Apart.{AreApart}
use Rattle.kt_joblaws.specs.DeltaJobs.{a_rowset_of_passing_histories_passes, histories_of_passing_rowsets_pass}
use Rattle.kt_joblaws.specs.Late.{AllHaveLater, hists_now, hists_written as hists_in_files_of, late_outputs_are_alike, a_late_output_passes, outputs_have_a_key_once}
use Rattle.kt_joblaws.specs.Outputs.{outputs_pass, marks_may_rise}
use Rattle.kt_joblaws.specs.Written.{written_rowsets_are_the_same, written_rowsets_pass}
use Rattle.kt_merge.specs.Late.{AllTellLate}
use Rattle.kt_merge.specs.Merge.{hists_of, hists_upto, hists_written}
use Rattle.kt_outputs.specs.Again.{late_files_may_be_named, late_files_stand, others_hold_beside_late_files}
use Rattle.kt_outputs.specs.Fewer.{some_may_be_named}
use Rattle.kt_outputs.specs.Named.{outputs_come_behind, outputs_stand}
use Rattle.kt_outputs.specs.Outputs.{meta_in, all_file_numbers, AreStable, AreWritten, CountUp, HasLeft}
use Rattle.kt_outputs.specs.declared.outputs.WriteNo.{WriteNo}
use Rattle.kt_outputs.proofs.Written.{left_then, stable_then}
use Rattle.kt_storeside.specs.declared.side.Lent.{Lent}
use Rattle.kt_storeside.specs.Sides.{StoreView, IsSide}
use Rattle.kt_storeside.proofs.Named.{first_file}
use Rattle.kt_stores.specs.Takes.{Takes, mems, rowsets as disks}
use Rattle.kt_tablet.specs.Jobs.{taken_stores}
use Rattle.kt_pick.specs.declared.rules.Want.{Want}
use Rattle.kt_pick.specs.declared.rules.Want.TheVariants as want
use Rattle.kt_engine.specs.declared.job.JobInput.{JobInput}
use Rattle.kt_engine.specs.declared.upkeep.Stage.TheVariants as stage
use Rattle.kt_engine.specs.Engines.{EngineView, IsFound, IsContent}
use Rattle.kt_engine.specs.JobMeta.{metas_left}
use Rattle.kt_engine.specs.Jobs.{JobView, UpkeepView, UpkeepsView, IsUnpublished, job_of, takes_by, takes_of, taken_by}
use Rattle.kt_engine.specs.JobSteps.{IsMerge, HoldInputs, TakesBy}
use Rattle.kt_engine.specs.Logged.{PlanPasses}
use Rattle.kt_engine.specs.Near.{first_number, most_files, most_rowsets}
use Rattle.kt_engine.specs.Outside.{job_back}
use Rattle.kt_engine.specs.Returning.{HasReturned}
use Rattle.kt_engine.specs.Visits.{IsVisit, Root, lent_of, part_in}
use Rattle.kt_engine.proofs.TakenRead.{whole_hists}
use Rattle.kt_engine.proofs.Visiting.{root_stays}
use Rattle.kt_maint.specs.Done.{AreMerged, EndsWith}
use Rattle.kt_maint.specs.JobRuns.{MayHandIn}
use Rattle.kt_maint.specs.Outside.{span_of, HaveFiles, HasCome, HasAdded, IsPutIn, MayComeHome}
use Rattle.kt_maint.specs.Runs.{JobIsAt, LentToWrite, MayAbandon, is_pass}
use Rattle.kt_maint.proofs.Calling.{out_none}
use Rattle.kt_maint.proofs.LateLists.{again_files, again_fresh, numbers_stay, from_same, below_same, differ_same, once_written, outputs_rise, late_pass, now_is}
use Rattle.kt_maint.proofs.Merged.{merged_same, written_is}
use Rattle.kt_maint.proofs.RowsetsMore.{rowsets_more}
use Rattle.kt_maint.proofs.Stages.{some_is, is_at_then}
use Rattle.kt_maint.proofs.Written.{from_written, differ_written, below_written}

-- ---- what a pass has out

-- the store of the engine is the one that its part tells
pub store_is : {S : Type 0} (holder : Option ℕ) (known s : S) (n : ℕ) → lent_of holder known n ≡ Some s → known ≡ s
store_is None known s n e = absurd cc
store_is (Some by) known s n e = elim (by == n) as (λ b. cond b (Some known) None ≡ Some s → known ≡ s) [ true ↦ λ h. some_is known s h | false ↦ λ h. absurd cc ] e

-- nothing is published while a job of a pass is outside
abbrev pub IsOutsideFree : {L D C : Type 0} → ℕ → EngineView L D C → Type 0
IsOutsideFree n v = (job : JobView) → job_of n v.upkeep ≡ Some job → job.stage ≡ stage.Outside → v.upkeep.publishing ≡ None

-- ---- the wants of a compaction

pub merges_compact : (w : Want) (taken : List ℕ) → w ≡ want.Compact taken → IsMerge w
merges_compact w taken is = subst IsMerge (sym is) tt

pub taken_of_compact : (w : Want) (taken : List ℕ) → w ≡ want.Compact taken → taken ≡ taken_by w
taken_of_compact w taken is = sym (ap taken_by is)

some_taken : {L D C : Type 0} (v : EngineView L D C) (job : JobView) (w : Want) (taken : List ℕ) → w ≡ want.Compact taken → TakesBy v job w → job.taken ≢ []
some_taken v job w taken is t = (subst (TakesBy v job) is t).1.some

takes_some : (taken : List ℕ) (last : ℕ) → taken ≢ [] → takes_by taken last ≡ disks taken
takes_some [] last some = absurd (some refl)
takes_some (r ∷ taken) last some = refl

-- ---- the store comes home with what was written

abbrev pub home_with : {D : Type 0} → StoreView D → Lent D → StoreView D
home_with s lent = record s { home = Some lent.device; known = lent.device; holder = None; lent = None; next_rowset = lent.next_rowset; next_file = lent.next_file; whole = true }

-- not too many rowset numbers are used
pub few_numbers : (first store went came : ℕ) → store < first + 2 ^ 44 → went ≡ store → came ≤ went + 2 ^ 31 → came ≤ max store (first + most_rowsets)
few_numbers first store went came near is risen = let right = le-max_right store (first + most_rowsets) in omega (arith, near, is, risen, right)

pub few_files : (first store went came most : ℕ) → went ≡ store → most ≤ first + most_files → came ≤ max went most → came ≤ max store (first + most_files)
few_files first store went came most is low up = let left = le-max_left store (first + most_files) in let right = le-max_right store (first + most_files) in omega (arith, is, low, up, left, right)

module _ {L D C : Type 0} (tells : Bool) (seen : D → Files) (now : D → ℕ) (leaves : D → ℕ → Files → Type 0) (faults : D → ℕ) (n bound most : ℕ) (lent : Lent D) (r : Result Outputs WriteNo) (e : EngineView L D C)
    (come : HasCome tells seen now leaves faults n bound most lent r (part_in e n)) where
  its_store : e.store ≡ come.away.store
  its_store = store_is e.store.holder e.store come.away.store n come.away.has

  pub went_out : LentToWrite n e.store come.out.lent
  went_out = subst (λ (s : StoreView D). LentToWrite n s come.out.lent) (sym its_store) come.away.lent

  pub its_near : e.store.next_rowset < e.first_rowset + 2 ^ 44
  its_near = subst (λ (s : StoreView D). s.next_rowset < e.first_rowset + 2 ^ 44) (sym its_store) come.away.near

  -- and not too many file numbers may be
  pub its_most : most ≤ e.first_file + most_files
  its_most =
      let low = subst (λ (s : StoreView D). s.next_file < e.first_file + 2 ^ 44) (sym its_store) come.away.near_files in
      let few = come.away.few_files in
      let same = come.most_is in
      let went = went_out.numbers.1 in
      omega arith

  pub may_come_home : MayComeHome tells seen now leaves faults e.first_rowset e.first_file e.store lent
  may_come_home =
      let went = went_out in
      let w = come.written in
      record {
        whole = went.whole;
        meta = (w.meta ∙ went.meta.0, went.meta.1);
        up = ((let a = w.up.0 in let b = went.numbers.0 in omega arith), (let a = w.up.1 in let b = went.numbers.1 in omega arith));
        left = λ told. subst (λ (d : D). HasLeft seen now leaves e.store.next_file lent.next_file d lent.device) went.device
            (subst (λ (k : ℕ). HasLeft seen now leaves k lent.next_file come.out.lent.device lent.device) went.numbers.1 (w.left told));
        faults_rise = subst (λ (d : D). faults d ≤ faults lent.device) went.device w.faults_rise;
        near = few_numbers e.first_rowset e.store.next_rowset come.out.lent.next_rowset lent.next_rowset its_near went.numbers.0 w.risen;
        near_files = few_files e.first_file e.store.next_file come.out.lent.next_file lent.next_file most went.numbers.1 its_most w.few_files;
      }

  -- no superblock goes out while the job is outside
  pub may_give_up : IsOutsideFree n e → MayAbandon e n
  may_give_up free = record { job = come.away.job; has = come.away.own; early = subst IsUnpublished (sym come.away.at) tt; free = free come.away.job come.away.own come.away.at }

pub few_more : (first store went lent came : ℕ) → store < first + 2 ^ 44 → went ≡ store → lent ≤ went + 2 ^ 31 → came ≤ lent + 2 ^ 31 → came ≤ max store (first + most_rowsets)
few_more first store went lent came near is risen more = let right = le-max_right store (first + most_rowsets) in omega (arith, near, is, risen, more, right)

-- and with what came later
pub home_then : {L D C : Type 0} (tells : Bool) (seen : D → Files) (now : D → ℕ) (leaves : D → ℕ → Files → Type 0) (faults : D → ℕ) (n bound most : ℕ) (lent came : Lent D) (w r : Result Outputs WriteNo) (e : EngineView L D C)
    → HasCome tells seen now leaves faults n bound most lent w (part_in e n) → HasAdded tells seen now leaves faults most lent came r → MayComeHome tells seen now leaves faults e.first_rowset e.first_file e.store came
home_then tells seen now leaves faults n bound most lent came w r e come added =
    let may = may_come_home tells seen now leaves faults n bound most lent w e come in
    record {
      whole = may.whole;
      meta = (added.meta ∙ may.meta.0, may.meta.1);
      up = ((let a = may.up.0 in let b = added.up.0 in omega arith), (let a = may.up.1 in let b = added.up.1 in omega arith));
      left = λ told. left_then seen now leaves e.store.next_file lent.next_file came.next_file e.store.known lent.device came.device may.up.1 added.up.1 (may.left told) (added.left told);
      faults_rise = (let a = may.faults_rise in let b = added.faults_rise in omega arith);
      near = few_more e.first_rowset e.store.next_rowset come.out.lent.next_rowset lent.next_rowset came.next_rowset (its_near tells seen now leaves faults n bound most lent w e come) (went_out tells seen now leaves faults n bound most lent w e come).numbers.0 come.written.risen added.risen;
      near_files = (
          let low = its_most tells seen now leaves faults n bound most lent w e come in
          let near = may.near_files in
          let few = added.few_files in
          let right = le-max_right e.store.next_file (e.first_file + most_files) in
          omega (arith, low, near, few, right));
    }

module _ {L D C : Type 0} (tells : Bool) (seen : D → Files) (now : D → ℕ) (leaves : D → ℕ → Files → Type 0) (faults : D → ℕ) (n bound most : ℕ) (lent came : Lent D) (outs : Outputs) (done : List RowSetData) (r : Result Outputs WriteNo) (e : EngineView L D C) (u : UpkeepsView)
    (come : HasCome tells seen now leaves faults n bound most lent (Ok outs) (part_in e n)) (side : IsSide tells seen now leaves faults e.store) (added : HasAdded tells seen now leaves faults most lent came r)
    (put : IsPutIn tells seen now leaves n bound lent came come.away.job outs.rowsets done e (record e { upkeep = u })) (small : bound < 2 ^ 64) (asked : List ℕ) (is : come.away.job.want ≡ want.Compact asked) where
  abbrev pub e1 : EngineView L D C
  e1 = record e { upkeep = u }

  abbrev pub e2 : EngineView L D C
  e2 = record e { store = home_with e.store came; upkeep = u }

  abbrev pub input : JobInput
  input = come.out.input

  abbrev pub out : List RowSetData
  out = outs.rowsets

  abbrev pub job : JobView
  job = come.away.job

  pub went : LentToWrite n e.store come.out.lent
  went = went_out tells seen now leaves faults n bound most lent (Ok outs) e come

  pub files : HaveFiles tells seen now leaves input come.out.lent lent out
  files = come.written.files

  abbrev pub made : List RowSetData
  made = files.made

  pub home : MayComeHome tells seen now leaves faults e.first_rowset e.first_file e.store lent
  home = may_come_home tells seen now leaves faults n bound most lent (Ok outs) e come

  abbrev pub back : HasReturned tells n job put.list e e1
  back = put.back

  abbrev pub its : JobView
  its = job_back back.many (first_number e.tablet.names) put.list job

  pub compacts : job.want ≡ want.Compact job.taken
  compacts = is ∙ ap want.Compact (sym (come.away.want.2 ∙ ap taken_by (sym come.away.want.0 ∙ is)))

  -- ---- its job is back

  pub given : job.first_rowset ≤ e.store.next_rowset
  given = subst (λ (s : StoreView D). job.first_rowset ≤ s.next_rowset) (sym (store_is e.store.holder e.store come.away.store n come.away.has)) come.away.given

  pub at_back : JobIsAt e1 n stage.Read
  at_back = record {
    job = its;
    has = ap (λ (v : UpkeepView). v.job) back.at.upkeep.own;
    at = refl;
    want = merges_compact job.want job.taken compacts;
    output = come.away.output;
    free = back.free;
    begun = back.begun;
    given = given;
    takes = back.takes;
    as_many = back.as_many;
  }

  pub more : e.store.next_rowset ≤ came.next_rowset
  more = let a = home.up.0 in let b = put.with_late.files.rowset in omega arith

  pub at_home : JobIsAt e2 n stage.Read
  unfolding at_back
  at_home = is_at_then n e1 e2 at_back refl refl refl refl more

  -- ---- what its disk rowsets have now

  pub inputs_same : back.inputs ≡ input.inputs
  inputs_same = some_is back.inputs input.inputs (sym back.read ∙ come.away.inputs)

  pub now_same : (q : List ℕ) → hists_now q put.list ≡ hists q (taken_stores (disks job.taken) e.tablet)
  now_same q = now_is q put.list ∙ ap (hists q) back.stores

  pub told : AllTellLate job.bound put.list out put.with_late.late
  told = subst (λ (b : ℕ). AllTellLate b put.list out put.with_late.late) (come.bound_is ∙ sym come.away.times.0) put.with_late.told

  pub later : (first : Past) → IsFound e first → (q : List ℕ) → AllHaveLater job.bound (hists_of q input.inputs) (hists_now q put.list)
  later first found q =
      subst (λ (i : Inputs). AllHaveLater job.bound (hists_of q i) (hists_now q put.list)) inputs_same
      (subst (AllHaveLater job.bound (hists_of q back.inputs)) (sym (now_same q)) (back.later first found q))

  pub apart : (first : Past) → IsFound e first → (q : List ℕ) → AreApart job.mark (hists_of q input.inputs) × AllUnder (suc job.bound) (hists_of q input.inputs)
  apart first found q = subst (λ (i : Inputs). AreApart job.mark (hists_of q i) × AllUnder (suc job.bound) (hists_of q i)) inputs_same (back.apart first found q)

  -- ---- what was merged

  abbrev pub merged_then : AreMerged (IsFound e2) (record its { bound = input.bound; mark = input.mark }) made
  merged_then = record {
    inputs = input.inputs;
    read = come.away.inputs;
    outputs = files.merged.outputs;
    keys = files.merged.keys;
    rows = λ first found. files.merged.rows (come.away.well.faultless first found);
    alike = λ first found. files.merged.alike (come.away.well.faultless first found);
  }

  abbrev pub merged : AreMerged (IsFound e2) its made
  merged = merged_same (IsFound e2) (IsFound e2) (λ past is. is) (record its { bound = input.bound; mark = input.mark }) its refl come.away.times.0 come.away.times.1 made merged_then

  -- ---- the outputs hold what the job takes

  module _ (late_alike : late_outputs_are_alike) (once : outputs_have_a_key_once) (rise : marks_may_rise) (same : written_rowsets_are_the_same) where
    pub files_same : (q : List ℕ) → hists_written q made ≡ hists_in_files_of q out
    files_same q = written_is q made ∙ sym (same come.out.lent.next_rowset made out q files.written)

    pub was_alike : (first : Past) → IsFound e first → (q : List ℕ) → AreAlike job.mark (hists_of q input.inputs) (hists_in_files_of q out)
    was_alike first found q =
        subst (λ (xs : List Hist). AreAlike job.mark xs (hists_in_files_of q out)) (whole_hists job.bound (hists_of q input.inputs) (apart first found q).1)
        (subst (AreAlike job.mark (hists_upto job.bound q input.inputs)) (files_same q) (merged.alike first found q))

    pub was_sound : (first : Past) → IsFound e first → (q : List ℕ) → AreSound job.mark (hists_in_files_of q out)
    was_sound first found q =
        subst (AreSound job.mark) (files_same q) (subst (λ (m : ℕ). AreSound m (hists_written q made)) (sym come.away.times.1) (files.merged.sound (come.away.well.faultless first found) q))

    pub late_are : (first : Past) → IsFound e first → (q : List ℕ) → AreAlike job.mark (hists_now q put.list) (hists_in_files_of q put.with_late.late) × AreSound job.mark (hists_in_files_of q put.with_late.late)
    late_are first found q =
        late_alike job.mark job.bound q (hists_of q input.inputs) put.list out put.with_late.late back.mark.0 (apart first found q).0 (apart first found q).1 (later first found q) (back.upto first found)
        (once_written q come.out.lent.next_rowset made out files.written (once input.inputs.columns made q files.merged.outputs)) (was_alike first found q) (was_sound first found q) told

    pub takes_same : disks job.taken ≡ takes_of its
    takes_same = sym (takes_some job.taken its.last_mem (some_taken e1 its job.want job.taken compacts back.takes.takes))

    pub ends_same : (q : List ℕ) → hists_in_files_of q put.with_late.late ≡ map (hist_in_files q) (map files_in done)
    ends_same q = ap (map (hist_in_files q)) (sym (again_files put.with_late.late done put.with_late.files.again))

    pub hold_late : (first : Past) → IsFound e first → HoldInputs e.tablet (takes_of its) (map files_in done)
    hold_late first found = record {
      alike = λ q.
          subst (AreAlike e.tablet.core.a (hists q (taken_stores (takes_of its) e.tablet))) (ends_same q)
          (subst (λ (xs : List Hist). AreAlike e.tablet.core.a xs (hists_in_files_of q put.with_late.late)) (now_same q ∙ ap (λ (t : Takes). hists q (taken_stores t e.tablet)) takes_same)
          ((rise job.mark e.tablet.core.a (hists_now q put.list) (hists_in_files_of q put.with_late.late) back.mark.1).0 (late_are first found q).0));
      sound = λ q.
          subst (AreSound e.tablet.core.a) (ends_same q)
          ((rise job.mark e.tablet.core.a (hists_now q put.list) (hists_in_files_of q put.with_late.late) back.mark.1).1 (late_are first found q).1);
    }

  -- ---- and pass the rules of the table

  module _ (pass : outputs_pass) (still : written_rowsets_pass) (late_passes : a_late_output_passes) (passes : a_rowset_of_passing_histories_passes) (histories : histories_of_passing_rowsets_pass) where
    pub low_mark : input.mark < 2 ^ 64
    low_mark = let a = come.away.may.order in let b = come.bound_is in omega (arith, a, b, small)

    pub out_pass : IsTrue tells → (rules : Rules) (first : Past) → IsContent rules e2 first → PlanPasses rules e.tablet.core.work → RowsetsPass rules (map files_in out)
    out_pass t rules first content plan =
        let fit = come.away.well.faultless first content.opens in
        still rules come.out.lent.next_rowset made out files.written
        (pass rules (span_of input) input.inputs made content.closed low_mark fit files.merged.outputs (files.merged.rows fit)
        (come.away.well.passes t rules first (record { closed = content.closed; opens = content.opens; holds = content.holds }) plan))

    pub late_all_pass : IsTrue tells → (rules : Rules) (first : Past) → IsContent rules e2 first → PlanPasses rules e.tablet.core.work → RowsetsPass rules (map files_in done)
    late_all_pass t rules first content plan =
        let was = back.passes t rules first (record { closed = content.closed; opens = content.opens; holds = content.holds }) plan in
        subst (RowsetsPass rules) (sym (again_files put.with_late.late done put.with_late.files.again))
        (late_pass rules content.closed job.mark job.bound back.mark.0 put.list (back.upto first content.opens) (λ q. subst (λ (hs : List Hist). HistPasses rules q (joined_history job.mark hs)) (sym (now_same q)) (was q)) late_passes passes histories
        out put.with_late.late (outputs_rise come.out.lent.next_rowset made out files.merged.outputs.rise files.written) (out_pass t rules first content plan) told put.with_late.adds put.with_late.whole)

  -- ---- their files

  pub hold_files : others_hold_beside_late_files → IsTrue tells → HoldAll (seen came.device) (map (meta_in 0) done) (map held_in done)
  hold_files others t =
      put.with_late.files.holds t (others (seen came.device) out put.with_late.late put.with_late.adds (files.holds t (seen came.device) (λ k lo hi. (added.left t).reads k (inl hi))))

  pub low : 3 ≤ e.store.next_file
  low = let x = first_file e.store.meta side.rules in let y = side.files in omega arith

  abbrev pub left : List MetaRowset
  left = metas_left (takes_of its) e.store.meta.rowsets

  pub left_named : (t : Takes) (next_rowset next_file : ℕ) → some_may_be_named → AreRowsets next_rowset next_file 0 [] e.store.meta.rowsets → AreRowsets next_rowset next_file 0 [] (metas_left t e.store.meta.rowsets)
  left_named (mems last) next_rowset next_file fewer are = are
  left_named (disks taken) next_rowset next_file fewer are = fewer _ e.store.meta.rowsets next_rowset next_file are

  pub later_rowsets : AreRowsets lent.next_rowset lent.next_file 0 [] e.store.meta.rowsets
  later_rowsets =
      rowsets_more e.store.meta.next_rowset lent.next_rowset e.store.meta.next_file lent.next_file 0 [] e.store.meta.rowsets (let a = side.rowsets in let b = home.up.0 in omega arith) (let a = side.files in let b = home.up.1 in omega arith) side.rules.rowsets

  pub numbered : CountUp e.store.next_file lent.next_file (all_file_numbers out)
  numbered = subst (λ (k : ℕ). CountUp k lent.next_file (all_file_numbers out)) went.numbers.1 files.numbered

  pub written : AreWritten e.store.next_rowset made out
  written = subst (λ (k : ℕ). AreWritten k made out) went.numbers.0 files.written

  pub named : outputs_come_behind → some_may_be_named → late_files_may_be_named → AreRowsets came.next_rowset came.next_file 0 [] (left ++ map (meta_in 0) done)
  named behind fewer late =
      subst (λ (k : ℕ). AreRowsets k came.next_file 0 [] (left ++ map (meta_in 0) done)) (sym put.with_late.files.rowset)
      (late left lent.next_rowset lent.next_file came.next_file out put.with_late.late done
      (behind left e.store.meta.next_rowset e.store.meta.next_file e.store.next_rowset e.store.next_file lent.next_rowset lent.next_file made out
      (left_named (takes_of its) e.store.meta.next_rowset e.store.meta.next_file fewer side.rules.rowsets) (left_named (takes_of its) lent.next_rowset lent.next_file fewer later_rowsets)
      side.rowsets side.files low written (files.rowset ∙ ap (λ (k : ℕ). k + length made) went.numbers.0) numbered files.short)
      (let a = home.up.1 in let b = low in omega arith) put.with_late.adds put.with_late.files.numbered)

  pub stable : IsTrue tells → AreStable seen now leaves e.store.next_file came.next_file came.device
  stable t =
      stable_then seen now leaves e.store.next_file lent.next_file came.next_file e.store.known lent.device came.device home.up.1 added.up.1
      (subst (λ (k : ℕ). AreStable seen now leaves k lent.next_file lent.device) went.numbers.1 (files.stable t)) (added.left t) (put.with_late.files.stable t)

  pub stand : outputs_stand → late_files_stand → IsTrue tells → (image : Files) → leaves came.device (now came.device) image → HasNamed left (seen came.device) image → HasNamed (left ++ map (meta_in 0) done) (seen came.device) image
  stand stands late t image here is =
      late left lent.next_file came.next_file out put.with_late.late done (seen came.device) image put.with_late.adds put.with_late.files.numbered (put.with_late.files.stable t image here)
      (stands left e.store.next_file lent.next_file out (seen came.device) image numbered (λ k lo hi. stable t image here k lo (let up = added.up.1 in omega arith)) is)

  -- ---- so they may be handed in

  pub ends : EndsWith (IsFound e2) job.want its input.inputs out done
  ends = subst (λ (w : Want). EndsWith (IsFound e2) w its input.inputs out done) (sym compacts) (record {
    now = put.list;
    is = refl;
    later = later;
    in_memory = back.upto;
    late = put.with_late.late;
    tells = told;
    adds = put.with_late.adds;
    again = put.with_late.files.again;
  })

  pub may_hand_in : late_outputs_are_alike → outputs_have_a_key_once → marks_may_rise → written_rowsets_are_the_same → outputs_pass → written_rowsets_pass → a_late_output_passes → a_rowset_of_passing_histories_passes → histories_of_passing_rowsets_pass
      → others_hold_beside_late_files → outputs_come_behind → some_may_be_named → late_files_may_be_named → outputs_stand → late_files_stand → MayHandIn tells seen now leaves e2 n job.want done
  unfolding at_home at_back
  may_hand_in late_alike once rise same pass still late_passes passes histories others behind fewer late_named stands late_stand =
      let stay = numbers_stay out put.with_late.late done put.with_late.adds put.with_late.files.again in
      record {
        at = at_home;
        want = refl;
        fresh = again_fresh put.with_late.late done put.with_late.files.again;
        from = from_same job.first_rowset out done stay (from_written job.first_rowset e.store.next_rowset made out given written);
        differ = differ_same out done stay (differ_written e.store.next_rowset made out written);
        given = below_same (before came.next_rowset its.last_mem) out done stay
            (below_written e.store.next_rowset came.next_rowset its.last_mem made out (let a = files.rowset in let b = went.numbers.0 in let c = put.with_late.files.rowset in omega arith) written);
        small = subst (λ (k : ℕ). k < 2 ^ 64) (sym put.with_late.files.rowset) come.written.small;
        hold = hold_files others;
        holds = hold_late late_alike once rise same;
        passes = late_all_pass pass still late_passes passes histories;
        named = named behind fewer late_named;
        stand = stand stands late_stand;
        taken = taken_of_compact job.want job.taken compacts;
        made = made;
        merged = merged;
        first = e.store.next_rowset;
        out = out;
        written = written;
        ends = ends;
      }

-- a fault behind others
pub rose_after : (a b c : ℕ) → a ≤ b → Rose b c → Rose a c
rose_after a b c le rose = omega (arith, le, rose)

-- the store that comes home
pub home_of : {L D C : Type 0} (tells : Bool) (seen : D → Files) (now : D → ℕ) (leaves : D → ℕ → Files → Type 0) (faults : D → ℕ) (a b : EngineView L D C) (lent : Lent D) → b ≡ record a { tablet = b.tablet; upkeep = b.upkeep }
    → MayComeHome tells seen now leaves faults a.first_rowset a.first_file a.store lent → MayComeHome tells seen now leaves faults b.first_rowset b.first_file b.store lent
home_of {L} {D} {C} tells seen now leaves faults a b lent beside = subst (λ (v : EngineView L D C). MayComeHome tells seen now leaves faults v.first_rowset v.first_file v.store lent) (sym beside)

-- behind a step that leaves the store
pub home_same : {L D C : Type 0} (tells : Bool) (seen : D → Files) (now : D → ℕ) (leaves : D → ℕ → Files → Type 0) (faults : D → ℕ) (n : ℕ) (a b : EngineView L D C) (lent : Lent D) → IsVisit n a b → b.store ≡ a.store
    → MayComeHome tells seen now leaves faults a.first_rowset a.first_file a.store lent → MayComeHome tells seen now leaves faults b.first_rowset b.first_file b.store lent
home_same {L} {D} {C} tells seen now leaves faults n a b lent visit store may =
    subst (λ (s : StoreView D). MayComeHome tells seen now leaves faults b.first_rowset b.first_file s lent) (sym store)
    (subst (λ (r : Root L D C). MayComeHome tells seen now leaves faults r.first_rowset r.first_file a.store lent) (sym (root_stays n a b visit)) may)

pub abandon_same : {L D C : Type 0} (n : ℕ) (a b : EngineView L D C) → b.upkeep ≡ a.upkeep → MayAbandon a n → MayAbandon b n
abandon_same n a b same may = record { job = may.job; has = ap (job_of n) same ∙ may.has; early = may.early; free = ap (λ (u : UpkeepsView). u.publishing) same ∙ may.free }

-- a pass that has no records out has not the log
pub log_free : {L D C : Type 0} (n : ℕ) (v : EngineView L D C) → (part_in v n).pass.out ≡ None → is_pass v.log.holder n ≡ false
log_free n v e = out_none v.log.holder v.log.out n e

-- its store is home
pub home_both : {L D C : Type 0} (v v1 v2 : EngineView L D C) (came : Lent D) → v2 ≡ record v1 { store = home_with v1.store came } → v1 ≡ record v { tablet = v1.tablet; upkeep = v1.upkeep } → v2 ≡ record v { tablet = v1.tablet; store = home_with v.store came; upkeep = v1.upkeep }
home_both {L} {D} {C} v v1 v2 came home beside = home ∙ ap (λ (x : EngineView L D C). record x { tablet = v1.tablet; store = home_with x.store came; upkeep = v1.upkeep }) beside
