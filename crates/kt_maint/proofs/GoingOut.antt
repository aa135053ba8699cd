-- A job that goes outside the lock, and what is written there.
use Rattle.std.proofs.Common.{◌≡◌, ◌≤◌, ◌<◌, ◌+◌, ◌^◌, ℕ, Bool, true, cond, List, length, map, Option, Some, None, Result, Ok, Err, refl, sym, ap, subst, ◌∙◌, arith}
use Rattle.std.specs.Prelude.{IsTrue, IfOk, OnOk, ◌==◌}
use Rattle.std.proofs.Math.Nat.{min-le_left, le-max_left}
use Rattle.std.proofs.lemmas.Bool.Decides.{nat_tests}
use Rattle.kt_disk.specs.Disk.{Files}
use Rattle.kt_diskrowset.specs.declared.data.RowSetData.{RowSetData}
use Rattle.kt_diskrowset.specs.declared.inputs.Outputs.{Outputs}
use Rattle.kt_diskrowset.specs.Data.{held_in}
use Rattle.kt_files.specs.Reading.{HoldAll}
use Rattle.kt_outputs.specs.Named.{AreShort}
use Rattle.kt_outputs.specs.Outputs.{meta_in, all_file_numbers, AreStable, AreThere, AreWritten, CountUp}
use Rattle.kt_outputs.specs.declared.outputs.WriteNo.{WriteNo}
use Rattle.kt_outputs.specs.declared.outputs.WriteNo.TheVariants as write_no
use Rattle.kt_outputs.proofs.Written.{left_none}
use Rattle.kt_storeside.specs.declared.side.Lent.{Lent}
use Rattle.kt_storeside.specs.Sides.{StoreView, IsSide}
use Rattle.kt_storeside.proofs.Named.{first_file}
use Rattle.kt_tablet.specs.Views.{View}
use Rattle.kt_pick.specs.declared.rules.Want.{Want}
use Rattle.kt_pick.specs.declared.rules.Want.TheVariants as want
use Rattle.kt_engine.specs.declared.job.JobInput.{JobInput}
use Rattle.kt_engine.specs.declared.upkeep.Stage.TheVariants as stage
use Rattle.kt_engine.specs.Engines.{EngineView}
use Rattle.kt_engine.specs.Jobs.{JobView, UpkeepView, taken_by}
use Rattle.kt_engine.specs.JobSteps.{IsMerge, AtNewStage, HasInput, TakesBy}
use Rattle.kt_engine.specs.Outside.{job_out}
use Rattle.kt_engine.specs.Returning.{LeavesAs}
use Rattle.kt_engine.specs.Visits.{IsVisit, Root, lent_of, out_of, part_in}
use Rattle.kt_engine.proofs.Visiting.{root_stays}
use Rattle.kt_maint.specs.JobRuns.{MergeBegins}
use Rattle.kt_maint.specs.Outside.{HasRead, HasWritten, HaveFiles, IsAway, IsMergedOf, MayWrite, ReadsWell}
use Rattle.kt_maint.specs.Runs.{IsQuiet, IsReady, JobIsAt, MayAbandon}
use Rattle.kt_maint.proofs.Merged.{whole}
use Rattle.kt_maint.proofs.Stages.{some_is, goes_on, is_at_then, quiet_stage}
use Rattle.kt_maint.proofs.Visiting.{asks_same, quiet_then}

-- a pass has what is out to it
pub lent_some : {S : Type 0} (holder : Option ℕ) (known : S) (n : ℕ) → holder ≡ Some n → lent_of holder known n ≡ Some known
lent_some holder known n is = ap (λ (h : Option ℕ). lent_of h known n) is ∙ ap (λ (b : Bool). cond b (Some known) None) (let e : (n == n) ≡ true = grind (arith, nat_tests) in e)

pub none_out_of : {A : Type 0} (holder : Option ℕ) (out : A) (n : ℕ) (of : Option ℕ → A → ℕ → Option A) → ((x : A) → of None x n ≡ None) → holder ≡ None → of holder out n ≡ None
none_out_of holder out n of none is = ap (λ (h : Option ℕ). of h out n) is ∙ none out

-- a job takes just the disk rowsets that were asked
taken_is : {L D C : Type 0} (v : EngineView L D C) (job : JobView) (w : Want) → TakesBy v job w → job.taken ≡ taken_by w
taken_is v job want.Flush f = f.none
taken_is v job (want.Compact taken) c = c.0
taken_is v job (want.FlushDeltas r) never = absurd never
taken_is v job (want.Minor r) never = absurd never
taken_is v job (want.Major r) never = absurd never

-- what it takes was read, and the store went out to write files
pub record WentOut {L D C : Type 0} (tells : Bool) (seen : D → Files) (now : D → ℕ) (leaves : D → ℕ → Files → Type 0) (faults : D → ℕ) (n : ℕ) (w : Want) (a b c : EngineView L D C) (input : JobInput) (lent : Lent D) : Type 0 where
  pub side : IsSide tells seen now leaves faults a.store
  pub ready : IsReady a
  pub begins : MergeBegins a n w
  pub read : HasRead tells n a b input
  pub went : c ≡ record b { store = record b.store { home = None; holder = Some n; lent = lent.meta }; upkeep = c.upkeep }
  pub meta : lent.meta ≡ None
  pub upkeep : c.upkeep ≡ b.upkeep
  pub device : lent.device ≡ b.store.known
  pub numbers : (lent.next_rowset ≡ b.store.next_rowset) × (lent.next_file ≡ b.store.next_file)
  pub is_whole : IsTrue b.store.whole
  pub near : b.store.next_rowset < b.first_rowset + 2 ^ 44
  pub near_files : b.store.next_file < b.first_file + 2 ^ 44

-- so the turn of the store tells
pub went_as : {L D C : Type 0} (tells : Bool) (seen : D → Files) (now : D → ℕ) (leaves : D → ℕ → Files → Type 0) (faults : D → ℕ) (n : ℕ) (w : Want) (a b c : EngineView L D C) (input : JobInput) (lent : Lent D) → IsSide tells seen now leaves faults a.store → IsReady a → MergeBegins a n w
    → HasRead tells n a b input → lent.device ≡ b.store.known → c ≡ record b { store = record b.store { home = None; holder = Some n; lent = lent.meta }; upkeep = c.upkeep } → lent.meta ≡ None → c.upkeep ≡ b.upkeep → (lent.next_rowset ≡ b.store.next_rowset) × (lent.next_file ≡ b.store.next_file) → IsTrue b.store.whole
    → b.store.next_rowset < b.first_rowset + 2 ^ 44 → b.store.next_file < b.first_file + 2 ^ 44 → WentOut tells seen now leaves faults n w a b c input lent
went_as tells seen now leaves faults n w a b c input lent side ready begins read device went meta upkeep numbers whole near near_files = record {
  side = side;
  ready = ready;
  begins = begins;
  read = read;
  went = went;
  meta = meta;
  upkeep = upkeep;
  device = device;
  numbers = numbers;
  is_whole = whole;
  near = near;
  near_files = near_files;
}

module _ {L D C : Type 0} (tells : Bool) (seen : D → Files) (now : D → ℕ) (leaves : D → ℕ → Files → Type 0) (faults : D → ℕ) (n : ℕ) (w : Want) (a b c : EngineView L D C) (input : JobInput) (lent : Lent D)
    (o : WentOut tells seen now leaves faults n w a b c input lent) where
  abbrev at : JobIsAt a n stage.Begun
  at = o.begins.at

  same_job : o.read.job ≡ at.job
  same_job = some_is o.read.job at.job (sym o.read.had ∙ at.has)

  later : AtNewStage n (record at.job { stage = stage.Read; bound = input.bound; mark = input.mark; inputs = Some input.inputs }) a b
  later = subst (λ (j : JobView). AtNewStage n (record j { stage = stage.Read; bound = input.bound; mark = input.mark; inputs = Some input.inputs }) a b) same_job o.read.later

  has_input : HasInput a.tablet at.job.taken input.inputs input.bound input.mark
  has_input = subst (λ (j : JobView). HasInput a.tablet j.taken input.inputs input.bound input.mark) same_job o.read.read

  read_at : JobIsAt b n stage.Read
  read_at = goes_on n a b at stage.Read input.bound input.mark (Some input.inputs) at.job.metas at.job.held at.job.room at.job.super later

  same_tablet : c.tablet ≡ a.tablet
  same_tablet = ap (λ (v : EngineView L D C). v.tablet) o.went ∙ ap (λ (v : EngineView L D C). v.tablet) later.beside

  pub out_at : JobIsAt c n stage.Read
  unfolding read_at
  out_at = is_at_then n b c read_at (ap (λ (v : EngineView L D C). v.tablet) o.went) (ap (λ (v : EngineView L D C). v.log) o.went) o.upkeep (ap (λ (v : EngineView L D C). v.store.meta) o.went)
      (subst (λ (k : ℕ). b.store.next_rowset ≤ k) (sym (ap (λ (v : EngineView L D C). v.store.next_rowset) o.went)) (let e : b.store.next_rowset ≤ b.store.next_rowset = omega arith in e))

  its_taken : at.job.taken ≡ taken_by at.job.want
  its_taken = taken_is a at.job at.job.want at.takes.takes

  -- it leaves with all that it takes has
  pub leaves_as : LeavesAs c.tablet out_at.job
  unfolding out_at read_at
  leaves_as =
      subst (λ (t : View C). LeavesAs t out_at.job) (sym same_tablet) (record {
        inputs = input.inputs;
        read = refl;
        bound = has_input.bound_is;
        mark = has_input.mark_is;
        reads = has_input.reads;
        files = has_input.files;
      })

  -- and is outside
  module _ (d : EngineView L D C) (most : ℕ) (few : most ≤ lent.next_file + 2 ^ 34) (visit : IsVisit n a d) (left : AtNewStage n (job_out c.tablet.frozen out_at.job) c d) where
    same_store : d.store ≡ record b.store { home = None; holder = Some n; lent = lent.meta }
    same_store = ap (λ (v : EngineView L D C). v.store) left.beside ∙ ap (λ (v : EngineView L D C). v.store) o.went

    its_store : b.store ≡ a.store
    its_store = ap (λ (v : EngineView L D C). v.store) later.beside

    may_write : MayWrite tells seen (record { input = input; most = most; lent = lent })
    may_write = record {
      readable = has_input.readable;
      order = subst (λ (m : ℕ). m ≤ input.bound) (sym has_input.mark_is) (min-le_left input.bound a.tablet.core.a);
      few = has_input.few;
      vacant = λ t k low. ap (λ (x : D). seen x k) (o.device ∙ ap (λ (s : StoreView D). s.known) its_store) ∙ o.side.vacant t k (subst (λ (m : ℕ). m ≤ k) (o.numbers.1 ∙ ap (λ (s : StoreView D). s.next_file) its_store) low);
      apart = (let x = first_file a.store.meta o.side.rules in let y = o.side.files in let z = o.numbers.1 ∙ ap (λ (s : StoreView D). s.next_file) its_store in omega arith);
    }

    pub is_away : IsAway tells seen n w (record { input = input; most = most; lent = lent }) (part_in d n)
    unfolding out_at read_at
    is_away = record {
      log = ap (λ h. out_of h d.log.out n) (ap (λ (v : EngineView L D C). v.log.holder) left.beside ∙ ap (λ (v : EngineView L D C). v.log.holder) o.went ∙ ap (λ (v : EngineView L D C). v.log.holder) later.beside ∙ o.ready.settled.2);
      store = d.store;
      has = lent_some d.store.holder d.store n (ap (λ (s : StoreView D). s.holder) same_store);
      lent = record {
        out = ap (λ (s : StoreView D). s.holder) same_store;
        whole = subst (λ (s : StoreView D). IsTrue s.whole) (sym same_store) o.is_whole;
        device = o.device ∙ sym (ap (λ (s : StoreView D). s.known) same_store);
        meta = (o.meta, ap (λ (s : StoreView D). s.lent) same_store ∙ o.meta);
        numbers = (o.numbers.0 ∙ sym (ap (λ (s : StoreView D). s.next_rowset) same_store), o.numbers.1 ∙ sym (ap (λ (s : StoreView D). s.next_file) same_store));
      };
      near = subst (λ (s : StoreView D). s.next_rowset < d.first_rowset + 2 ^ 44) (sym same_store)
          (subst (λ (k : ℕ). b.store.next_rowset < k + 2 ^ 44) (sym (ap (λ (v : EngineView L D C). v.first_rowset) left.beside ∙ ap (λ (v : EngineView L D C). v.first_rowset) o.went)) o.near);
      near_files = subst (λ (s : StoreView D). s.next_file < d.first_file + 2 ^ 44) (sym same_store)
          (subst (λ (k : ℕ). b.store.next_file < k + 2 ^ 44) (sym (ap (λ (v : EngineView L D C). v.first_file) left.beside ∙ ap (λ (v : EngineView L D C). v.first_file) o.went)) o.near_files);
      few_files = few;
      job = job_out c.tablet.frozen out_at.job;
      own = ap (λ (u : UpkeepView). u.job) left.upkeep.own;
      at = refl;
      want = (o.begins.want, subst IsMerge o.begins.want at.want, its_taken ∙ ap taken_by o.begins.want);
      output = at.output;
      inputs = refl;
      times = (refl, refl);
      given = subst (λ (s : StoreView D). at.job.first_rowset ≤ s.next_rowset) (sym (same_store ∙ ap (λ (s : StoreView D). record s { home = None; holder = Some n; lent = lent.meta }) its_store)) at.given;
      may = may_write;
      well = subst (λ (r : Root L D C). ReadsWell tells r input) (sym (root_stays n a d visit)) o.read.well;
    }

-- its pass has changed nothing but what it has of maintenance, and has the store
pub went_quiet : {L D C : Type 0} (n : ℕ) (a b c d : EngineView L D C) {s : StoreView D} → IsQuiet n a b → IsVisit n b c → c ≡ record b { store = s; upkeep = c.upkeep } → c.upkeep ≡ b.upkeep → IsVisit n c d → (job : JobView) → AtNewStage n job c d → IsQuiet n a d
went_quiet n a b c d quiet out went upkeep left job at =
    let mid : IsQuiet n b c = record { visit = out; tablet = ap (λ v. v.tablet) went; log = ap (λ v. v.log) went; asks = asks_same n b.upkeep c.upkeep upkeep } in
    quiet_then n a c d (quiet_then n a b c quiet mid) (quiet_stage n c d job at left)

-- a job that has read may still be given up
pub read_abandon : {L D C : Type 0} (tells : Bool) (n : ℕ) (a b : EngineView L D C) (input : JobInput) → HasRead tells n a b input → a.upkeep.publishing ≡ None → MayAbandon b n
read_abandon tells n a b input read free = record {
  job = record read.job { stage = stage.Read; bound = input.bound; mark = input.mark; inputs = Some input.inputs };
  has = ap (λ (u : UpkeepView). u.job) read.later.upkeep.own;
  early = tt;
  free = read.later.begun.1 ∙ free;
}

-- ---- what is written outside

module _ {D : Type 0} (tells : Bool) (seen : D → Files) (now : D → ℕ) (leaves : D → ℕ → Files → Type 0) (input : JobInput) (went came : Lent D) (made : List RowSetData) (merged : IsMergedOf input made) where
  pub have_files : (r : Result Outputs WriteNo) → IfOk r (λ outputs. AreWritten went.next_rowset made outputs.rowsets) → OnOk r (came.next_rowset ≡ went.next_rowset + length made) → IfOk r (λ outputs. CountUp went.next_file came.next_file (all_file_numbers outputs.rowsets)) → IfOk r (λ outputs. AreShort outputs.rowsets)
      → IfOk r (λ outputs. IsTrue tells → (files : Files) → AreThere went.next_file came.next_file (seen came.device) files → HoldAll files (map (meta_in 0) outputs.rowsets) (map held_in outputs.rowsets))
      → OnOk r (IsTrue tells → AreStable seen now leaves went.next_file came.next_file came.device) → IfOk r (λ outputs. HaveFiles tells seen now leaves input went came outputs.rowsets)
  have_files (Ok outputs) written rowset numbered short holds stable = record { made = made; merged = merged; written = written; rowset = rowset; numbered = numbered; short = short; holds = holds; stable = stable }
  have_files (Err e) written rowset numbered short holds stable = tt

-- nothing was
pub none_written : {D : Type 0} (tells : Bool) (seen : D → Files) (now : D → ℕ) (leaves : D → ℕ → Files → Type 0) (faults : D → ℕ) (most : ℕ) (input : JobInput) (lent : Lent D) → lent.next_rowset < 2 ^ 64 → HasWritten tells seen now leaves faults most input lent lent (Err write_no.Memory)
none_written tells seen now leaves faults most input lent small = record {
  meta = refl;
  up = ((let e : lent.next_rowset ≤ lent.next_rowset = omega arith in e), (let e : lent.next_file ≤ lent.next_file = omega arith in e));
  risen = (let e : lent.next_rowset ≤ lent.next_rowset + 2 ^ 31 = omega arith in e);
  small = small;
  few_files = le-max_left lent.next_file most;
  left = λ t. left_none seen now leaves lent.next_file lent.device;
  faults_rise = (let e : faults lent.device ≤ faults lent.device = omega arith in e);
  rose = λ never. absurd cc;
  files = tt;
}
