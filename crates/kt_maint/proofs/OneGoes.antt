-- A job on the files of one disk rowset goes outside the lock.
use Rattle.std.proofs.Common.{◌≡◌, ◌≤◌, ◌<◌, ◌+◌, ◌^◌, ℕ, Bool, Option, Some, None, refl, sym, ap, subst, ◌∙◌, arith}
use Rattle.std.specs.Prelude.{IsTrue}
use Rattle.kt_disk.specs.Disk.{Files}
use Rattle.kt_diskrowset.specs.declared.data.RowSetData.{RowSetData}
use Rattle.kt_diskrowset.specs.Data.{held_in}
use Rattle.kt_storeside.specs.declared.side.Lent.{Lent}
use Rattle.kt_storeside.specs.Sides.{StoreView, IsSide}
use Rattle.kt_storeside.proofs.Named.{first_file}
use Rattle.kt_tablet.specs.Views.{View}
use Rattle.kt_tablet.specs.Jobs.{files_of}
use Rattle.kt_pick.specs.declared.rules.Want.{Want}
use Rattle.kt_engine.specs.declared.upkeep.Stage.TheVariants as stage
use Rattle.kt_engine.specs.Engines.{EngineView}
use Rattle.kt_engine.specs.DeltaJobs.{IsOn}
use Rattle.kt_engine.specs.Jobs.{JobView, UpkeepView, IsAtStage, job_of}
use Rattle.kt_engine.specs.JobCalls.{ByWant}
use Rattle.kt_engine.specs.JobSteps.{AtNewStage, TakesInputs}
use Rattle.kt_engine.specs.Outside.{job_out}
use Rattle.kt_engine.specs.Returning.{LeavesAs, LeavesOne, MayLeave}
use Rattle.kt_engine.specs.Visits.{out_of, part_in}
use Rattle.kt_engine.proofs.JobCalls.{as_rowset}
use Rattle.kt_maint.specs.DeltaRuns.{HasReadOne, IsAwayOne}
use Rattle.kt_maint.specs.Runs.{IsReady}
use Rattle.kt_maint.proofs.GoingOut.{lent_some}

module _ {L D C : Type 0} (n : ℕ) (w : Want) (b c : EngineView L D C) (d : RowSetData) (read : HasReadOne b n w d) where
  pub one_at : c.upkeep ≡ b.upkeep → IsAtStage c.upkeep n stage.Read read.at.job
  one_at same = record { has = ap (job_of n) same ∙ read.at.has; at = read.at.at }

  -- it leaves with the files that were read
  pub may_leave : c.tablet ≡ b.tablet → MayLeave c read.at.job
  may_leave same =
      let number : d.number ≡ read.at.job.rowset = read.is.number in
      as_rowset (TakesInputs c read.at.job × LeavesAs c.tablet read.at.job) (λ r. LeavesOne c.tablet read.at.job) read.at.job.want read.at.job.rowset (subst (IsOn read.at.job.rowset) (sym read.at.want) read.at.on)
      (record { was = d; read = read.read; held = ap (λ (t : View C). files_of read.at.job.rowset t.files) same ∙ ap (λ (r : ℕ). files_of r b.tablet.files) (sym number) ∙ read.held })

-- its rowset was read, and the store went out to write files
pub record OneWent {L D C : Type 0} (tells : Bool) (seen : D → Files) (now : D → ℕ) (leaves : D → ℕ → Files → Type 0) (faults : D → ℕ) (n : ℕ) (a b c : EngineView L D C) (lent : Lent D) : Type 0 where
  pub side : IsSide tells seen now leaves faults a.store
  pub ready : IsReady a
  pub beside : b ≡ record a { upkeep = b.upkeep }
  pub went : c ≡ record b { store = record b.store { home = None; holder = Some n; lent = lent.meta }; upkeep = c.upkeep }
  pub meta : lent.meta ≡ None
  pub device : lent.device ≡ b.store.known
  pub numbers : (lent.next_rowset ≡ b.store.next_rowset) × (lent.next_file ≡ b.store.next_file)
  pub is_whole : IsTrue b.store.whole
  pub near : b.store.next_rowset < b.first_rowset + 2 ^ 44
  pub near_files : b.store.next_file < b.first_file + 2 ^ 44

module _ {L D C : Type 0} (tells : Bool) (seen : D → Files) (now : D → ℕ) (leaves : D → ℕ → Files → Type 0) (faults : D → ℕ) (n : ℕ) (w : Want) (a b c : EngineView L D C) (rowset : RowSetData) (lent : Lent D) (o : OneWent tells seen now leaves faults n a b c lent) (read : HasReadOne b n w rowset)
    (d : EngineView L D C) (most : ℕ) (few : most ≤ lent.next_file + 2 ^ 34) (left : AtNewStage n (job_out c.tablet.frozen read.at.job) c d) where
  same_store : d.store ≡ record b.store { home = None; holder = Some n; lent = lent.meta }
  same_store = ap (λ (v : EngineView L D C). v.store) left.beside ∙ ap (λ (v : EngineView L D C). v.store) o.went

  its_store : b.store ≡ a.store
  its_store = ap (λ (v : EngineView L D C). v.store) o.beside

  pub away_one : IsAwayOne tells seen n w (record { want = w; rowset = rowset; most = most; lent = lent }) (part_in d n)
  away_one = record {
    out_with = record {
      log = ap (λ h. out_of h d.log.out n) (ap (λ (v : EngineView L D C). v.log.holder) left.beside ∙ ap (λ (v : EngineView L D C). v.log.holder) o.went ∙ ap (λ (v : EngineView L D C). v.log.holder) o.beside ∙ o.ready.settled.2);
      store = d.store;
      has = lent_some d.store.holder d.store n (ap (λ (s : StoreView D). s.holder) same_store);
      to_write = record {
        out = ap (λ (s : StoreView D). s.holder) same_store;
        whole = subst (λ (s : StoreView D). IsTrue s.whole) (sym same_store) o.is_whole;
        device = o.device ∙ sym (ap (λ (s : StoreView D). s.known) same_store);
        meta = (o.meta, ap (λ (s : StoreView D). s.lent) same_store ∙ o.meta);
        numbers = (o.numbers.0 ∙ sym (ap (λ (s : StoreView D). s.next_rowset) same_store), o.numbers.1 ∙ sym (ap (λ (s : StoreView D). s.next_file) same_store));
      };
      near = subst (λ (s : StoreView D). s.next_rowset < d.first_rowset + 2 ^ 44) (sym same_store)
          (subst (λ (k : ℕ). b.store.next_rowset < k + 2 ^ 44) (sym (ap (λ (v : EngineView L D C). v.first_rowset) left.beside ∙ ap (λ (v : EngineView L D C). v.first_rowset) o.went)) o.near);
      near_files = subst (λ (s : StoreView D). s.next_file < d.first_file + 2 ^ 44) (sym same_store)
          (subst (λ (k : ℕ). b.store.next_file < k + 2 ^ 44) (sym (ap (λ (v : EngineView L D C). v.first_file) left.beside ∙ ap (λ (v : EngineView L D C). v.first_file) o.went)) o.near_files);
      few_files = few;
    };
    vacant = record {
      vacant = λ t k low. ap (λ (x : D). seen x k) (o.device ∙ ap (λ (s : StoreView D). s.known) its_store) ∙ o.side.vacant t k (subst (λ (m : ℕ). m ≤ k) (o.numbers.1 ∙ ap (λ (s : StoreView D). s.next_file) its_store) low);
      apart = (let x = first_file a.store.meta o.side.rules in let y = o.side.files in let z = o.numbers.1 ∙ ap (λ (s : StoreView D). s.next_file) its_store in omega arith);
    };
    job = job_out c.tablet.frozen read.at.job;
    own = ap (λ (u : UpkeepView). u.job) left.upkeep.own;
    at = refl;
    want = (read.at.want, refl);
    on = (read.at.on, subst (λ (k : ℕ). IsOn k w) (sym read.is.number) read.at.on);
    read = read.read;
  }
