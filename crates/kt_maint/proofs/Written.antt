-- The outputs of a job, written: its superblock may be published, and once it is the job may finish.
use Rattle.std.proofs.Common.{◌≡◌, ◌≤◌, ◌<◌, ◌+◌, ◌^◌, ℕ, suc, Bool, false, List, [], ◌∷◌, length, map, Option, Some, refl, sym, ap, subst, ◌∙◌, arith}
use Rattle.std.specs.Prelude.{◌==◌}
use Rattle.std.specs.List.{AllByRecursion}
use Rattle.std.proofs.lemmas.Bool.Decides.{nat_tests}
use Rattle.std.proofs.lemmas.List.{length-map}
use Rattle.kt_disk.specs.Disk.{Files}
use Rattle.kt_history.specs.Stores.{Hist}
use Rattle.kt_histlaws.specs.Fitting.{AreSound}
use Rattle.kt_histlaws.specs.Histories.{hists}
use Rattle.kt_histlaws.specs.Jobs.{AreAlike}
use Rattle.kt_rowfiles.specs.Files.{DiskRowset}
use Rattle.kt_content.specs.Content.{LacksNumber, NumbersDiffer}
use Rattle.kt_content.specs.Flushes.{AreFrom, before}
use Rattle.kt_content.specs.RunEvents.{RowsetsBelow}
use Rattle.kt_diskrowset.specs.declared.data.RowSetData.{RowSetData}
use Rattle.kt_diskrowset.specs.Data.{files_in, held_in}
use Rattle.kt_files.specs.Named.{AreNamed}
use Rattle.kt_outputs.specs.Outputs.{meta_in, AreWritten}
use Rattle.kt_tablet.specs.Views.{View}
use Rattle.kt_stores.specs.Takes.{mems, rowsets}
use Rattle.kt_tablet.specs.Jobs.{taken_stores, MayChangeOver}
use Rattle.kt_engine.specs.declared.upkeep.Stage.TheVariants as stage
use Rattle.kt_engine.specs.Over.{bare_store}
use Rattle.kt_engine.specs.Engines.{EngineView, IsFound}
use Rattle.kt_engine.specs.Visits.{root_of}
use Rattle.kt_engine.specs.JobSteps.{IsMerge, MayPublishJob, MayFinish, outputs_of}
use Rattle.kt_engine.specs.JobCalls.{MayEndBy}
use Rattle.kt_engine.specs.Jobs.{JobView, job_of, takes_by, takes_of}
use Rattle.kt_engine.proofs.Filed.{own_names}
use Rattle.kt_engine.proofs.Flushed.{bare_hists}
use Rattle.kt_pick.specs.declared.rules.Want.{Want}
use Rattle.kt_maint.specs.Runs.{IsPublished, JobHas, going_out}
use Rattle.kt_maint.specs.JobRuns.{MergeIsWritten, MayEnd}
use Rattle.kt_maint.proofs.Merged.{gives_then, merged_for}

-- ---- what was written

pub from_written : (first number : ℕ) (outputs out : List RowSetData) → first ≤ number → AreWritten number outputs out → AreFrom first (map files_in out)
from_written first number [] [] low w = tt
from_written first number [] (d ∷ out) low w = absurd w
from_written first number (r ∷ outputs) [] low w = absurd w
from_written first number (r ∷ outputs) (d ∷ out) low w =
    (subst (λ (n : ℕ). first ≤ n) (sym (ap (λ (f : DiskRowset). f.rowset) w.0)) low, from_written first (suc number) outputs out (omega arith) w.2)

lacks_written : (r number : ℕ) (outputs out : List RowSetData) → r < number → AreWritten number outputs out → LacksNumber r (map files_in out)
lacks_written r number [] [] low w = tt
lacks_written r number [] (d ∷ out) low w = absurd w
lacks_written r number (x ∷ outputs) [] low w = absurd w
lacks_written r number (x ∷ outputs) (d ∷ out) low w =
    (subst (λ (n : ℕ). (r == n) ≡ false) (sym (ap (λ (f : DiskRowset). f.rowset) w.0)) (grind (arith, nat_tests)), lacks_written r (suc number) outputs out (omega arith) w.2)

pub differ_written : (number : ℕ) (outputs out : List RowSetData) → AreWritten number outputs out → NumbersDiffer (map files_in out)
differ_written number [] [] w = tt
differ_written number [] (d ∷ out) w = absurd w
differ_written number (x ∷ outputs) [] w = absurd w
differ_written number (x ∷ outputs) (d ∷ out) w =
    (lacks_written (files_in d).rowset (suc number) outputs out (let e = ap (λ (f : DiskRowset). f.rowset) w.0 in omega arith) w.2, differ_written (suc number) outputs out w.2)

pub below_written : (number next last : ℕ) (outputs out : List RowSetData) → number + length outputs ≤ next → AreWritten number outputs out → RowsetsBelow (before next last) (map files_in out)
below_written number next last [] [] low w = tt
below_written number next last [] (d ∷ out) low w = absurd w
below_written number next last (x ∷ outputs) [] low w = absurd w
below_written number next last (x ∷ outputs) (d ∷ out) low w =
    (let e = ap (λ (f : DiskRowset). f.rowset) w.0 in omega arith, below_written (suc number) next last outputs out (omega arith) w.2)

pub no_dms : (out : List RowSetData) → AllByRecursion (λ (d : DiskRowset). d.last_dms ≡ 0) (map files_in out)
no_dms [] = tt
no_dms (d ∷ out) = (refl, no_dms out)

-- they are named as they are held
pub names_written : (out : List RowSetData) → AreNamed (map (meta_in 0) out) (map held_in out)
names_written [] = tt
names_written (d ∷ out) = (own_names 0 d, names_written out)

pub fresh_written : (number : ℕ) (outputs out : List RowSetData) → AreWritten number outputs out → AllByRecursion (λ (d : RowSetData). d.fresh ≡ []) out
fresh_written number [] [] w = tt
fresh_written number [] (d ∷ out) w = absurd w
fresh_written number (x ∷ outputs) [] w = absurd w
fresh_written number (x ∷ outputs) (d ∷ out) w = (w.1, fresh_written (suc number) outputs out w.2)

-- the last MemRowSet of a flush is the job's
pub last_is : (taken : List ℕ) (last own : ℕ) → mems last ≡ takes_by taken own → last ≡ own
last_is [] last own e = (let same : mems last ≡ mems own = e in cc)
last_is (r ∷ taken) last own e = absurd (let no : mems last ≡ rowsets (r ∷ taken) = e in cc)

-- ---- publishing

module _ {L D C : Type 0} (tells : Bool) (seen : D → Files) (now : D → ℕ) (leaves : D → ℕ → Files → Type 0) (n : ℕ) where
  -- once it is published the job may finish
  pub may_finish : (c d : EngineView L D C) (out : List RowSetData) (has : JobHas c n stage.Written out) → MayPublishJob tells seen now leaves c has.at.job → d.tablet ≡ c.tablet → d.upkeep.begun ≡ c.upkeep.begun → (p : IsPublished n has.at.job c d) → MayFinish d n (record has.at.job { stage = stage.Published; super = p.number })
  may_finish c d out has may tablet begun p =
      let job = has.at.job in
      let long : length job.held ≡ length out = ap length has.held ∙ length-map out held_in in
      record {
        at = refl;
        output = may.output;
        calm = ap (λ (t : View C). t.core.aloft) tablet ∙ may.calm;
        published = p.own;
        may = subst (λ (t : View C). MayChangeOver t (takes_of job) (map bare_store (outputs_of job))) (sym tablet) (record {
          alike = λ first opens q. subst (λ (hs : List Hist). AreAlike c.tablet.core.a (hists q (taken_stores (takes_of job) c.tablet)) hs) (sym (bare_hists q (outputs_of job))) ((may.holds first opens).alike q);
          sound = λ first opens q. subst (λ (hs : List Hist). AreSound c.tablet.core.a hs) (sym (bare_hists q (outputs_of job))) ((may.holds first opens).sound q);
        });
        room = subst (λ (t : View C). length t.core.stores + length job.held ≤ job.room + t.frozen + 1) (sym tablet) (subst (λ (k : ℕ). length c.tablet.core.stores + k ≤ job.room + c.tablet.frozen + 1) (sym long) has.room);
        few = subst (λ (t : View C). length t.core.stores + length job.held < 2 ^ 32) (sym tablet) (subst (λ (k : ℕ). length c.tablet.core.stores + k < 2 ^ 32) (sym long) has.few);
        given = subst (λ (k : ℕ). RowsetsBelow (before k job.last_mem) (outputs_of job)) (sym p.numbers) may.given;
        small = subst (λ (k : ℕ). k < 2 ^ 64) (sym p.numbers) may.up.1;
        begun = λ e. has.at.begun (sym begun ∙ e);
      }

  -- once its superblock is the published one it may end, and has given what its want asks for
  pub merge_ends : (c d : EngineView L D C) (w : Want) → IsMerge w → MergeIsWritten tells seen now leaves c n w → root_of d ≡ root_of c → d.upkeep.begun ≡ c.upkeep.begun → ((j : JobView) → job_of n c.upkeep ≡ Some j → IsPublished n j c d) → MayEnd d n w
  merge_ends c d w merges x root begun published =
      let job = x.has.at.job in
      let p = published job x.has.at.has in
      let later : JobView = record job { stage = stage.Published; super = p.number } in
      record {
        job = later;
        has = p.has;
        may = subst (MayEndBy d n later) (sym x.may.output) (may_finish c d x.outputs x.has x.may (p.tablet ∙ ap (λ (o : Option RowSetData). going_out o c.tablet) x.may.output) begun p);
        given = record { want_is = x.want; gives = merged_for (IsFound d) w later merges (gives_then c d job stage.Published p.number root x.gives) };
      }
