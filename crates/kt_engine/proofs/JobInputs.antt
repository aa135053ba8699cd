-- What a job reads, a flush or a compaction, as of the last timestamp and with its mark.
use Rattle.std.proofs.Common.{◌≡◌, ◌<◌, ◌^◌, ℕ, suc, min, Bool, List, [], ◌∷◌, take, length, Option, None, Result, refl, sym, ap, ◌∙◌, subst, arith}
use Rattle.std.specs.Prelude.{◌≢◌, IsTrue, IfOk}
use Rattle.kt_bytes.specs.declared.memory.NoMemory.{NoMemory}
use Rattle.kt_disk.specs.Disk.{Files}
use Rattle.kt_history.specs.Grown.{AllGrown}
use Rattle.kt_history.specs.History.{Past}
use Rattle.kt_content.specs.Rules.{Rules}
use Rattle.kt_diskrowset.specs.declared.inputs.Inputs.{Inputs}
use Rattle.kt_merge.specs.Merge.{AreFaultless}
use Rattle.kt_tablet.specs.Views.{View, Opens, IsSound}
use Rattle.kt_engine.specs.Columns.{ReadsMemory, ReadsRowsets, ReadsInputs}
use Rattle.kt_engine.specs.Engines.{EngineView, IsContent, IsEngine}
use Rattle.kt_engine.specs.JobSteps.{HasInput, TellAll, TellPassing}
use Rattle.kt_engine.specs.Logged.{PlanPasses}
use Rattle.kt_engine.specs.Over.{AreShelved}
use Rattle.kt_engine.specs.Stored.{IsStored}
use Rattle.kt_engine.proofs.Snapshots.{input_is, tells_all, without_fault, passes_by}
use Rattle.kt_engine.proofs.TakenRead.{readable_rowsets, tell_taken, none_faulty, passing_taken}

pub flush_reads : {C : Type 0} (tablet : View C) (taken : List ℕ) (upto : ℕ) (read : Result Inputs NoMemory) → taken ≡ [] → IfOk read (ReadsMemory tablet upto) → IfOk read (ReadsInputs tablet taken upto)
flush_reads tablet taken upto read none h = subst (λ (l : List ℕ). IfOk read (ReadsInputs tablet l upto)) (sym none) h

pub compaction_reads : {C : Type 0} (tablet : View C) (taken : List ℕ) (upto : ℕ) (read : Result Inputs NoMemory) → taken ≢ [] → IfOk read (ReadsRowsets tablet taken) → IfOk read (ReadsInputs tablet taken upto)
compaction_reads tablet [] upto read some h = absurd (some refl)
compaction_reads tablet (r ∷ taken) upto read some h = h

-- what stands of the tablet as a job reads it
pub record MayRead {C : Type 0} (readings : C → Option (List ℕ)) (tablet : View C) : Type 0 where
  pub grown : AllGrown (take (suc tablet.frozen) tablet.core.stores)
  pub sound : IsSound readings tablet
  pub shelved : AreShelved (suc tablet.frozen) (2 ^ 64) tablet.names
  pub named : length tablet.names ≡ length tablet.core.stores

pub its_input : {C : Type 0} (readings : C → Option (List ℕ)) (tablet : View C) (taken : List ℕ) (inputs : Inputs) (upto mark : ℕ) → MayRead readings tablet → upto ≡ tablet.core.c → mark ≡ min upto tablet.core.a → ReadsInputs tablet taken upto inputs → HasInput tablet taken inputs upto mark
its_input readings tablet [] inputs upto mark may last marked reads = input_is readings tablet inputs upto mark last reads may.grown marked
its_input readings tablet (r ∷ taken) inputs upto mark may last marked reads = record {
  bound_is = last;
  mark_is = marked;
  reads = (reads.mems, reads.rowsets_are);
  readable = readable_rowsets readings tablet (r ∷ taken) inputs reads may.shelved may.named;
  files = reads.files;
  few = reads.few;
}

pub its_tells : {C : Type 0} (readings : C → Option (List ℕ)) (tablet : View C) (taken : List ℕ) (inputs : Inputs) (upto mark : ℕ) → MayRead readings tablet → upto ≡ tablet.core.c → mark ≡ min upto tablet.core.a → ReadsInputs tablet taken upto inputs
    → (first : Past) → Opens tablet.opening tablet.mark tablet.core.opened first → TellAll tablet taken upto inputs
its_tells readings tablet [] inputs upto mark may last marked reads first opens = tells_all readings tablet inputs upto mark last reads may.grown may.sound marked first opens
its_tells readings tablet (r ∷ taken) inputs upto mark may last marked reads first opens =
    subst (λ (n : ℕ). TellAll tablet (r ∷ taken) n inputs) (sym last) (tell_taken readings tablet (r ∷ taken) inputs reads may.shelved may.named may.sound first opens)

-- the mark of a job is the tablet's
own_mark : {C : Type 0} (readings : C → Option (List ℕ)) (tablet : View C) (upto mark : ℕ) → IsSound readings tablet → upto ≡ tablet.core.c → mark ≡ min upto tablet.core.a → (first : Past) → Opens tablet.opening tablet.mark tablet.core.opened first → mark ≡ tablet.core.a
own_mark readings tablet upto mark sound last marked first opens = marked ∙ ap (λ (n : ℕ). min n tablet.core.a) last ∙ (let low = (sound.stands first opens).flown.marked in omega arith)

pub its_faultless : {C : Type 0} (readings : C → Option (List ℕ)) (tablet : View C) (taken : List ℕ) (inputs : Inputs) (upto mark : ℕ) → MayRead readings tablet → upto ≡ tablet.core.c → mark ≡ min upto tablet.core.a → ReadsInputs tablet taken upto inputs
    → (first : Past) → Opens tablet.opening tablet.mark tablet.core.opened first → upto < 2 ^ 64 → AreFaultless (record { mark = mark; bound = upto }) inputs
its_faultless readings tablet [] inputs upto mark may last marked reads first opens small = without_fault readings tablet inputs upto mark last reads may.grown may.sound marked first opens small
its_faultless readings tablet (r ∷ taken) inputs upto mark may last marked reads first opens small =
    subst (λ (n : ℕ). AreFaultless (record { mark = n; bound = upto }) inputs) (sym (own_mark readings tablet upto mark may.sound last marked first opens))
    (subst (λ (n : ℕ). AreFaultless (record { mark = tablet.core.a; bound = n }) inputs) (sym last) (none_faulty readings tablet (r ∷ taken) inputs reads may.shelved may.named may.sound first opens (subst (λ (n : ℕ). n < 2 ^ 64) last small)))

-- and by the rules of the table
pub its_passing : {L D C : Type 0} (log_tells : Bool) (log_seen : L → Files) (log_now : L → ℕ) (log_leaves : L → ℕ → Files → Type 0) (log_faults : L → ℕ) (tells : Bool) (seen : D → Files) (faults : D → ℕ) (readings : C → Option (List ℕ)) (view : EngineView L D C)
    → IsEngine log_tells log_seen log_now log_leaves log_faults view × IsStored log_tells log_seen tells seen faults view → (taken : List ℕ) (inputs : Inputs) (upto mark : ℕ) → MayRead readings view.tablet → upto ≡ view.tablet.core.c → mark ≡ min upto view.tablet.core.a
    → ReadsInputs view.tablet taken upto inputs → view.upkeep.publishing ≡ None → view.tablet.core.aloft ≡ [] → IsTrue tells → (rules : Rules) (first : Past) → IsContent rules view first → PlanPasses rules view.tablet.core.work → TellPassing rules upto mark inputs
its_passing log_tells log_seen log_now log_leaves log_faults tells seen faults readings view is [] inputs upto mark may last marked reads free calm t rules first content plan =
    passes_by log_tells log_seen log_now log_leaves log_faults tells seen faults readings view is inputs upto mark last reads may.grown may.sound may.named free calm marked t rules first content plan
its_passing log_tells log_seen log_now log_leaves log_faults tells seen faults readings view is (r ∷ taken) inputs upto mark may last marked reads free calm t rules first content plan =
    subst (λ (n : ℕ). TellPassing rules upto n inputs) (sym (own_mark readings view.tablet upto mark may.sound last marked first content.opens))
    (subst (λ (n : ℕ). TellPassing rules n view.tablet.core.a inputs) (sym last)
    (passing_taken log_tells log_seen tells seen faults view is.1 (r ∷ taken) free calm t rules first content plan readings inputs reads may.sound may.shelved may.named))
