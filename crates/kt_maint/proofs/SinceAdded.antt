-- A store to which files were written twice.
use Rattle.std.proofs.Common.{◌≡◌, ◌≤◌, ℕ, Bool, Result, Ok, Err, ◌∙◌, arith}
use Rattle.std.specs.Prelude.{IfErr, max}
use Rattle.std.proofs.Math.Nat.{le-max_right, max-le}
use Rattle.kt_disk.specs.Disk.{Files}
use Rattle.kt_diskrowset.specs.declared.inputs.Outputs.{Outputs}
use Rattle.kt_outputs.specs.declared.outputs.WriteNo.{WriteNo}
use Rattle.kt_outputs.specs.declared.outputs.WriteNo.TheVariants as write_no
use Rattle.kt_outputs.proofs.Written.{left_then}
use Rattle.kt_storeside.specs.declared.side.Lent.{Lent}
use Rattle.kt_engine.specs.declared.job.JobInput.{JobInput}
use Rattle.kt_maint.specs.Outside.{HasAdded, HasWritten}
use Rattle.kt_maint.proofs.LateWritten.{rose_after}

-- file numbers below those of the turn
few_then : (went mid came most : ℕ) → mid ≤ max went most → came ≤ max mid most → came ≤ max went most
few_then went mid came most few more = let up = max-le few (le-max_right went most) in omega (arith, up, more)

pub added_then : {D : Type 0} (tells : Bool) (seen : D → Files) (now : D → ℕ) (leaves : D → ℕ → Files → Type 0) (faults : D → ℕ) (most : ℕ) (went mid came : Lent D) (first : Outputs) (since : JobInput) (r s : Result Outputs WriteNo)
    → HasAdded tells seen now leaves faults most went mid (Ok first) → mid.next_rowset ≡ went.next_rowset → HasWritten tells seen now leaves faults most since mid came r → (s ≡ Err write_no.Fault → r ≡ Err write_no.Fault) → HasAdded tells seen now leaves faults most went came s
added_then tells seen now leaves faults most went mid came first since r s added same written fault = record {
  meta = written.meta ∙ added.meta;
  up = ((let a = added.up.0 in let b = written.up.0 in omega arith), (let a = added.up.1 in let b = written.up.1 in omega arith));
  risen = (let a = written.risen in omega (arith, a, same));
  few_files = few_then went.next_file mid.next_file came.next_file most added.few_files written.few_files;
  left = λ t. left_then seen now leaves went.next_file mid.next_file came.next_file went.device mid.device came.device added.up.1 written.up.1 (added.left t) (written.left t);
  faults_rise = (let a = added.faults_rise in let b = written.faults_rise in omega arith);
  rose = λ e. rose_after (faults went.device) (faults mid.device) (faults came.device) added.faults_rise (written.rose (fault e));
}

-- what ends for want of memory alone is no fault
pub only_memory : (r : Result Outputs WriteNo) → IfErr r (λ no. no ≡ write_no.Memory) → r ≡ Err write_no.Fault → ⊥
only_memory (Ok done) only is = cc
only_memory (Err x) only is = let same : x ≡ write_no.Memory = only in cc
