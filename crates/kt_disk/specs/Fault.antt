-- A failing disk: what it passes its calls on to, and which calls it fails.
use Rattle.std.specs.Prelude.{◌≡◌, ℕ, ◌+◌, ◌-◌, ◌≤◌, ◌^◌, ◌==◌, ◌||◌, Bool, true, false, min, List, [], ◌∷◌, Result, Err, IsErr, if◌then◌else◌}
use Rattle.kt_base.specs.Causes.{Rose, HasCause}
use Rattle.kt_base.specs.Listed.{next, faults_after}
use Rattle.kt_disk.specs.declared.disk.DiskNo.{DiskNo}
use Rattle.kt_disk.specs.declared.disk.DiskNo.TheVariants as disk_no
use Rattle.kt_disk.specs.declared.fault.FaultDisk.{FaultDisk}
use Rattle.kt_disk.specs.declared.fault.Plan.{Plan}
use Rattle.kt_disk.specs.declared.lists.Fail.{Fail}
use Rattle.kt_disk.specs.declared.lists.Fail.TheVariants as fail

abbrev pub inner_of : {D : Type 0} → FaultDisk D → D
inner_of disk = disk.inner

abbrev pub plan_of : {D : Type 0} → FaultDisk D → Plan
plan_of disk = disk.plan.value

-- what holds of the inner disk
abbrev pub through {ℓ} : {D : Type 0} {A : Type ℓ} → (D → A) → FaultDisk D → A
through of disk = of disk.inner

-- its own faults and those of the inner disk
abbrev pub all_faults : {D : Type 0} → (D → ℕ) → FaultDisk D → ℕ
all_faults faults disk = min (faults disk.inner + disk.plan.value.faults) (2 ^ 64 - 1)

-- no call was made yet
abbrev pub untouched : List Fail → Plan
untouched fails = record { fails = fails; calls = 0; changes = 0; faults = 0 }

abbrev pub is_listed_call : List Fail → ℕ → Bool
is_listed_call [] n = false
is_listed_call (fail.Any k ∷ fails) n = if k == n then true else is_listed_call fails n
is_listed_call (fail.Change k ∷ fails) n = is_listed_call fails n

abbrev pub is_listed_change : List Fail → ℕ → Bool
is_listed_change [] n = false
is_listed_change (fail.Any k ∷ fails) n = is_listed_change fails n
is_listed_change (fail.Change k ∷ fails) n = if k == n then true else is_listed_change fails n

-- the next call fails, which changes no file
abbrev pub fails_look : Plan → Bool
fails_look plan = is_listed_call plan.fails (next plan.calls)

-- the next call fails, which changes a file
abbrev pub fails_change : Plan → Bool
fails_change plan = is_listed_call plan.fails (next plan.calls) || is_listed_change plan.fails (next plan.changes)

abbrev pub after_look : Plan → Plan
after_look plan = record { fails = plan.fails; calls = next plan.calls; changes = plan.changes; faults = faults_after (fails_look plan) plan.faults }

abbrev pub after_change : Plan → Plan
after_change plan = record { fails = plan.fails; calls = next plan.calls; changes = next plan.changes; faults = faults_after (fails_change plan) plan.faults }

-- A call that is listed fails, and the inner disk is as it was. Any other is the inner disk's, and fails only where
-- the count of that disk rose.
abbrev pub FailsIf : {D T E : Type 0} → (D → ℕ) → Bool → FaultDisk D → FaultDisk D → Result T E → Type 0
FailsIf faults true old new result = IsErr result × (inner_of new ≡ inner_of old)
FailsIf faults false old new result = HasCause (through faults old) (through faults new) result

-- the same of a list of files, which may also want memory
abbrev pub FailsFilesIf : {D T : Type 0} → (D → ℕ) → Bool → FaultDisk D → FaultDisk D → Result T DiskNo → Type 0
FailsFilesIf faults true old new result = (result ≡ Err disk_no.Failed) × (inner_of new ≡ inner_of old)
FailsFilesIf faults false old new result = (result ≡ Err disk_no.Failed → Rose (through faults old) (through faults new)) × (through faults old ≤ through faults new)
