-- What a plan keeps to, said of a command of it.
use Rattle.std.proofs.Common.{◌≡◌, ℕ, zero, suc, ◌+◌, ◌<◌, ◌^◌, List, [], Option, Some, None, refl, subst}
use Rattle.kt_history.specs.declared.command.Command.{Command}
use Rattle.kt_history.specs.declared.command.Command.TheVariants as command
use Rattle.kt_history.specs.declared.operation.RowOp.{RowOp}
use Rattle.kt_history.specs.declared.scan.At.{At}
use Rattle.kt_history.specs.Machine.{Workload, HasDifferentKeys, command_at, ops_of, IfWrite, IfScan, IfMark, IsChore}
use Rattle.kt_history.specs.Operations.{DifferentKeys}
use Rattle.kt_tablet.specs.Plans.{WriteKeeps, CommandKeeps, PlanKeeps}
use Rattle.kt_tablet.specs.Views.{View, IsSound}

-- a place in a plan, if it has a command, keeps to it
abbrev Keeps : ℕ → Option Command → Type 0
Keeps i o = (c : Command) → o ≡ Some c → (i + 1 < 2 ^ 32) × CommandKeeps c

keeps_write : (i : ℕ) (o : Option Command) (ops : List RowOp) → Keeps i o → IfWrite o (λ written. written ≡ ops) → (i + 1 < 2 ^ 32) × WriteKeeps ops
keeps_write i (Some (command.Write w)) ops keeps h = let k = keeps (command.Write w) refl in (k.0, subst WriteKeeps h k.1)
keeps_write i (Some (command.Scan scan)) ops keeps h = absurd h
keeps_write i (Some (command.Mark t)) ops keeps h = absurd h
keeps_write i (Some (command.Chore chore)) ops keeps h = absurd h
keeps_write i None ops keeps h = absurd h

few_write : (i : ℕ) (o : Option Command) (P : List RowOp → Type 0) → Keeps i o → IfWrite o P → i + 1 < 2 ^ 32
few_write i (Some (command.Write w)) P keeps h = (keeps (command.Write w) refl).0
few_write i (Some (command.Scan scan)) P keeps h = absurd h
few_write i (Some (command.Mark t)) P keeps h = absurd h
few_write i (Some (command.Chore chore)) P keeps h = absurd h
few_write i None P keeps h = absurd h

few_scan : (i : ℕ) (o : Option Command) (P : At → Type 0) → Keeps i o → IfScan o P → i + 1 < 2 ^ 32
few_scan i (Some (command.Write w)) P keeps h = absurd h
few_scan i (Some (command.Scan scan)) P keeps h = (keeps (command.Scan scan) refl).0
few_scan i (Some (command.Mark t)) P keeps h = absurd h
few_scan i (Some (command.Chore chore)) P keeps h = absurd h
few_scan i None P keeps h = absurd h

few_mark : (i : ℕ) (o : Option Command) (P : ℕ → Type 0) → Keeps i o → IfMark o P → i + 1 < 2 ^ 32
few_mark i (Some (command.Write w)) P keeps h = absurd h
few_mark i (Some (command.Scan scan)) P keeps h = absurd h
few_mark i (Some (command.Mark t)) P keeps h = (keeps (command.Mark t) refl).0
few_mark i (Some (command.Chore chore)) P keeps h = absurd h
few_mark i None P keeps h = absurd h

few_chore : (i : ℕ) (o : Option Command) → Keeps i o → IsChore o → i + 1 < 2 ^ 32
few_chore i (Some (command.Write w)) keeps h = absurd h
few_chore i (Some (command.Scan scan)) keeps h = absurd h
few_chore i (Some (command.Mark t)) keeps h = absurd h
few_chore i (Some (command.Chore chore)) keeps h = (keeps (command.Chore chore) refl).0
few_chore i None keeps h = absurd h

-- the command of a session that is due, of a tablet that stands
module _ {C : Type 0} {readings : C → Option (List ℕ)} {view : View C} (sound : IsSound readings view) (s i : ℕ) where
  pub write_keeps : (ops : List RowOp) → IfWrite (command_at view.core.work s i) (λ written. written ≡ ops) → (i + 1 < 2 ^ 32) × WriteKeeps ops
  write_keeps ops h = keeps_write i (command_at view.core.work s i) ops (sound.plan s i) h

  pub write_few : (P : List RowOp → Type 0) → IfWrite (command_at view.core.work s i) P → i + 1 < 2 ^ 32
  write_few P h = few_write i (command_at view.core.work s i) P (sound.plan s i) h

  pub scan_few : (P : At → Type 0) → IfScan (command_at view.core.work s i) P → i + 1 < 2 ^ 32
  scan_few P h = few_scan i (command_at view.core.work s i) P (sound.plan s i) h

  pub mark_few : (P : ℕ → Type 0) → IfMark (command_at view.core.work s i) P → i + 1 < 2 ^ 32
  mark_few P h = few_mark i (command_at view.core.work s i) P (sound.plan s i) h

  pub chore_few : IsChore (command_at view.core.work s i) → i + 1 < 2 ^ 32
  chore_few h = few_chore i (command_at view.core.work s i) (sound.plan s i) h

-- the keys of each of its writes differ
pub keys_differ : (work : Workload) → PlanKeeps work → HasDifferentKeys work
keys_differ work keeps s i = by (command_at work s i) (keeps s i)
  where
    by : (o : Option Command) → Keeps i o → DifferentKeys (ops_of o)
    by (Some (command.Write w)) k = (k (command.Write w) refl).1.keys
    by (Some (command.Scan scan)) k = tt
    by (Some (command.Mark t)) k = tt
    by (Some (command.Chore chore)) k = tt
    by None k = tt

-- where there is no command, each does
pub none_planned : (work : Workload) → work.plan ≡ [] → PlanKeeps work
none_planned work none s i c at = absurd (by s (subst (λ p. command_at (record work { plan = p }) s i ≡ Some c) none at))
  where
    nothing : None ≡ Some c → ⊥
    nothing e = cc

    by : (s : ℕ) → command_at (record work { plan = [] }) s i ≡ Some c → ⊥
    by zero e = nothing e
    by (suc k) e = nothing e
