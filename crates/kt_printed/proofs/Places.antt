-- A fact of each command of a plan is one of the command at each place.
use Rattle.std.proofs.Common.{ℕ, zero, suc, List, [], ◌∷◌, Option, Some, None}
use Rattle.std.specs.Prelude.{IfSome, slice_get}
use Rattle.std.specs.List.{AllByRecursion}
use Rattle.kt_history.specs.declared.command.Command.{Command}
use Rattle.kt_history.specs.Machine.{Workload, command_at, command_of}

at_place : {A : Type 0} (P : A → Type 0) (xs : List A) (k : ℕ) → AllByRecursion P xs → IfSome (slice_get xs k) P
at_place P [] k all = tt
at_place P (x ∷ xs) zero all = all.0
at_place P (x ∷ xs) (suc k) all = at_place P xs k all.1

in_session : (P : Command → Type 0) (o : Option (List Command)) (i : ℕ) → IfSome o (AllByRecursion P) → IfSome (command_of o i) P
in_session P None i all = tt
in_session P (Some commands) zero all = tt
in_session P (Some commands) (suc i) all = at_place P commands i all

pub at_command : (P : Command → Type 0) (work : Workload) (s i : ℕ) → AllByRecursion (AllByRecursion P) work.plan → IfSome (command_at work s i) P
at_command P work zero i all = tt
at_command P work (suc s) i all = in_session P (slice_get work.plan s) i (at_place (AllByRecursion P) work.plan s all)
