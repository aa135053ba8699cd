-- Each command of a plan that fits its table can be run.
use Rattle.std.proofs.Common.{◌≡◌, ℕ, zero, suc, ◌+◌, ◌<◌, ◌≤◌, ◌^◌, List, [], ◌∷◌, Option, Some, None, refl, ap, arith, length}
use Rattle.std.specs.Prelude.{slice_get}
use Rattle.std.specs.List.{AllByRecursion}
use Rattle.std.proofs.lemmas.List.Sums.{sum_by-cons}
use Rattle.kt_schema.specs.declared.column.Column.{Column}
use Rattle.kt_history.specs.declared.command.Command.{Command}
use Rattle.kt_history.specs.declared.command.Command.TheVariants as command
use Rattle.kt_history.specs.Machine.{Workload, nth, command_of}
use Rattle.kt_script.specs.Scripts.{commands_in}
use Rattle.kt_script.specs.Fit.{CommandFits, PlanFits}
use Rattle.kt_serve.specs.Sessions.{CanRun}
use Rattle.kt_serve.specs.Runs.{PlanRuns}
use Rattle.kt_app.specs.Session.{IsCounted}
use Rattle.kt_tablet.specs.Plans.{CommandKeeps, PlanKeeps}
use Rattle.kt_app.proofs.Fitting.{rules, count, is_short, differ}
use Rattle.kt_app.proofs.Planned.{get_fits, nth_fits}

nth_within : {A : Type 0} (xs : List A) (k : ℕ) (x : A) → nth xs k ≡ Some x → k ≤ length xs
nth_within xs zero x h = omega arith
nth_within [] (suc k) x h = absurd cc
nth_within (y ∷ xs) (suc zero) x h = omega arith
nth_within (y ∷ xs) (suc (suc k)) x h = let le = nth_within xs (suc k) x h in omega (arith, le)

few_commands : (plan : List (List Command)) (j : ℕ) (commands : List Command) → slice_get plan j ≡ Some commands → length commands ≤ commands_in plan
few_commands [] j commands h = absurd cc
few_commands (x ∷ plan) zero commands h = let is : x ≡ commands = cc in omega (arith, ap length is, sum_by-cons (λ (c : List Command). length c) x plan)
few_commands (x ∷ plan) (suc j) commands h = omega (arith, few_commands plan j commands h, sum_by-cons (λ (c : List Command). length c) x plan)

few_nth : (plan : List (List Command)) (s : ℕ) (commands : List Command) → nth plan s ≡ Some commands → length commands ≤ commands_in plan
few_nth plan zero commands h = absurd cc
few_nth plan (suc j) commands h = few_commands plan j commands h

module _ (columns : List Column) (counted : IsCounted columns) where
  can_run : (i : ℕ) (c : Command) → i + 1 < 2 ^ 32 → CommandFits columns c → CanRun i c
  can_run i (command.Write w) few fits = record { count = count columns counted w.ops fits; each = rules columns counted w.ops fits; short = is_short columns counted w.ops fits; few = few }
  can_run i (command.Scan scan) few fits = few
  can_run i (command.Mark t) few fits = few
  can_run i (command.Chore chore) few fits = few

  pub plan_runs : (plan : List (List Command)) → PlanFits columns plan → PlanRuns plan
  plan_runs plan fits = record {
    runs = λ j commands is k c has.
        can_run k c (omega (arith, nth_within commands k c has, few_commands plan j commands is, fits.commands))
        (nth_fits (CommandFits columns) commands k c (get_fits (AllByRecursion (CommandFits columns)) plan j commands fits.each is) has);
    few = λ j commands is. omega (arith, few_commands plan j commands is, fits.commands);
  }

  command_keeps : (c : Command) → CommandFits columns c → CommandKeeps c
  command_keeps (command.Write w) fits = record { count = count columns counted w.ops fits; each = rules columns counted w.ops fits; keys = differ w.ops fits.apart; short = is_short columns counted w.ops fits }
  command_keeps (command.Scan scan) fits = tt
  command_keeps (command.Mark t) fits = tt
  command_keeps (command.Chore chore) fits = tt

  -- and it keeps the rules and limits of a plan
  pub plan_keeps : (work : Workload) → PlanFits columns work.plan → PlanKeeps work
  plan_keeps work fits s i c has = by (nth work.plan s) refl has
    where
      by : (o : Option (List Command)) → nth work.plan s ≡ o → command_of o i ≡ Some c → (i + 1 < 2 ^ 32) × CommandKeeps c
      by None e h = absurd cc
      by (Some commands) e h = (
        omega (arith, nth_within commands i c h, few_nth work.plan s commands e, fits.commands),
        command_keeps c (nth_fits (CommandFits columns) commands i c (nth_fits (AllByRecursion (CommandFits columns)) work.plan s commands fits.each e) h),
      )
