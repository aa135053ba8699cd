-- Each place of what a run prints stands.
use Rattle.std.proofs.Common.{◌≡◌, ℕ, zero, suc, ◌+◌, List, [], ◌∷◌, map, Option, Some, None, Bool, true, false, refl, sym, ap, ◌∙◌, subst, arith}
use Rattle.std.specs.Prelude.{is_some, slice_get, unwrap_or, if◌then◌else◌}
use Rattle.std.specs.List.{AllByRecursion}
use Rattle.kt_base.specs.declared.cell.Kind.{Kind}
use Rattle.kt_history.specs.declared.command.Command.{Command}
use Rattle.kt_history.specs.declared.command.Command.TheVariants as command
use Rattle.kt_history.specs.declared.event.Event.{Event}
use Rattle.kt_history.specs.declared.reply.Reply.{Reply}
use Rattle.kt_history.specs.declared.reply.Reply.TheVariants.{Stopped}
use Rattle.kt_history.specs.History.{Past}
use Rattle.kt_history.specs.Machine.{Workload, State}
use Rattle.kt_history.specs.Replies.{answer, past_after}
use Rattle.kt_script.specs.declared.lists.ShownReply.{ShownReply}
use Rattle.kt_script.specs.declared.output.LastLine.TheVariants as last
use Rattle.kt_script.specs.declared.reread.Output.{Output}
use Rattle.kt_script.specs.Texts.{seen_of, seen}
use Rattle.kt_script.specs.Outputs.{IsTextOf, shown_output}
use Rattle.kt_script.proofs.Outputs.{given_again}
use Rattle.kt_judge.specs.declared.verdict.Verdict.TheVariants.{Yes}
use Rattle.kt_judge.specs.Verdicts.{Prints, ReplyStands, Stands, EndStands, IsVerdict, in_session}
use Rattle.kt_judge.specs.Verdicts as judge
use Rattle.kt_app.specs.Headline.{IsAnswered, AreAnswered, end_of, end_line, kinds_shown, shown_from, all_shown, replies_in}
use Rattle.kt_printed.specs.Printed.{printed_are_judged}

-- the judge looks under the columns under which is printed
kinds_same : (work : Workload) (c : Command) → kinds_shown work c ≡ judge.kinds_shown work c
kinds_same work (command.Write w) = refl
kinds_same work (command.Scan scan) = refl
kinds_same work (command.Mark t) = refl
kinds_same work (command.Chore chore) = refl

-- what is printed for a command, which was answered where no stop ended the history
prints : (kinds : List Kind) (stopped : Bool) (answered : Option Reply) → (stopped ≡ false → IsAnswered (unwrap_or answered Stopped)) → Prints kinds stopped answered (seen_of kinds (unwrap_or answered Stopped))
prints kinds stopped (Some r) all = refl
prints kinds true None all = (refl, refl)
prints kinds false None all = absurd (all refl)

-- for each command of a session, from the i-th on
session_stands : (work : Workload) (stopped : Bool) (f : ℕ → Option Reply) (i : ℕ) (commands : List Command) → (stopped ≡ false → AllByRecursion (λ (r : ShownReply). IsAnswered r.reply) (shown_from work f i commands))
    → (k : ℕ) → ReplyStands work stopped (slice_get commands k) (f (i + k)) (slice_get (map seen (shown_from work f i commands)) k)
session_stands work stopped f i [] all k = tt
session_stands work stopped f i (c ∷ commands) all zero =
    let shown = seen_of (kinds_shown work c) (unwrap_or (f i) Stopped) in
    let at : i ≡ i + 0 = omega arith in
    subst (λ n. Prints (judge.kinds_shown work c) stopped (f n) shown) at (subst (λ kinds. Prints kinds stopped (f i) shown) (kinds_same work c) (prints (kinds_shown work c) stopped (f i) (λ e. (all e).0)))
session_stands work stopped f i (c ∷ commands) all (suc k) =
    let at : (i + 1) + k ≡ i + suc k = omega arith in
    subst (λ n. ReplyStands work stopped (slice_get commands k) (f n) (slice_get (map seen (shown_from work f (i + 1) commands)) k)) at (session_stands work stopped f (i + 1) commands (λ e. (all e).1) k)

-- for each command of each session, from the s-th on
plan_stands : (work : Workload) (stopped : Bool) (f : ℕ → ℕ → Option Reply) (s : ℕ) (plan : List (List Command)) → (stopped ≡ false → AreAnswered (all_shown work f s plan))
    → (k i : ℕ) → ReplyStands work stopped (in_session (slice_get plan k) (suc i)) (f (s + k) (suc i)) (in_session (slice_get (map (map seen) (all_shown work f s plan)) k) (suc i))
plan_stands work stopped f s [] all k i = tt
plan_stands work stopped f s (commands ∷ plan) all zero i =
    let at : s ≡ s + 0 = omega arith in
    let on : 1 + i ≡ suc i = omega arith in
    subst (λ o. ReplyStands work stopped (slice_get commands i) o (slice_get (map seen (shown_from work (f s) 1 commands)) i)) (ap (f s) on ∙ ap (λ n. f n (suc i)) at) (session_stands work stopped (f s) 1 commands (λ e. (all e).0) i)
plan_stands work stopped f s (commands ∷ plan) all (suc k) i =
    let at : (s + 1) + k ≡ s + suc k = omega arith in
    subst (λ n. ReplyStands work stopped (in_session (slice_get plan k) (suc i)) (f n (suc i)) (in_session (slice_get (map (map seen) (all_shown work f (s + 1) plan)) k) (suc i))) at (plan_stands work stopped f (s + 1) plan (λ e. (all e).1) k i)

-- the sessions of the script are those of what is printed
sessions_same : (work : Workload) (f : ℕ → ℕ → Option Reply) (s : ℕ) (plan : List (List Command)) (k : ℕ) → is_some (slice_get plan k) ≡ is_some (slice_get (map (map seen) (all_shown work f s plan)) k)
sessions_same work f s [] k = refl
sessions_same work f s (commands ∷ plan) zero = refl
sessions_same work f s (commands ∷ plan) (suc k) = sessions_same work f (s + 1) plan k

end_stands : (rowsets : ℕ) (st : State) → EndStands st (end_line rowsets st)
end_stands rowsets st = elim st.stopped as (λ b. st.stopped ≡ b → EndStands st (if b then last.Stopped else last.Numbers st.a st.c rowsets)) [
  | true ↦ λ e. tt
  | false ↦ λ e. (e, refl, refl)
] refl

-- what is printed of a history
abbrev shown : Workload → Past → ℕ → ℕ → List Event → Output
shown work past c rowsets events = shown_output (replies_in work past c events) events (end_line rowsets (end_of work past c events))

all_stand : (work : Workload) (past : Past) (c rowsets : ℕ) (events : List Event) → ((end_of work past c events).stopped ≡ false → AreAnswered (replies_in work past c events)) → (s i : ℕ) → Stands work past c (shown work past c rowsets events) s i
all_stand work past c rowsets events all zero zero = refl
all_stand work past c rowsets events all zero (suc i) = tt
all_stand work past c rowsets events all (suc s) zero = sessions_same work (answer work (past_after work past c events) events) 1 work.plan s
all_stand work past c rowsets events all (suc s) (suc i) =
    let replies = answer work (past_after work past c events) events in
    let at : 1 + s ≡ suc s = omega arith in
    let printed = map (map seen) (replies_in work past c events) in
    subst (λ n. ReplyStands work (end_of work past c events).stopped (in_session (slice_get work.plan s) (suc i)) (replies n (suc i)) (in_session (slice_get printed s) (suc i))) at
    (plan_stands work (end_of work past c events).stopped replies 1 work.plan all s i)

pub judged : printed_are_judged
judged work past c stopped rowsets text readings events output run is =
    let same = given_again (replies_in work past c events) events (end_line rowsets (end_of work past c events)) output run.fits (subst (λ t. IsTextOf t output) run.printed is) in
    subst (λ out. IsVerdict work past c out Yes) (sym same) (run.run, all_stand work past c rowsets events (λ e. run.answered (sym run.ended ∙ e)), end_stands rowsets (end_of work past c events))
