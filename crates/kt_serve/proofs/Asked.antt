-- A run answers the commands of its plan alone.
use Rattle.std.proofs.Common.{◌≡◌, ℕ, List, [], ◌∷◌, ◌++◌, Option, Some, None, true, false, Bool, ◌||◌, cond, refl, sym, ap, ◌∙◌}
use Rattle.std.specs.Prelude.{◌==◌, ◌&&◌, not}
use Rattle.std.specs.List.{list_any, filter}
use Rattle.std.proofs.lemmas.Bool.{eqb-true}
use Rattle.kt_history.specs.declared.command.Command.{Command}
use Rattle.kt_history.specs.declared.event.Event.{Event}
use Rattle.kt_history.specs.declared.event.Event.TheVariants as event
use Rattle.kt_history.specs.declared.operation.RowOp.{RowOp}
use Rattle.kt_history.specs.declared.reply.Reply.{Reply}
use Rattle.kt_history.specs.declared.scan.At.{At}
use Rattle.kt_history.specs.Machine.{Workload, State, Flying, command_at, IfWrite, IfScan, IfMark, IsChore, Allowed, after, IsRunFrom}
use Rattle.kt_history.specs.Replies.{told, answers, is_of, reply_of}

-- ---- answers are to commands

-- the plan has command i of session s
abbrev pub IsAsked : Workload → ℕ → ℕ → Type 0
IsAsked work s i = (command : Command) × (command_at work s i ≡ Some command)

-- each flying write is of a command
abbrev pub AreAsked : Workload → List Flying → Type 0
AreAsked work [] = Unit {0}
AreAsked work (w ∷ flying) = IsAsked work w.s w.i × AreAsked work flying

some_write : (o : Option Command) (P : List RowOp → Type 0) → IfWrite o P → (command : Command) × (o ≡ Some command)
some_write None P h = absurd h
some_write (Some command) P h = (command, refl)

some_scan : (o : Option Command) (P : At → Type 0) → IfScan o P → (command : Command) × (o ≡ Some command)
some_scan None P h = absurd h
some_scan (Some command) P h = (command, refl)

some_mark : (o : Option Command) (P : ℕ → Type 0) → IfMark o P → (command : Command) × (o ≡ Some command)
some_mark None P h = absurd h
some_mark (Some command) P h = (command, refl)

some_chore : (o : Option Command) → IsChore o → (command : Command) × (o ≡ Some command)
some_chore None h = absurd h
some_chore (Some command) h = (command, refl)

pub two : (a b : Bool) → (a && b) ≡ true → (a ≡ true) × (b ≡ true)
two true true h = (refl, refl)
two true false h = absurd cc
two false b h = absurd cc

pub first_two : (a b c : Bool) → (a && b && c) ≡ true → (a ≡ true) × (b ≡ true)
first_two true true c h = (refl, refl)
first_two true false c h = absurd cc
first_two false b c h = absurd cc

-- the same command by equal numbers
same_asked : (work : Workload) (s i s' i' : ℕ) → s ≡ s' → i ≡ i' → IsAsked work s' i' → IsAsked work s i
same_asked work s i s' i' e f h = (h.0, ap (λ n. command_at work n i) e ∙ ap (command_at work s') f ∙ h.1)

of_asked : (work : Workload) (s i s' i' : ℕ) → is_of s i s' i' ≡ true → IsAsked work s' i' → IsAsked work s i
of_asked work s i s' i' h asked = let both = two (s == s') (i == i') h in same_asked work s i s' i' (eqb-true s s' both.0) (eqb-true i i' both.1) asked

flying_asked : (work : Workload) (flying : List Flying) (s i ts : ℕ) → AreAsked work flying → list_any (λ w. (w.s == s) && (w.i == i) && (w.ts == ts)) flying ≡ true → IsAsked work s i
flying_asked work [] s i ts all any = absurd cc
flying_asked work (w ∷ flying) s i ts all any =
    elim ((w.s == s) && (w.i == i) && (w.ts == ts)) as (λ b. ((w.s == s) && (w.i == i) && (w.ts == ts)) ≡ b → (b || list_any (λ v. (v.s == s) && (v.i == i) && (v.ts == ts)) flying) ≡ true → IsAsked work s i) [
      | true ↦ λ its h. let both = first_two (w.s == s) (w.i == i) (w.ts == ts) its in same_asked work s i w.s w.i (sym (eqb-true w.s s both.0)) (sym (eqb-true w.i i both.1)) all.0
      | false ↦ λ its h. flying_asked work flying s i ts all.1 h
    ] refl any

asked_more : (work : Workload) (flying : List Flying) (w : Flying) → AreAsked work flying → IsAsked work w.s w.i → AreAsked work (flying ++ w ∷ [])
asked_more work [] w all one = (one, tt)
asked_more work (v ∷ flying) w all one = (all.0, asked_more work flying w all.1 one)

asked_fewer : (work : Workload) (p : Flying → Bool) (flying : List Flying) → AreAsked work flying → AreAsked work (filter p flying)
asked_fewer work p [] all = tt
asked_fewer work p (v ∷ flying) all = elim (p v) as (λ b. AreAsked work (cond b (v ∷ filter p flying) (filter p flying))) [
  | true ↦ (all.0, asked_fewer work p flying all.1)
  | false ↦ asked_fewer work p flying all.1
]

after_asked : (work : Workload) (st : State) (e : Event) → Allowed work st e → AreAsked work st.flying → AreAsked work (after work st e).flying
after_asked work st (event.Begin s i ts m) may all = asked_more work st.flying _ all (some_write _ _ may.2)
after_asked work st (event.End s i ts) may all = asked_fewer work (λ w. not (w.s == s)) st.flying all
after_asked work st (event.Look s i t m) may all = all
after_asked work st (event.Rows s i t) may all = all
after_asked work st (event.Ancient s i t a) may all = all
after_asked work st (event.Busy s i t f) may all = all
after_asked work st (event.Mark s i a) may all = all
after_asked work st (event.Chore s i) may all = all
after_asked work st (event.Large s i n) may all = all
after_asked work st event.Stop may all = all

-- a line that answers a command answers one of the plan
line_asked : (work : Workload) (st : State) (e : Event) (j k : ℕ) → Allowed work st e → AreAsked work st.flying → answers j k e ≡ true → IsAsked work j k
line_asked work st (event.Begin s i ts m) j k may all h = absurd cc
line_asked work st (event.End s i ts) j k may all h = of_asked work j k s i h (flying_asked work st.flying s i ts all may.1)
line_asked work st (event.Look s i t m) j k may all h = absurd cc
line_asked work st (event.Rows s i t) j k may all h = of_asked work j k s i h (some_scan _ _ may.1)
line_asked work st (event.Ancient s i t a) j k may all h = of_asked work j k s i h (some_scan _ _ may.1)
line_asked work st (event.Busy s i t f) j k may all h = of_asked work j k s i h (some_scan _ _ may.2)
line_asked work st (event.Mark s i a) j k may all h = of_asked work j k s i h (some_mark _ _ may.2)
line_asked work st (event.Chore s i) j k may all h = of_asked work j k s i h (some_chore _ may.2)
line_asked work st (event.Large s i n) j k may all h = of_asked work j k s i h (some_write _ _ may.2)
line_asked work st event.Stop j k may all h = absurd cc

pub told_asked : (work : Workload) (st : State) (lines : List Event) (j k : ℕ) (r : Reply) → IsRunFrom work st lines → AreAsked work st.flying → told work st lines j k ≡ Some r → IsAsked work j k
told_asked work st [] j k r run all h = absurd cc
told_asked work st (e ∷ lines) j k r run all h =
    elim (answers j k e) as (λ b. answers j k e ≡ b → cond b (reply_of work st.past e) (told work (after work st e) lines j k) ≡ Some r → IsAsked work j k) [
      | true ↦ λ its _. line_asked work st e j k run.0 all its
      | false ↦ λ _ rest. told_asked work (after work st e) lines j k r run.1 (after_asked work st e run.0 all) rest
    ] refl h
