-- A command that a session has still to come to is not answered yet.
use Rattle.std.proofs.Common.{◌≡◌, ◌⊎◌, inl, inr, ℕ, zero, suc, ◌+◌, ◌<◌, ◌≤◌, List, [], ◌∷◌, ◌++◌, Option, Some, None, true, false, ◌||◌, cond, refl, sym, ap, ◌∙◌, subst, arith, eq-eqb}
use Rattle.std.specs.Prelude.{◌==◌, ◌&&◌, not, slice_get, slice_set, IfOk, OnOk, Result, Ok, Err}
use Rattle.std.specs.List.{list_any, filter}
use Rattle.std.proofs.lemmas.Bool.{eqb-true}
use Rattle.kt_history.specs.declared.command.Command.{Command}
use Rattle.kt_history.specs.declared.command.Command.TheVariants as command
use Rattle.kt_history.specs.declared.event.Event.{Event}
use Rattle.kt_history.specs.declared.event.Event.TheVariants as event
use Rattle.kt_history.specs.declared.reply.Reply.{Reply}
use Rattle.kt_history.specs.declared.reply.Reply.TheVariants as reply
use Rattle.kt_history.specs.History.{Past}
use Rattle.kt_history.specs.Machine.{Workload, State, Flying, Turn, nth, set_nth, IsNext, IfScan, ReadsAt, look_for, Allowed, after, state_after, start, IsRunFrom, IsRun}
use Rattle.kt_history.specs.Replies.{told, answers, is_of, reply_of}
use Rattle.kt_tablet.specs.Views.{IsSound}
use Rattle.kt_seatlock.specs.Trails.{Follows}
use Rattle.kt_engine.specs.Engines.{EngineView}
use Rattle.kt_engine.specs.Visits.{Root, root_of, PartView, part_in, session_of}
use Rattle.kt_bytes.specs.declared.memory.NoMemory.{NoMemory}
use Rattle.kt_histlaws.specs.Histories.{or_else}
use Rattle.kt_serve.specs.Sessions.{Found, told_by, OnRoot, IsGoing, AfterCommand}
use Rattle.kt_serve.specs.Answered.{IsOpen, IsAnswered}
use Rattle.kt_serve.proofs.Asked.{two, first_two}
use Rattle.kt_serve.proofs.Lines.{follows_quiet}
use Rattle.kt_serve.proofs.Flights.{nth_set_nth}
use Rattle.kt_serve.proofs.Begins.{some_is, root_at}
use Rattle.kt_serve.proofs.Tells.{answered_of}

get_other : {A : Type 0} (xs : List A) (j k : ℕ) (x : A) → (j ≡ k → ⊥) → slice_get (slice_set xs j x) k ≡ slice_get xs k
get_other [] j k x ne = refl
get_other (y ∷ xs) zero zero x ne = absurd (ne refl)
get_other (y ∷ xs) zero (suc k) x ne = refl
get_other (y ∷ xs) (suc j) zero x ne = refl
get_other (y ∷ xs) (suc j) (suc k) x ne = get_other xs j k x (λ e. ne (ap suc e))

-- what stands elsewhere stays
nth_other : {A : Type 0} (xs : List A) (s k : ℕ) (x : A) → (s ≡ k → ⊥) → nth (set_nth xs s x) k ≡ nth xs k
nth_other xs zero k x ne = refl
nth_other xs (suc s) zero x ne = refl
nth_other xs (suc s) (suc k) x ne = get_other xs s k x (λ e. ne (ap suc e))

-- each flying write is the next command of its session
abbrev AreNext : List Turn → List Flying → Type 0
AreNext turns [] = Unit {0}
AreNext turns (w ∷ flying) = (nth turns w.s ≡ Some (record { next = w.i; look = None })) × AreNext turns flying

next_more : (turns : List Turn) (flying : List Flying) (w : Flying) → AreNext turns flying → nth turns w.s ≡ Some (record { next = w.i; look = None }) → AreNext turns (flying ++ w ∷ [])
next_more turns [] w all one = (one, tt)
next_more turns (v ∷ flying) w all one = (all.0, next_more turns flying w all.1 one)

other : (a b : ℕ) → (a == b) ≡ false → b ≡ a → ⊥
other a b is e = let yes : (a == b) ≡ true = eq-eqb a b (sym e) in cc

-- another session goes on
next_beside : (turns : List Turn) (flying : List Flying) (s : ℕ) (t : Turn) → AreNext turns flying → list_any (λ w. w.s == s) flying ≡ false → AreNext (set_nth turns s t) flying
next_beside turns [] s t all none = tt
next_beside turns (v ∷ flying) s t all none =
    elim (v.s == s) as (λ b. v.s == s ≡ b → (b || list_any (λ w. w.s == s) flying) ≡ false → AreNext (set_nth turns s t) (v ∷ flying)) [
      | true ↦ λ is h. absurd cc
      | false ↦ λ is h. (nth_other turns s v.s t (other v.s s is) ∙ all.0, next_beside turns flying s t all.1 h)
    ] refl none

-- a session goes on whose write flies no more
next_fewer : (turns : List Turn) (flying : List Flying) (s : ℕ) (t : Turn) → AreNext turns flying → AreNext (set_nth turns s t) (filter (λ w. not (w.s == s)) flying)
next_fewer turns [] s t all = tt
next_fewer turns (v ∷ flying) s t all =
    elim (v.s == s) as (λ b. v.s == s ≡ b → AreNext (set_nth turns s t) (cond (not b) (v ∷ filter (λ w. not (w.s == s)) flying) (filter (λ w. not (w.s == s)) flying))) [
      | true ↦ λ is. next_fewer turns flying s t all.1
      | false ↦ λ is. (nth_other turns s v.s t (other v.s s is) ∙ all.0, next_fewer turns flying s t all.1)
    ] refl

flying_next : (turns : List Turn) (flying : List Flying) (s i ts : ℕ) → AreNext turns flying → list_any (λ w. (w.s == s) && (w.i == i) && (w.ts == ts)) flying ≡ true → nth turns s ≡ Some (record { next = i; look = None })
flying_next turns [] s i ts all any = absurd cc
flying_next turns (w ∷ flying) s i ts all any =
    elim ((w.s == s) && (w.i == i) && (w.ts == ts)) as (λ b. ((w.s == s) && (w.i == i) && (w.ts == ts)) ≡ b → (b || list_any (λ v. (v.s == s) && (v.i == i) && (v.ts == ts)) flying) ≡ true → nth turns s ≡ Some (record { next = i; look = None })) [
      | true ↦ λ its h.
          let both = first_two (w.s == s) (w.i == i) (w.ts == ts) its in
          ap (nth turns) (sym (eqb-true w.s s both.0)) ∙ all.0 ∙ ap (λ n. Some (record { next = n; look = None })) (eqb-true w.i i both.1)
      | false ↦ λ its h. flying_next turns flying s i ts all.1 h
    ] refl any

-- a scan that is answered is the next command of its session
scan_next : (st : State) (s i t : ℕ) (o : Option Command) → IfScan o (λ w. ReadsAt w t × IsNext st s i (look_for w t)) → (look : Option ℕ) × IsNext st s i look
scan_next st s i t None h = absurd h
scan_next st s i t (Some (command.Write w)) h = absurd h
scan_next st s i t (Some (command.Scan scan)) h = (look_for scan.at t, h.1)
scan_next st s i t (Some (command.Mark a)) h = absurd h
scan_next st s i t (Some (command.Chore chore)) h = absurd h

after_next : (work : Workload) (st : State) (e : Event) → Allowed work st e → AreNext st.turns st.flying → AreNext (after work st e).turns (after work st e).flying
after_next work st (event.Begin s i ts m) may all = next_more st.turns st.flying _ all may.1.next
after_next work st (event.End s i ts) may all = next_fewer st.turns st.flying s _ all
after_next work st (event.Look s i t m) may all = next_beside st.turns st.flying s _ all may.1.rests
after_next work st (event.Rows s i t) may all = next_beside st.turns st.flying s _ all (scan_next st s i t _ may.1).1.rests
after_next work st (event.Ancient s i t a) may all = next_beside st.turns st.flying s _ all (scan_next st s i t _ may.1).1.rests
after_next work st (event.Busy s i t f) may all = next_beside st.turns st.flying s _ all may.1.rests
after_next work st (event.Mark s i a) may all = next_beside st.turns st.flying s _ all may.1.rests
after_next work st (event.Chore s i) may all = next_beside st.turns st.flying s _ all may.1.rests
after_next work st (event.Large s i n) may all = next_beside st.turns st.flying s _ all may.1.rests
after_next work st event.Stop may all = all

-- a line leaves all sessions where they stand, and answers nothing
record Stays (work : Workload) (st : State) (e : Event) : Type 0 where
  turns : (after work st e).turns ≡ st.turns
  none : (j k : ℕ) → answers j k e ≡ false

-- or one session goes on from its next command, and the line answers none but what is then behind it
record Goes (work : Workload) (st : State) (e : Event) : Type 0 where
  s : ℕ
  was : Turn
  new : Turn
  at : nth st.turns s ≡ Some was
  turns : (after work st e).turns ≡ set_nth st.turns s new
  rises : was.next ≤ new.next
  behind : (j k : ℕ) → answers j k e ≡ true → (j ≡ s) × (k < new.next)

its_own : (s i j k : ℕ) → is_of j k s i ≡ true → (j ≡ s) × (k < i + 1)
its_own s i j k h = let both = two (j == s) (k == i) h in let same : k ≡ i = eqb-true k i both.1 in (eqb-true j s both.0, omega (arith, same))

-- a line that answers command i of session s
answer_goes : (work : Workload) (st : State) (e : Event) (s i : ℕ) (look : Option ℕ) → nth st.turns s ≡ Some (record { next = i; look = look }) → (after work st e).turns ≡ set_nth st.turns s (record { next = i + 1; look = None }) → ((j k : ℕ) → answers j k e ≡ is_of j k s i) → Goes work st e
answer_goes work st e s i look at turns of = record {
  s = s;
  was = record { next = i; look = look };
  new = record { next = i + 1; look = None };
  at = at;
  turns = turns;
  rises = omega arith;
  behind = λ j k h. its_own s i j k (sym (of j k) ∙ h);
}

effect : (work : Workload) (st : State) (e : Event) → Allowed work st e → AreNext st.turns st.flying → Stays work st e ⊎ Goes work st e
effect work st (event.Begin s i ts m) may all = inl (record { turns = refl; none = λ j k. refl })
effect work st (event.End s i ts) may all = inr (answer_goes work st (event.End s i ts) s i None (flying_next st.turns st.flying s i ts all may.1) refl (λ j k. refl))
effect work st (event.Look s i t m) may all =
    inr (record { s = s; was = record { next = i; look = None }; new = record { next = i; look = Some t }; at = may.1.next; turns = refl; rises = omega arith; behind = λ j k h. absurd cc })
effect work st (event.Rows s i t) may all = let n = scan_next st s i t _ may.1 in inr (answer_goes work st (event.Rows s i t) s i n.0 n.1.next refl (λ j k. refl))
effect work st (event.Ancient s i t a) may all = let n = scan_next st s i t _ may.1 in inr (answer_goes work st (event.Ancient s i t a) s i n.0 n.1.next refl (λ j k. refl))
effect work st (event.Busy s i t f) may all = inr (answer_goes work st (event.Busy s i t f) s i None may.1.next refl (λ j k. refl))
effect work st (event.Mark s i a) may all = inr (answer_goes work st (event.Mark s i a) s i None may.1.next refl (λ j k. refl))
effect work st (event.Chore s i) may all = inr (answer_goes work st (event.Chore s i) s i None may.1.next refl (λ j k. refl))
effect work st (event.Large s i n) may all = inr (answer_goes work st (event.Large s i n) s i None may.1.next refl (λ j k. refl))
effect work st event.Stop may all = inl (record { turns = refl; none = λ j k. refl })

-- no session goes back
rises_by : (turns : List Turn) (s k : ℕ) (was new t : Turn) → nth turns s ≡ Some was → was.next ≤ new.next → nth turns k ≡ Some t → (u : Turn) × (nth (set_nth turns s new) k ≡ Some u) × (t.next ≤ u.next)
rises_by turns s k was new t at le h =
    elim (s == k) as (λ b. (s == k) ≡ b → (u : Turn) × (nth (set_nth turns s new) k ≡ Some u) × (t.next ≤ u.next)) [
      | true ↦ λ is.
          let same : s ≡ k = eqb-true s k is in
          let one : was ≡ t = some_is was t (sym at ∙ ap (nth turns) same ∙ h) in
          let next : was.next ≡ t.next = ap (λ (x : Turn). x.next) one in
          (new, ap (nth (set_nth turns s new)) (sym same) ∙ nth_set_nth turns s new was at, omega (arith, le, next))
      | false ↦ λ is. (t, nth_other turns s k new (λ e. other s k is (sym e)) ∙ h, omega arith)
    ] refl

later : (work : Workload) (st : State) (es : List Event) (s : ℕ) (t : Turn) → IsRunFrom work st es → AreNext st.turns st.flying → nth st.turns s ≡ Some t → (u : Turn) × (nth (state_after work st es).turns s ≡ Some u) × (t.next ≤ u.next)
later work st [] s t run all h = (t, h, omega arith)
later work st (e ∷ es) s t run all h =
    let next = after_next work st e run.0 all in
    elim (effect work st e run.0 all) [
      | inl stays ↦ later work (after work st e) es s t run.1 next (ap (λ l. nth l s) stays.turns ∙ h)
      | inr goes ↦
          let one = rises_by st.turns goes.s s goes.was goes.new t goes.at goes.rises h in
          let rest = later work (after work st e) es s one.0 run.1 next (ap (λ l. nth l s) goes.turns ∙ one.1) in
          (rest.0, rest.1, omega (arith, one.2, rest.2))
    ]

-- what is told to a session is behind it
told_low : (work : Workload) (st : State) (es : List Event) (s k : ℕ) (r : Reply) → IsRunFrom work st es → AreNext st.turns st.flying → told work st es s k ≡ Some r → (u : Turn) × (nth (state_after work st es).turns s ≡ Some u) × (k < u.next)
told_low work st [] s k r run all h = absurd cc
told_low work st (e ∷ es) s k r run all h =
    let next = after_next work st e run.0 all in
    elim (answers s k e) as (λ b. answers s k e ≡ b → cond b (reply_of work st.past e) (told work (after work st e) es s k) ≡ Some r → (u : Turn) × (nth (state_after work (after work st e) es).turns s ≡ Some u) × (k < u.next)) [
      | true ↦ λ its _. elim (effect work st e run.0 all) [
        | inl stays ↦ absurd (let not_so = stays.none s k in cc)
        | inr goes ↦
            let mine = goes.behind s k its in
            let here = ap (λ l. nth l s) goes.turns ∙ ap (nth (set_nth st.turns goes.s goes.new)) mine.0 ∙ nth_set_nth st.turns goes.s goes.new goes.was goes.at in
            let rest = later work (after work st e) es s goes.new run.1 next here in
            (rest.0, rest.1, omega (arith, mine.1, rest.2))
      ]
      | false ↦ λ _ rest. told_low work (after work st e) es s k r run.1 next rest
    ] refl h

-- so the next command of a session is not answered yet
pub next_is_open : (work : Workload) (first : Past) (c : ℕ) (lines : List Event) (s i : ℕ) (look : Option ℕ) → IsRun work first c lines → nth (state_after work (start work first c) lines).turns s ≡ Some (record { next = i; look = look }) → told work (start work first c) lines s i ≡ None
next_is_open work first c lines s i look run at =
    elim (told work (start work first c) lines s i) as (λ o. told work (start work first c) lines s i ≡ o → told work (start work first c) lines s i ≡ None) [
      | None ↦ λ e. e
      | Some r ↦ λ e.
          let low = told_low work (start work first c) lines s i r run tt e in
          let here = some_is (record { next = i; look = look }) low.0 (sym at ∙ low.1) in
          let next : i ≡ low.0.next = ap (λ (t : Turn). t.next) here in
          absurd (omega (arith, next, low.2))
    ] refl

module _ {L D C : Type 0} where
  -- the lines that a pass has seen have not answered the next command of its session
  pub is_open : (told : Option (PartView L D C)) (x : EngineView L D C) (n i : ℕ) (look : Option ℕ) (seen : List Event) (readings : C → Option (List ℕ)) → told ≡ Some (part_in x n) → nth x.tablet.core.turns n ≡ Some (record { next = i; look = look }) → Follows session_of n seen x.tablet.core.trail → IsSound readings x.tablet
      → OnRoot told (λ root. IsOpen root n i seen)
  is_open told x n i look seen readings is turn follows sound root h first found =
      let all : (f : Past) → Found (root_of x) f → told_by (root_of x) f x.tablet.core.trail n i ≡ None = λ f here.
      let st = sound.stands f here.opens in
      next_is_open x.tablet.core.work f x.tablet.core.opened x.tablet.core.trail n i look st.run.is_run (ap (λ s. nth s.turns n) st.run.state ∙ turn) in
      sym (follows_quiet root n seen x.tablet.core.trail follows first found i)
      ∙ subst (λ (r : Root L D C). (f : Past) → Found r f → told_by r f x.tablet.core.trail n i ≡ None) (root_at root told x n h is) all first found

  -- a command that is answered where it was open has that answer
  pub is_answered : (told told' : Option (PartView L D C)) (xs ys : List Event) (s i : ℕ) (r : Reply) → (r ≡ reply.Stopped → ⊥) → AfterCommand told told' xs ys s i r → OnRoot told (λ root. IsOpen root s i xs) → OnRoot told (λ root. IsAnswered root s i r ys)
  is_answered told told' xs ys s i r ne after free root h first found =
      (answered_of told told' xs ys s i r ne after).1 root h first found i
      ∙ (λ t. or_else (free root h first found t) (cond (eq-eqb i i refl t) (Some r) None))

  pub is_answered_ok : (told told' : Option (PartView L D C)) (xs ys : List Event) (s i : ℕ) (r : Result Reply NoMemory) → IfOk r (λ q. AfterCommand told told' xs ys s i q) → OnOk r (OnRoot told (λ root. IsOpen root s i xs))
      → IfOk r (λ q. (q ≡ reply.Stopped → ⊥) → OnRoot told (λ root. IsAnswered root s i q ys))
  is_answered_ok told told' xs ys s i (Ok r) after free = λ ne. is_answered told told' xs ys s i r ne after free
  is_answered_ok told told' xs ys s i (Err e) after free = tt

  -- what is open later was open before, with the pass's number
  pub open_before : (s t i : ℕ) (a b : Option (PartView L D C)) (xs ys : List Event) → t ≡ s → IsGoing s a b xs ys → OnRoot b (λ root. IsOpen root t i ys) → OnRoot a (λ root. IsOpen root s i xs)
  open_before s t i a b xs ys e going free root h first found =
      sym (going.quiet root h first found i) ∙ subst (λ k. told_by root first ys k i ≡ None) e (free root (going.root root h) first found)
