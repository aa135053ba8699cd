-- Sessions that begin over a fresh engine, and what the whole trail tells them at the end.
use Rattle.std.proofs.Common.{◌≡◌, ◌<◌, ◌≤◌, ◌^◌, inl, inr, ℕ, zero, suc, List, [], ◌∷◌, ◌++◌, Option, Some, None, true, refl, sym, ap, ◌∙◌, subst, length, map, take, slice_get, cond, eq-eqb, arith}
use Rattle.std.specs.Prelude.{◌==◌}
use Rattle.std.specs.List.{filter}
use Rattle.std.specs.Option.{option_map}
use Rattle.std.proofs.lemmas.Option.{slice_get-map, slice_get_within, slice_get_cases, slice_get_past}
use Rattle.kt_history.specs.declared.command.Command.{Command}
use Rattle.kt_history.specs.declared.event.Event.{Event}
use Rattle.kt_history.specs.declared.event.Event.TheVariants as event
use Rattle.kt_history.specs.declared.reply.Reply.{Reply}
use Rattle.kt_history.specs.History.{Past}
use Rattle.kt_history.specs.Machine.{nth, command_of, first_turns, start}
use Rattle.kt_histlaws.specs.Core.{Stands}
use Rattle.kt_records.specs.declared.entry.Entry.{Entry}
use Rattle.kt_tablet.specs.Views.{View, Opens}
use Rattle.kt_seatlock.specs.Trails.{Follows}
use Rattle.kt_seatlock.specs.Views.{told}
use Rattle.kt_seatlock.specs.Passes.{number, seen, part, joined, given, MayEnter}
use Rattle.kt_seatlock.specs.declared.shared.Shared.{Ghosts}
use Rattle.kt_seatlock.specs.declared.lock.SeatLock.{SeatLock}
use Rattle.kt_engine.specs.Engines.{EngineView}
use Rattle.kt_engine.specs.Jobs.{UpkeepsView, upkeep_at}
use Rattle.kt_engine.specs.Visits.{Root, root_of, PartView, part_in, session_of, out_of, lent_of}
use Rattle.kt_serve.specs.declared.session.SessionEnd.{SessionEnd}
use Rattle.kt_serve.specs.Maintained.{KeepsUpkeep, StoreRests, chores_in}
use Rattle.kt_serve.specs.Sessions.{Found, TellsOwn, CanRun, IsFresh, IsQuiet, IsStill, HasNoLog, MayRun, told_by, has_stop}
use Rattle.kt_serve.specs.declared.places.Place.{Place}
use Rattle.kt_serve.specs.Runs.{HasEnded, HasRunTo, PlaceHasRun, AllEnded, HaveBegunRounds, reply_of_end}
use Rattle.kt_serve.specs.declared.close.End.{End}
use Rattle.kt_serve.specs.declared.close.End.TheVariants as how
use Rattle.kt_serve.specs.declared.log.Halt.TheVariants as halt
use Rattle.kt_serve.specs.Closing.{MayHalt, EndsAs}
use Rattle.kt_serve.proofs.Lines.{follows_quiet, quiet_self, quiet_line}
use Rattle.kt_serve.proofs.Begins.{root_at, has_root}
use Rattle.kt_serve.proofs.Stills.{still_root}
use Rattle.kt_serve.proofs.Rests.{upkeep_has}
use Rattle.kt_serve.proofs.Tells.{tells_quiet}
use Rattle.kt_serve.proofs.Asked.{told_asked}
use Rattle.kt_serve.proofs.Lists.{some_is, at_place, get_take}

nth_nil : {A : Type 0} (k : ℕ) → None ≡ nth {A = A} [] k
nth_nil zero = refl
nth_nil (suc k) = refl

first_turn : (plan : List (List Command)) (j : ℕ) (commands : List Command) → slice_get plan j ≡ Some commands → slice_get (first_turns plan) j ≡ Some (record { next = 1; look = None })
first_turn [] j commands e = absurd (cc)
first_turn (c ∷ plan) zero commands e = refl
first_turn (c ∷ plan) (suc j) commands e = first_turn plan j commands e

stays_stopped : (lines more : List Event) → has_stop lines ≡ true → has_stop (lines ++ more) ≡ true
stays_stopped [] more h = absurd (cc)
stays_stopped (event.Begin s i ts m ∷ lines) more h = stays_stopped lines more h
stays_stopped (event.End s i ts ∷ lines) more h = stays_stopped lines more h
stays_stopped (event.Look s i t m ∷ lines) more h = stays_stopped lines more h
stays_stopped (event.Rows s i t ∷ lines) more h = stays_stopped lines more h
stays_stopped (event.Ancient s i t a ∷ lines) more h = stays_stopped lines more h
stays_stopped (event.Busy s i t f ∷ lines) more h = stays_stopped lines more h
stays_stopped (event.Mark s i a ∷ lines) more h = stays_stopped lines more h
stays_stopped (event.Chore s i ∷ lines) more h = stays_stopped lines more h
stays_stopped (event.Large s i n ∷ lines) more h = stays_stopped lines more h
stays_stopped (event.Stop ∷ lines) more h = refl

module _ {L D C : Type 0} where
  -- a new pass has the part that the filled value told
  pub new_part : (p : Option (PartView L D C)) (o : Option (EngineView L D C)) (x : EngineView L D C) (k n : ℕ) → p ≡ told part_in o k → o ≡ Some x → k ≡ n → p ≡ Some (part_in x n)
  new_part p o x k n e f g = e ∙ (λ t. told part_in (f t) (g t))

  -- and not the log, where that is at home
  pub idle_part : (p : Option (PartView L D C)) (x : EngineView L D C) (k : ℕ) → p ≡ Some (part_in x k) → x.log.holder ≡ None → HasNoLog p
  idle_part p x k is home = record { part = part_in x k; is = is; home = ap (λ h. out_of h x.log.out k) home }

  -- a session that has not begun, over an engine that has not
  pub may_run : (p : Option (PartView L D C)) (seen : List Event) (s j : ℕ) (x : EngineView L D C) (plan : List (List Command)) (commands : List Command)
      → p ≡ Some (part_in x (suc j)) → s ≡ suc j → seen ≡ [] → IsFresh x → x.tablet.core.work.plan ≡ plan → x.tablet.core.turns ≡ first_turns plan → slice_get plan j ≡ Some commands
      → ((k : ℕ) (command : Command) → nth commands k ≡ Some command → CanRun k command) → length commands < 2 ^ 31 → MayRun p seen s commands
  may_run p seen s j x plan commands is me none fresh the_plan turns at runs few = record {
    next = record { part = part_in x (suc j); is = is; calm = ap (filter (λ w. w.s == suc j)) fresh.calm; turn = ap (λ l. slice_get l j) turns ∙ first_turn plan j commands at; home = ap (λ h. out_of h x.log.out (suc j)) fresh.home };
    plan = λ root h. subst (λ (r : Root L D C). nth r.work.plan s ≡ Some commands) (root_at root p x (suc j) h is) (ap (nth x.tablet.core.work.plan) me ∙ ap (λ l. slice_get l j) the_plan ∙ at);
    runs = runs;
    few = few;
    tells = λ root h first found k. ap (λ l. told_by root first l s k) none ∙ nth_nil k;
  }

  -- what lines of others leave as it is
  ended_on : (Came : ℕ → ℕ → Reply → Type 0) (root : Root L D C) (s : ℕ) (commands : List Command) (seen trail : List Event) (end : SessionEnd) → HasEnded Came root s commands seen end
      → IsQuiet root s seen trail → (has_stop seen ≡ true → has_stop trail ≡ true) → HasEnded Came root s commands trail end
  ended_on Came root s commands seen trail end h quiet stops = record {
    tells = λ ne. tells_quiet root s end.replies seen trail (h.tells ne) quiet;
    lost = λ e first found k other. quiet first found k ∙ h.lost e first found k other;
    all = h.all;
    stopped = λ e. stops (h.stopped e);
    points = h.points;
  }

  -- the last visit of a session leaves what it ended with
  pub left_run : (Came : ℕ → ℕ → Reply → Type 0) (a b c : Option (PartView L D C)) (s t : ℕ) (commands : List Command) (xs ys : List Event) (end : SessionEnd) → t ≡ s → HasRunTo Came a b s commands xs end → IsStill t b c xs ys
      → (HasNoLog b → HasNoLog c) → (has_stop xs ≡ true → has_stop ys ≡ true) → KeepsUpkeep b c → HasRunTo Came a c s commands ys end
  left_run Came a b c s t commands xs ys end same run still log stops keeps = record {
    home = log run.home;
    rounds = λ whole. upkeep_has b c (chores_in commands) keeps (run.rounds whole);
    root = λ root h. still_root root t b c xs ys still (run.root root h);
    ended = λ root h. ended_on Came root s commands xs ys end (run.ended root h) (subst (λ k. IsQuiet root k xs ys) same (still.quiet root (run.root root h))) stops;
  }

  ended_follows : (Came : ℕ → ℕ → Reply → Type 0) (root : Root L D C) (s : ℕ) (commands : List Command) (seen trail : List Event) (end : SessionEnd) → HasEnded Came root s commands seen end → Follows session_of s seen trail → HasEnded Came root s commands trail end
  ended_follows Came root s commands seen trail end h f = ended_on Came root s commands seen trail end h (follows_quiet root s seen trail f) (λ e. ap has_stop f.1 ∙ stays_stopped seen f.0 e)

  -- what a session has ended with over its engine
  ended_in : (Came : ℕ → ℕ → Reply → Type 0) (p q : Option (PartView L D C)) (x : EngineView L D C) (s t n : ℕ) (commands : List Command) (seen trail : List Event) (end : SessionEnd) → p ≡ Some (part_in x n) → s ≡ n → t ≡ s
      → HasRunTo Came p q s commands seen end → Follows session_of t seen trail → HasEnded Came (root_of x) n commands trail end
  ended_in Came p q x s t n commands seen trail end is me same run follows =
      let own : HasEnded Came (root_of x) s commands seen end = run.ended (root_of x) (has_root p x n is) in
      let f : Follows session_of s seen trail = subst (λ k. Follows session_of k seen trail) same follows in
      subst (λ k. HasEnded Came (root_of x) k commands trail end) me (ended_follows Came (root_of x) s commands seen trail end own f)

  -- a part tells the root of each engine that has it
  pub same_part : (o p : Option (PartView L D C)) (x y : EngineView L D C) (m n : ℕ) → o ≡ Some (part_in x m) → p ≡ o → p ≡ Some (part_in y n) → root_of y ≡ root_of x
  same_part o p x y m n was same is = sym (ap (λ (q : PartView L D C). q.root) (some_is (part_in x m) (part_in y n) (sym was ∙ sym same ∙ is)))

  -- the lines of a run tell nothing to a session that the plan does not have
  pub none_told : (x : EngineView L D C) (plan : List (List Command)) (s : ℕ) → ((first : Past) → Opens x.tablet.opening x.tablet.mark x.tablet.core.opened first → Stands (record x.tablet.core { first = first }))
      → x.tablet.core.work.plan ≡ plan → nth plan s ≡ None → TellsOwn (root_of x) s [] x.tablet.core.trail
  none_told x plan s stands the_plan none first found k =
      let run = (stands first found.opens).run.is_run in
      let work = x.tablet.core.work in
      elim (told_by (root_of x) first x.tablet.core.trail s k) as (λ o. told_by (root_of x) first x.tablet.core.trail s k ≡ o → o ≡ nth {A = Reply} [] k) [
        | None ↦ λ _. nth_nil k
        | Some r ↦ λ e.
            let asked = told_asked work (start work first x.tablet.core.opened) x.tablet.core.trail s k r run tt e in
            let no : None ≡ Some asked.0 = sym (ap (λ l. command_of (nth l s) k) the_plan ∙ ap (λ c. command_of c k) none) ∙ asked.1 in absurd (cc)
      ] refl

-- ---- all sessions

module _ {L D C : Type 0} {g : Ghosts (EngineView L D C) Event (PartView L D C)} where
  -- what a session ended with is what its place has
  end_at : (new : List (Place (EngineView L D C) Event (PartView L D C) g)) (ends : List SessionEnd) (n j : ℕ) (q : Place (EngineView L D C) Event (PartView L D C) g) → ends ≡ take n (map (λ p. p.end) new) → j < n → slice_get new j ≡ Some q → slice_get ends j ≡ Some q.end
  end_at new ends n j q the_ends below at =
      ap (λ l. slice_get l j) the_ends ∙ get_take n (map (λ (r : Place (EngineView L D C) Event (PartView L D C) g). r.end) new) j below ∙ slice_get-map (λ (r : Place (EngineView L D C) Event (PartView L D C) g). r.end) new j
      ∙ ap (option_map (λ (r : Place (EngineView L D C) Event (PartView L D C) g). r.end)) at

  -- each session of the plan ended as it did in its place, and the trail goes on from what its pass had seen by lines of others
  pub each_ended : (Came : ℕ → ℕ → Reply → Type 0) (x : EngineView L D C) (trail : List Event) (plan : List (List Command)) (old new : List (Place (EngineView L D C) Event (PartView L D C) g)) (ends : List SessionEnd) (n : ℕ)
      → length plan ≤ length old → n ≡ length plan → ends ≡ take n (map (λ p. p.end) new)
      → ((j : ℕ) (p : Place (EngineView L D C) Event (PartView L D C) g) → slice_get old j ≡ Some p → (part p.pass ≡ Some (part_in x (suc j))) × (number p.pass ≡ suc j))
      → ((j : ℕ) (p : Place (EngineView L D C) Event (PartView L D C) g) → slice_get old j ≡ Some p → (q : Place (EngineView L D C) Event (PartView L D C) g) × (slice_get new j ≡ Some q) × PlaceHasRun Came plan j p q)
      → ((j : ℕ) (q : Place (EngineView L D C) Event (PartView L D C) g) → slice_get new j ≡ Some q → Follows session_of (number q.pass) (seen q.pass) trail)
      → (s : ℕ) (commands : List Command) → nth plan s ≡ Some commands → (end : SessionEnd) × (nth ends s ≡ Some end) × HasEnded Came (root_of x) s commands trail end
  each_ended Came x trail plan old new ends n count is the_ends begun run follows zero commands e = absurd (cc)
  each_ended Came x trail plan old new ends n count is the_ends begun run follows (suc j) commands e =
      let within = slice_get_within plan j commands e in
      let below : j < length old = omega (arith, within, count) in
      let p = at_place old j below in
      let q = run j p.0 p.1 in
      let has = q.2 in
      let was = begun j p.0 p.1 in (
        q.0.end,
        end_at new ends n j q.0 the_ends (omega (arith, within, is)) q.1,
        ended_in Came (part p.0.pass) (part q.0.pass) x (number p.0.pass) (number q.0.pass) (suc j) commands (seen q.0.pass) trail q.0.end was.0 was.1 has.back.0.1 (has.run commands e) (follows j q.0 q.1),
      )

  -- and has begun a round for each chore, as far as the engine tells that is left
  pub each_rounds : (Came : ℕ → ℕ → Reply → Type 0) (y z : EngineView L D C) (plan : List (List Command)) (old new : List (Place (EngineView L D C) Event (PartView L D C) g)) (ends : List SessionEnd) (n : ℕ)
      → length plan ≤ length old → n ≡ length plan → ends ≡ take n (map (λ p. p.end) new)
      → ((j : ℕ) (p : Place (EngineView L D C) Event (PartView L D C) g) → slice_get old j ≡ Some p → number p.pass ≡ suc j)
      → ((j : ℕ) (p : Place (EngineView L D C) Event (PartView L D C) g) → slice_get old j ≡ Some p → (q : Place (EngineView L D C) Event (PartView L D C) g) × (slice_get new j ≡ Some q) × PlaceHasRun Came plan j p q)
      → ((j : ℕ) (q : Place (EngineView L D C) Event (PartView L D C) g) → slice_get new j ≡ Some q → part q.pass ≡ Some (part_in y (number q.pass)))
      → z.upkeep ≡ y.upkeep → HaveBegunRounds plan ends z
  each_rounds Came y z plan old new ends n count is the_ends begun run kept same zero commands end e at whole = absurd (cc)
  each_rounds Came y z plan old new ends n count is the_ends begun run kept same (suc j) commands end e at whole =
      let within = slice_get_within plan j commands e in
      let p = at_place old j (omega (arith, within, count)) in
      let q = run j p.0 p.1 in
      let mine = end_at new ends n j q.0 the_ends (omega (arith, within, is)) q.1 in
      let its : q.0.end ≡ end = some_is q.0.end end (sym mine ∙ at) in
      let has = (q.2.run commands e).rounds (ap (λ (x : SessionEnd). x.halt) its ∙ whole) in
      let me : number q.0.pass ≡ suc j = q.2.back.0.1 ∙ begun j p.0 p.1 in
      let here : has.part ≡ part_in y (number q.0.pass) = some_is has.part (part_in y (number q.0.pass)) (sym has.is ∙ kept j q.0 q.1) in
      let low : chores_in commands ≤ (upkeep_at (number q.0.pass) y.upkeep.passes).rounds = subst (λ (v : PartView L D C). chores_in commands ≤ v.pass.upkeep.rounds) here has.rounds in
      subst (λ (u : UpkeepsView). chores_in commands ≤ (upkeep_at (suc j) u.passes).rounds) (sym same) (subst (λ k. chores_in commands ≤ (upkeep_at k y.upkeep.passes).rounds) me low)

  -- a pass that has run may be taken in, as it might have been before
  pub back_each : (Came : ℕ → ℕ → Reply → Type 0) (lock : SeatLock (EngineView L D C) Event (PartView L D C)) (plan : List (List Command)) (old new : List (Place (EngineView L D C) Event (PartView L D C) g)) → length new ≡ length old
      → ((j : ℕ) (p : Place (EngineView L D C) Event (PartView L D C) g) → slice_get old j ≡ Some p → MayEnter lock p.pass × (joined p.pass ≡ []) × (given p.pass ≡ 0))
      → ((j : ℕ) (p : Place (EngineView L D C) Event (PartView L D C) g) → slice_get old j ≡ Some p → (q : Place (EngineView L D C) Event (PartView L D C) g) × (slice_get new j ≡ Some q) × PlaceHasRun Came plan j p q)
      → (j : ℕ) (q : Place (EngineView L D C) Event (PartView L D C) g) → slice_get new j ≡ Some q → MayEnter lock q.pass × (joined q.pass ≡ []) × (given q.pass ≡ 0)
  back_each Came lock plan old new same begun run j q e =
      let below : j < length old = subst (λ n. j < n) same (slice_get_within new j q e) in
      let p = at_place old j below in
      let r = run j p.0 p.1 in
      let was = begun j p.0 p.1 in
      let back = r.2.back in
      subst (λ (x : Place (EngineView L D C) Event (PartView L D C) g). MayEnter lock x.pass × (joined x.pass ≡ []) × (given x.pass ≡ 0)) (some_is r.0 q (sym r.1 ∙ e))
      ((back.0.0 ∙ was.0.0, back.2), back.1.0 ∙ was.1, back.1.1 ∙ was.2)

-- ---- both devices are at home again

no_holder : (h : Option ℕ) (out : List Entry) → ((k : ℕ) → out_of h out k ≡ None) → h ≡ None
no_holder None out each = refl
no_holder (Some by) out each = let e : Some out ≡ None = sym (ap (λ b. cond b (Some out) None) (eq-eqb by by refl)) ∙ each by in absurd (cc)

nobody_has : {J : Type 0} (h : Option ℕ) (known : J) → ((k : ℕ) → lent_of h known k ≡ None) → h ≡ None
nobody_has None known each = refl
nobody_has (Some by) known each = let e : Some known ≡ None = sym (ap (λ b. cond b (Some known) None) (eq-eqb by by refl)) ∙ each by in absurd (cc)

module _ {L D C : Type 0} where
  same_out : (x y : EngineView L D C) (k : ℕ) → Some (part_in y k) ≡ Some (part_in x k) → x.log.holder ≡ None → out_of y.log.holder y.log.out k ≡ None
  same_out x y k e home = ap (λ (p : PartView L D C). p.pass.out) (some_is (part_in y k) (part_in x k) e) ∙ ap (λ h. out_of h x.log.out k) home

  own_out : (o : Option (PartView L D C)) (y : EngineView L D C) (n k : ℕ) → o ≡ Some (part_in y n) → n ≡ k → HasNoLog o → out_of y.log.holder y.log.out k ≡ None
  own_out o y n k is me h = ap (out_of y.log.holder y.log.out) (sym me) ∙ ap (λ (p : PartView L D C). p.pass.out) (some_is (part_in y n) h.part (sym is ∙ h.is)) ∙ h.home

  same_lent : (x y : EngineView L D C) (k : ℕ) → Some (part_in y k) ≡ Some (part_in x k) → x.store.holder ≡ None → lent_of y.store.holder y.store k ≡ None
  same_lent x y k e home = ap (λ (p : PartView L D C). p.turn) (some_is (part_in y k) (part_in x k) e) ∙ ap (λ h. lent_of h x.store k) home

  own_lent : (o : Option (PartView L D C)) (y : EngineView L D C) (n k : ℕ) → o ≡ Some (part_in y n) → n ≡ k → StoreRests o → lent_of y.store.holder y.store k ≡ None
  own_lent o y n k is me h = ap (lent_of y.store.holder y.store) (sym me) ∙ ap (λ (p : PartView L D C). p.turn) (some_is (part_in y n) h.part (sym is ∙ h.is)) ∙ h.home

module _ {L D C : Type 0} {g : Ghosts (EngineView L D C) Event (PartView L D C)} where
  -- what holds of the first pass, of each that has run and of each that was never given holds of all
  of_each : (Came : ℕ → ℕ → Reply → Type 0) (plan : List (List Command)) (old new : List (Place (EngineView L D C) Event (PartView L D C) g)) (P : ℕ → Type 0) → P 0 → ((k : ℕ) → length old < k → P k)
      → ((j : ℕ) (p : Place (EngineView L D C) Event (PartView L D C) g) → slice_get old j ≡ Some p → number p.pass ≡ suc j)
      → ((j : ℕ) (p : Place (EngineView L D C) Event (PartView L D C) g) → slice_get old j ≡ Some p → (q : Place (EngineView L D C) Event (PartView L D C) g) × (slice_get new j ≡ Some q) × PlaceHasRun Came plan j p q)
      → ((j : ℕ) (p q : Place (EngineView L D C) Event (PartView L D C) g) → slice_get new j ≡ Some q → number q.pass ≡ suc j → PlaceHasRun Came plan j p q → P (suc j)) → (k : ℕ) → P k
  of_each Came plan old new P first later begun run own zero = first
  of_each Came plan old new P first later begun run own (suc j) = elim (slice_get_cases old j).1 as (λ _. P (suc j)) [
    | inl within ↦ let q = run j within.0 within.2 in own j within.0 q.0 q.1 (q.2.back.0.1 ∙ begun j within.0 within.2) q.2
    | inr past ↦ later (suc j) (omega (arith, past.0))
  ]

  module _ (Came : ℕ → ℕ → Reply → Type 0) (x y : EngineView L D C) (plan : List (List Command)) (old new : List (Place (EngineView L D C) Event (PartView L D C) g))
      (begun : (j : ℕ) (p : Place (EngineView L D C) Event (PartView L D C) g) → slice_get old j ≡ Some p → number p.pass ≡ suc j)
      (run : (j : ℕ) (p : Place (EngineView L D C) Event (PartView L D C) g) → slice_get old j ≡ Some p → (q : Place (EngineView L D C) Event (PartView L D C) g) × (slice_get new j ≡ Some q) × PlaceHasRun Came plan j p q)
      (kept : (j : ℕ) (q : Place (EngineView L D C) Event (PartView L D C) g) → slice_get new j ≡ Some q → part q.pass ≡ Some (part_in y (number q.pass)))
      (first : Some (part_in y 0) ≡ Some (part_in x 0)) (later : (k : ℕ) → length old < k → Some (part_in y k) ≡ Some (part_in x k)) where
    -- no pass has the log at its end, and none that was not given ever had it
    pub home_again : x.log.holder ≡ None → y.log.holder ≡ None
    home_again home =
        no_holder y.log.holder y.log.out
        (of_each Came plan old new (λ k. out_of y.log.holder y.log.out k ≡ None) (same_out x y 0 first home) (λ k past. same_out x y k (later k past) home) begun run
        (λ j p q at me has. own_out (part q.pass) y (number q.pass) (suc j) (kept j q at) me has.home))

    -- nor the store
    pub store_again : x.store.holder ≡ None → y.store.holder ≡ None
    store_again home =
        nobody_has y.store.holder y.store
        (of_each Came plan old new (λ k. lent_of y.store.holder y.store k ≡ None) (same_lent x y 0 first home) (λ k past. same_lent x y k (later k past) home) begun run
        (λ j p q at me has. own_lent (part q.pass) y (number q.pass) (suc j) (kept j q at) me has.store))

none_alike : {A B : Type 0} (xs : List A) (ys : List B) (s : ℕ) → length xs ≡ length ys → nth ys s ≡ None → nth xs s ≡ None
none_alike xs ys zero count none = refl
none_alike xs ys (suc j) count none = elim (slice_get_cases ys j).1 as (λ _. slice_get xs j ≡ None) [
  | inl within ↦ let e : Some within.0 ≡ None = sym within.2 ∙ none in absurd (cc)
  | inr past ↦ slice_get_past xs j (omega (arith, past.0))
]

-- ---- the last append

module _ {L D C : Type 0} where
  halt_quiet : (root : Root L D C) (s : ℕ) (x y : EngineView L D C) → MayHalt x y → IsQuiet root s x.tablet.core.trail y.tablet.core.trail
  halt_quiet root s x y may = elim may as (λ _. IsQuiet root s x.tablet.core.trail y.tablet.core.trail) [
    | inl e ↦ quiet_self root s x.tablet.core.trail y.tablet.core.trail (ap (λ (t : View C). t.core.trail) e)
    | inr e ↦ quiet_line root s x.tablet.core.trail y.tablet.core.trail event.Stop (ap (λ (t : View C). t.core.trail) e) (λ k. refl)
  ]

  halt_stops : (x y : EngineView L D C) → MayHalt x y → has_stop x.tablet.core.trail ≡ true → has_stop y.tablet.core.trail ≡ true
  halt_stops x y may h = elim may as (λ _. has_stop y.tablet.core.trail ≡ true) [
    | inl e ↦ ap (λ (t : View C). has_stop t.core.trail) e ∙ h
    | inr e ↦ ap (λ (t : View C). has_stop t.core.trail) e ∙ stays_stopped x.tablet.core.trail (event.Stop ∷ []) h
  ]

  ends_stopped : (x : EngineView L D C) (e : End) → EndsAs x e → has_stop x.tablet.core.trail ≡ true → e ≡ how.Stopped
  ends_stopped x how.Done ends h = let none = ends.done.none in absurd (cc)
  ends_stopped x how.Stopped ends h = refl
  ends_stopped x how.Memory ends h = let none = ends.1 in absurd (cc)

  -- what all sessions ended with is what the lines tell after it too
  pub all_after : (Came : ℕ → ℕ → Reply → Type 0) (root : Root L D C) (plan : List (List Command)) (x y : EngineView L D C) (ends : List SessionEnd) → AllEnded Came root plan x.tablet.core.trail ends → MayHalt x y → AllEnded Came root plan y.tablet.core.trail ends
  all_after Came root plan x y ends all may = record {
    count = all.count;
    each = λ s commands e. let has = all.each s commands e in (has.0, has.1, ended_on Came root s commands x.tablet.core.trail y.tablet.core.trail has.0 has.2 (halt_quiet root s x y may) (halt_stops x y may));
    others = λ s none. tells_quiet root s [] x.tablet.core.trail y.tablet.core.trail (all.others s none) (halt_quiet root s x y may);
  }

  -- a session that a failed device halted is in a run that ended so
  pub halts_end : (Came : ℕ → ℕ → Reply → Type 0) (root : Root L D C) (plan : List (List Command)) (x : EngineView L D C) (ends : List SessionEnd) (e : End) → AllEnded Came root plan x.tablet.core.trail ends → EndsAs x e
      → (s : ℕ) (end : SessionEnd) → nth ends s ≡ Some end → end.halt ≡ Some halt.Stopped → e ≡ how.Stopped
  halts_end Came root plan x ends e all closes zero end at h = absurd (cc)
  halts_end Came root plan x ends e all closes (suc j) end at h =
      let commands = at_place plan j (subst (λ n. j < n) all.count (slice_get_within ends j end at)) in
      let has = all.each (suc j) commands.0 commands.1 in
      let is : has.0 ≡ end = some_is has.0 end (sym has.1 ∙ at) in
      ends_stopped x e closes (has.2.stopped (ap (λ (q : SessionEnd). q.halt) is ∙ h))

  -- where no session met want of memory, the lines tell each session the replies that it has, and no other
  pub all_told : (Came : ℕ → ℕ → Reply → Type 0) (root : Root L D C) (plan : List (List Command)) (lines : List Event) (ends : List SessionEnd) → AllEnded Came root plan lines ends
      → ((s : ℕ) (end : SessionEnd) → nth ends s ≡ Some end → end.halt ≡ Some halt.Memory → ⊥)
      → (first : Past) → Found root first → (s k : ℕ) → told_by root first lines s k ≡ reply_of_end (nth ends s) k
  all_told Came root plan lines ends all kept first found s k =
      elim (nth plan s) as (λ o. nth plan s ≡ o → told_by root first lines s k ≡ reply_of_end (nth ends s) k) [
        | None ↦ λ none. all.others s none first found k ∙ sym (nth_nil k) ∙ sym (ap (λ o. reply_of_end o k) (none_alike ends plan s all.count none))
        | Some commands ↦ λ e.
            let has = all.each s commands e in
            has.2.tells (kept s has.0 has.1) first found k ∙ sym (ap (λ o. reply_of_end o k) has.1)
      ] refl
