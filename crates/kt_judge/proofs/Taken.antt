-- A line that is taken: the machine is in the state after it, and has its line.
use Rattle.std.proofs.Common.{◌≡◌, ℕ, ◌+◌, List, [], ◌∷◌, ◌++◌, Some, None, Option, refl, true, false, ◌&&◌, cond, sym, ap, ◌∙◌, subst, max, map}
use Rattle.std.specs.Prelude.{◌==◌, not, Result, Ok, Err, OnOk}
use Rattle.std.specs.List.{filter}
use Rattle.std.specs.Option.{option_or}
use Rattle.std.proofs.lemmas.List.Folds.{find-append}
use Rattle.kt_history.specs.declared.event.Event.{Event}
use Rattle.kt_history.specs.declared.event.Event.TheVariants.{End, Look, Rows, Ancient, Busy, Mark, Chore, Large}
use Rattle.kt_history.specs.History.{Past}
use Rattle.kt_history.specs.Machine.{Workload, State, Flying, Turn, Allowed, IsRun, IsRunFrom, after, state_after, start, nth, set_nth}
use Rattle.kt_history.specs.Replies.{answers, past_after}
use Rattle.kt_history.proofs.Runs.{state_after-append, IsRunFrom-append}
use Rattle.kt_judge.specs.Turns.{Stand, turn_of, with_line}
use Rattle.kt_judge.specs.declared.machine.Flight.{Flight}
use Rattle.kt_judge.specs.declared.machine.Machine.{Machine}
use Rattle.kt_judge.specs.Machine.{flown, state_of, Sits, Takes, Follows, line_of}
use Rattle.kt_judge.proofs.Lines.{lines_more, lines_stay, stand_of, turn_more, map-set_nth}
use Rattle.kt_judge.proofs.Sitting.{flying_sits, may_read_next, sits_all}

-- the session's next command, whatever its look
pub record TurnOf (turns : List Turn) (s i : ℕ) : Type 0 where
  pub look : Option ℕ
  pub at : nth turns s ≡ Some (record { next = i; look = look })

-- the state of a machine, but for its turns
state_from : (work : Workload) (past : Past) (mid new : Machine) (turns : List Turn) → new ≡ record mid { turns = new.turns } → map turn_of new.turns.items ≡ turns → state_of work past new ≡ record (state_of work past mid) { turns = turns }
state_from work past mid new turns rest is = ap (λ (x : Machine). record (state_of work past x) { turns = map turn_of new.turns.items }) rest ∙ ap (λ (ts : List Turn). record (state_of work past mid) { turns = ts }) is

answered_takes : {A E : Type 0} (r : Result A E) (m mid new : Machine) (e : Event) (s i : ℕ)
    → ((stand : Stand) → nth m.turns.items s ≡ Some stand → OnOk r (new.turns.items ≡ set_nth m.turns.items s (with_line stand e)))
    → new ≡ record mid { turns = new.turns }
    → ((work : Workload) (past : Past) → Sits (state_of work past m) → Allowed work (state_of work past m) e → TurnOf (map turn_of m.turns.items) s i)
    → ((work : Workload) (past : Past) → record (state_of work (after work (state_of work past m) e).past mid) { turns = set_nth (map turn_of m.turns.items) s (record { next = i + 1; look = None }) } ≡ after work (state_of work past m) e)
    → ((s' i' : ℕ) → answers s' i' e ≡ ((s' == s) && (i' == i)))
    → OnOk r ((work : Workload) → Takes work m e new)
answered_takes (Err x) m mid new e s i turns rest next step is = tt
answered_takes (Ok x) m mid new e s i turns rest next step is = λ work past k al.
    let t = next work past k al in
    let st = stand_of m.turns.items s _ t.at in
    let set = turns st.stand st.at in
    let seen : map turn_of new.turns.items ≡ set_nth (map turn_of m.turns.items) s (record { next = i + 1; look = None }) =
    ap (map turn_of) set ∙ map-set_nth turn_of m.turns.items s (with_line st.stand e) ∙ ap (set_nth (map turn_of m.turns.items) s) (turn_more st.stand e i t.look st.turn_is) in (
      state_from work (after work (state_of work past m) e).past mid new _ rest seen ∙ step work past,
      λ s' i'. ap (λ ts. line_of ts s' i') set ∙ lines_more m.turns.items s i st.stand e s' i' st.at (ap (λ (t : Turn). t.next) st.turn_is) ∙ ap (λ b. option_or (line_of m.turns.items s' i') (cond b (Some e) None)) (sym (is s' i')),
    )

abbrev pub AnswersIn : {A E : Type 0} → Result A E → Machine → Machine → Event → ℕ → Type 0
AnswersIn r m new e s = (stand : Stand) → nth m.turns.items s ≡ Some stand → OnOk r (new.turns.items ≡ set_nth m.turns.items s (with_line stand e))

-- what is shown of a line holds of what equals it
along : (e f : Event) (P : Event → Type 0) → e ≡ f → P f → P e
along e f P is h = subst P (sym is) h

pub rows_takes : {A E : Type 0} (r : Result A E) (m new : Machine) (e : Event) (s i t top : ℕ) → e ≡ Rows s i t → top ≡ max m.c t → AnswersIn r m new (Rows s i t) s → new ≡ record (record m { c = top }) { turns = new.turns } → OnOk r ((work : Workload) → Takes work m e new)
rows_takes r m new e s i t top is high turns rest =
    along e (Rows s i t) (λ x. OnOk r ((work : Workload) → Takes work m x new)) is
    (answered_takes r m (record m { c = top }) new (Rows s i t) s i turns rest
    (λ work past k al. let n = may_read_next work (state_of work past m) s i t al.1 in record { look = n.look; at = n.is.next })
    (λ work past. ap (λ (c : ℕ). record (state_of work past m) { c = c; turns = set_nth (map turn_of m.turns.items) s (record { next = i + 1; look = None }) }) high)
    (λ s' i'. refl))

pub ancient_takes : {A E : Type 0} (r : Result A E) (m new : Machine) (e : Event) (s i t a : ℕ) → e ≡ Ancient s i t a → AnswersIn r m new (Ancient s i t a) s → new ≡ record m { turns = new.turns } → OnOk r ((work : Workload) → Takes work m e new)
ancient_takes r m new e s i t a is turns rest =
    along e (Ancient s i t a) (λ x. OnOk r ((work : Workload) → Takes work m x new)) is
    (answered_takes r m m new (Ancient s i t a) s i turns rest
    (λ work past k al. let n = may_read_next work (state_of work past m) s i t al.1 in record { look = n.look; at = n.is.next })
    (λ work past. refl) (λ s' i'. refl))

pub busy_takes : {A E : Type 0} (r : Result A E) (m new : Machine) (e : Event) (s i t f : ℕ) → e ≡ Busy s i t f → AnswersIn r m new (Busy s i t f) s → new ≡ record m { turns = new.turns } → OnOk r ((work : Workload) → Takes work m e new)
busy_takes r m new e s i t f is turns rest =
    along e (Busy s i t f) (λ x. OnOk r ((work : Workload) → Takes work m x new)) is
    (answered_takes r m m new (Busy s i t f) s i turns rest (λ work past k al. record { look = None; at = al.1.next }) (λ work past. refl) (λ s' i'. refl))

pub mark_takes : {A E : Type 0} (r : Result A E) (m new : Machine) (e : Event) (s i a : ℕ) → e ≡ Mark s i a → AnswersIn r m new (Mark s i a) s → new ≡ record (record m { a = a }) { turns = new.turns } → OnOk r ((work : Workload) → Takes work m e new)
mark_takes r m new e s i a is turns rest =
    along e (Mark s i a) (λ x. OnOk r ((work : Workload) → Takes work m x new)) is
    (answered_takes r m (record m { a = a }) new (Mark s i a) s i turns rest (λ work past k al. record { look = None; at = al.1.next }) (λ work past. refl) (λ s' i'. refl))

pub chore_takes : {A E : Type 0} (r : Result A E) (m new : Machine) (e : Event) (s i : ℕ) → e ≡ Chore s i → AnswersIn r m new (Chore s i) s → new ≡ record m { turns = new.turns } → OnOk r ((work : Workload) → Takes work m e new)
chore_takes r m new e s i is turns rest =
    along e (Chore s i) (λ x. OnOk r ((work : Workload) → Takes work m x new)) is
    (answered_takes r m m new (Chore s i) s i turns rest (λ work past k al. record { look = None; at = al.1.next }) (λ work past. refl) (λ s' i'. refl))

pub large_takes : {A E : Type 0} (r : Result A E) (m new : Machine) (e : Event) (s i n : ℕ) → e ≡ Large s i n → AnswersIn r m new (Large s i n) s → new ≡ record m { turns = new.turns } → OnOk r ((work : Workload) → Takes work m e new)
large_takes r m new e s i n is turns rest =
    along e (Large s i n) (λ x. OnOk r ((work : Workload) → Takes work m x new)) is
    (answered_takes r m m new (Large s i n) s i turns rest (λ work past k al. record { look = None; at = al.1.next }) (λ work past. refl) (λ s' i'. refl))

filter-flown : (work : Workload) (s : ℕ) (flying : List Flight) → map (flown work) (filter (λ f. not (f.s == s)) flying) ≡ filter (λ w. not (w.s == s)) (map (flown work) flying)
filter-flown work s [] = refl
filter-flown work s (f ∷ flying) =
    elim (not (f.s == s)) as (λ b. map (flown work) (cond b (f ∷ filter (λ f. not (f.s == s)) flying) (filter (λ f. not (f.s == s)) flying)) ≡ cond b (flown work f ∷ filter (λ w. not (w.s == s)) (map (flown work) flying)) (filter (λ w. not (w.s == s)) (map (flown work) flying))) [
      | true ↦ ap (λ rest. flown work f ∷ rest) (filter-flown work s flying)
      | false ↦ filter-flown work s flying
    ]

pub end_takes : {A E : Type 0} (r : Result A E) (m mid new : Machine) (e : Event) (s i ts : ℕ) → e ≡ End s i ts → mid.flying.items ≡ filter (λ f. not (f.s == s)) m.flying.items → mid ≡ record m { flying = mid.flying } → AnswersIn r mid new (End s i ts) s → new ≡ record mid { turns = new.turns } → OnOk r ((work : Workload) → Takes work m e new)
end_takes r m mid new e s i ts is flying left turns rest =
    along e (End s i ts) (λ x. OnOk r ((work : Workload) → Takes work m x new)) is
    (answered_takes r m mid new (End s i ts) s i
    (subst (λ (x : Machine). AnswersIn r x new (End s i ts) s) left turns)
    rest
    (λ work past k al. record { look = None; at = flying_sits (map turn_of m.turns.items) s i ts (map (flown work) m.flying.items) k al.1 })
    (λ work past.
    ap (λ (x : Machine). record (state_of work past x) { turns = set_nth (map turn_of m.turns.items) s (record { next = i + 1; look = None }) }) left
    ∙ ap (λ (ws : List Flying). record (state_of work past m) { flying = ws; turns = set_nth (map turn_of m.turns.items) s (record { next = i + 1; look = None }) }) (ap (map (flown work)) flying ∙ filter-flown work s m.flying.items))
    (λ s' i'. refl))

pub look_takes : (m mid : Machine) (e : Event) (s i t c : ℕ) → e ≡ Look s i t c → ((stand : Stand) → nth m.turns.items s ≡ Some stand → mid.turns.items ≡ set_nth m.turns.items s (record stand { look = Some t })) → mid ≡ record m { turns = mid.turns } → (work : Workload) → Takes work m e (record mid { c = t })
look_takes m mid e s i t c is turns rest work =
    along e (Look s i t c) (λ x. Takes work m x (record mid { c = t })) is (λ past k al.
    let st = stand_of m.turns.items s _ al.1.next in
    let set = turns st.stand st.at in
    let seen : map turn_of mid.turns.items ≡ set_nth (map turn_of m.turns.items) s (record { next = i; look = Some t }) =
    ap (map turn_of) set ∙ map-set_nth turn_of m.turns.items s (record st.stand { look = Some t }) ∙ ap (λ (n : ℕ). set_nth (map turn_of m.turns.items) s (record { next = n; look = Some t })) (ap (λ (t : Turn). t.next) st.turn_is) in (
      ap (λ (x : State). record x { c = t }) (state_from work past m mid _ rest seen),
      λ s' i'. ap (λ ts. line_of ts s' i') set ∙ lines_stay m.turns.items s st.stand (Some t) s' i' st.at,
    ))

-- ---- one line more

run_splits : (work : Workload) (st : State) (es : List Event) (e : Event) → IsRunFrom work st (es ++ e ∷ []) → Allowed work (state_after work st es) e
run_splits work st [] e run = run.0
run_splits work st (x ∷ es) e run = run_splits work (after work st x) es e run.1

pub refuses : (work : Workload) (past : Past) (c : ℕ) (before : List Event) (m : Machine) (e : Event) → Follows work past c before m → ((p : Past) → Allowed work (state_of work p m) e → ⊥) → IsRun work past c (before ++ e ∷ []) → ⊥
refuses work past c before m e f never run =
    never (past_after work past c before) (subst (λ (st : State). Allowed work st e) (sym f.state) (run_splits work (start work past c) before e run))

pub follows_more : (work : Workload) (past : Past) (c : ℕ) (before : List Event) (m new : Machine) (e : Event) → Follows work past c before m → ((p : Past) → Allowed work (state_of work p m) e) → Takes work m e new → Follows work past c (before ++ e ∷ []) new
follows_more work past c before m new e f al takes =
    let p = past_after work past c before in
    let sit = subst Sits (sym f.state) (sits_all work (start work past c) before f.run tt) in
    let t = takes p sit (al p) in
    let here : after work (state_of work p m) e ≡ state_after work (start work past c) (before ++ e ∷ []) = ap (λ (st : State). after work st e) f.state ∙ sym (state_after-append work (start work past c) before (e ∷ [])) in
    record {
      run = IsRunFrom-append work (start work past c) before (e ∷ []) f.run (subst (λ (st : State). Allowed work st e) f.state (al p), tt);
      state = ap (λ (st : State). state_of work st.past new) (sym here) ∙ t.0 ∙ here;
      lines = λ s i. t.1 s i ∙ ap (λ o. option_or o (cond (answers s i e) (Some e) None)) (f.lines s i) ∙ sym (find-append (answers s i) before (e ∷ []));
    }
