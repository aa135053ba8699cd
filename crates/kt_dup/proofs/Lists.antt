-- Changes of one key, as lists by rising time.
use Rattle.std.proofs.Common.{◌≡◌, ℕ, ◌<◌, ◌≤◌, [], ◌∷◌, ◌++◌, Some, None, refl, Bool, true, false, cond, sym, ap, ◌∙◌, subst, arith, inl, inr}
use Rattle.std.specs.Prelude.{◌==◌, nat_lt}
use Rattle.std.proofs.lemmas.Bool.{cases_lt, eq-eqb, ne_eqb, lt-ltb, le-ltb}
use Rattle.kt_history.specs.declared.change.Change.{Change}
use Rattle.kt_history.specs.Stores.{Steps, step_at, Under}
use Rattle.kt_histlaws.specs.Fitting.{Rises, steps_above}
use Rattle.kt_histlaws.specs.Flights.{UpTo}
use Rattle.std.specs.List.{find}
use Rattle.std.specs.Option.{option_map}
use Rattle.kt_dup.specs.Missed.{first_time, first_above}

-- from a lower time on they rise too
pub rises_lower : (low high : ℕ) (steps : Steps) → low ≤ high → Rises high steps → Rises low steps
rises_lower low high [] le r = tt
rises_lower low high (c ∷ steps) le r = (omega (arith, r.0), r.1)

-- one more, above all
pub rises_more : (low ts : ℕ) (c : Change) (steps : Steps) → Rises low steps → Under ts steps → low < ts → Rises low (steps ++ (ts, c) ∷ [])
rises_more low ts c [] r un lt = (lt, tt)
rises_more low ts c (d ∷ steps) r un lt = (r.0, rises_more d.0 ts c steps r.1 un.1 un.0)

-- what stands behind others rises from any time below
pub rises_behind : (low : ℕ) (xs ys : Steps) → Rises low (xs ++ ys) → Rises low ys
rises_behind low [] ys r = r
rises_behind low (x ∷ xs) ys r = rises_lower low x.0 ys (omega (arith, r.0)) (rises_behind x.0 xs ys r.1)

-- those above a time: all, or none
pub all_stay : (bound low : ℕ) (steps : Steps) → bound ≤ low → Rises low steps → steps_above bound steps ≡ steps
all_stay bound low [] le r = refl
all_stay bound low (c ∷ steps) le r =
    ap (λ b. cond b (c ∷ steps_above bound steps) (steps_above bound steps)) (lt-ltb bound c.0 (omega (arith, r.0))) ∙ ap (λ rest. c ∷ rest) (all_stay bound c.0 steps (omega (arith, r.0)) r.1)

pub none_stays : (bound : ℕ) (steps : Steps) → UpTo bound steps → steps_above bound steps ≡ []
none_stays bound [] up = refl
none_stays bound (c ∷ steps) up = ap (λ b. cond b (c ∷ steps_above bound steps) (steps_above bound steps)) (le-ltb bound c.0 up.0) ∙ none_stays bound steps up.1

-- the change at a time above
pub step_above : (bound t : ℕ) (steps : Steps) → bound < t → step_at t (steps_above bound steps) ≡ step_at t steps
step_above bound t [] lt = refl
step_above bound t (c ∷ steps) lt = elim (cases_lt bound c.0) [
  | inl above ↦ ap (λ b. step_at t (cond b (c ∷ steps_above bound steps) (steps_above bound steps))) (lt-ltb bound c.0 above) ∙ ap (λ rest. cond (c.0 == t) (Some c.1) rest) (step_above bound t steps lt)
  | inr below ↦ ap (λ b. step_at t (cond b (c ∷ steps_above bound steps) (steps_above bound steps))) (le-ltb bound c.0 below) ∙ step_above bound t steps lt
      ∙ sym (ap (λ b. cond b (Some c.1) (step_at t steps)) (ne_eqb c.0 t (λ e. omega arith)))
]

-- lists that rise and have the same change at each time are the same
none_below : (low t : ℕ) (steps : Steps) → Rises low steps → t ≤ low → step_at t steps ≡ None
none_below low t [] r le = refl
none_below low t (c ∷ steps) r le = ap (λ b. cond b (Some c.1) (step_at t steps)) (ne_eqb c.0 t (λ e. omega (arith, r.0))) ∙ none_below c.0 t steps r.1 (omega (arith, r.0))

at_first : (c : ℕ × Change) (steps : Steps) → step_at c.0 (c ∷ steps) ≡ Some c.1
at_first c steps = ap (λ b. cond b (Some c.1) (step_at c.0 steps)) (eq-eqb c.0 c.0 refl)

behind : (t : ℕ) (c : ℕ × Change) (steps : Steps) → c.0 < t → step_at t (c ∷ steps) ≡ step_at t steps
behind t c steps lt = ap (λ b. cond b (Some c.1) (step_at t steps)) (ne_eqb c.0 t (λ e. omega arith))

no_change : (c : Change) → Some c ≡ None → ⊥
no_change c e = cc

the_change : (c d : Change) → Some c ≡ Some d → c ≡ d
the_change c d e = cc

pub same_changes : (low : ℕ) (xs ys : Steps) → Rises low xs → Rises low ys → ((t : ℕ) → low < t → step_at t xs ≡ step_at t ys) → xs ≡ ys
same_changes low [] [] rx ry same = refl
same_changes low [] (y ∷ ys) rx ry same = absurd (no_change y.1 (sym (at_first y ys) ∙ sym (same y.0 ry.0)))
same_changes low (x ∷ xs) [] rx ry same = absurd (no_change x.1 (sym (at_first x xs) ∙ same x.0 rx.0))
same_changes low (x ∷ xs) (y ∷ ys) rx ry same = elim (cases_lt x.0 y.0) [
  | inl lt ↦ absurd (no_change x.1 (sym (at_first x xs) ∙ same x.0 rx.0 ∙ none_at x.0 lt))
  | inr le ↦ elim (cases_lt y.0 x.0) [
    | inl lt ↦ absurd (no_change y.1 (sym (at_first y ys) ∙ sym (same y.0 ry.0) ∙ none_in y.0 lt))
    | inr ge ↦ both (omega arith) (λ r e. same_changes x.0 xs ys rx.1 r e)
  ]
]
  where
    none_at : (t : ℕ) → t < y.0 → step_at t (y ∷ ys) ≡ None
    none_at t lt = ap (λ b. cond b (Some y.1) (step_at t ys)) (ne_eqb y.0 t (λ e. omega arith)) ∙ none_below y.0 t ys ry.1 (omega arith)

    none_in : (t : ℕ) → t < x.0 → step_at t (x ∷ xs) ≡ None
    none_in t lt = ap (λ b. cond b (Some x.1) (step_at t xs)) (ne_eqb x.0 t (λ e. omega arith)) ∙ none_below x.0 t xs rx.1 (omega arith)

    both : x.0 ≡ y.0 → (Rises x.0 ys → ((t : ℕ) → x.0 < t → step_at t xs ≡ step_at t ys) → xs ≡ ys) → x ∷ xs ≡ y ∷ ys
    both e go =
        let one : x.1 ≡ y.1 = the_change x.1 y.1 (sym (at_first x xs) ∙ same x.0 rx.0 ∙ ap (λ t. step_at t (y ∷ ys)) e ∙ at_first y ys) in
        let rest : xs ≡ ys = go (subst (λ n. Rises n ys) (sym e) ry.1)
        (λ t lt. sym (behind t x xs lt) ∙ same t (omega (arith, rx.0)) ∙ behind t y ys (omega arith)) in
        λ k. (e k, one k) ∷ rest k

-- the first change above a time is found, or is the first of those above it
pub first_found : (above : ℕ) (steps : Steps) → option_map (λ (c : ℕ × Change). c.0) (find (λ (c : ℕ × Change). nat_lt above c.0) steps) ≡ first_above above steps
first_found above [] = refl
first_found above (c ∷ steps) = by (nat_lt above c.0) (first_found above steps)
  where
    by : (b : Bool) → option_map (λ (c : ℕ × Change). c.0) (find (λ (c : ℕ × Change). nat_lt above c.0) steps) ≡ first_above above steps
        → option_map (λ (c : ℕ × Change). c.0) (cond b (Some c) (find (λ (c : ℕ × Change). nat_lt above c.0) steps)) ≡ first_time (cond b (c ∷ steps_above above steps) (steps_above above steps))
    by true h = refl
    by false h = h
