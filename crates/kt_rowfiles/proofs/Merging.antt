-- Histories joined to one.
use Rattle.std.proofs.Common.{◌≡◌, ◌≤◌, ◌<◌, ℕ, List, [], ◌∷◌, ◌++◌, Some, None, Option, refl, sym, ap, ◌∙◌, subst, arith, cond, true, false, map, inl, inr}
use Rattle.std.specs.Prelude.{nat_lt, ◌==◌}
use Rattle.std.proofs.lemmas.Bool.{cases_lt, cases_eq, ltb-false, ne_eqb, eq-eqb}
use Rattle.std.proofs.lemmas.Bool.Decides.{nat_tests}
use Rattle.kt_history.specs.declared.change.Change.{Change}
use Rattle.kt_history.specs.Rows.{Row}
use Rattle.kt_histlaws.specs.Histories.{first_some, or_else, AtMostOne, ShowsKey}
use Rattle.kt_history.specs.Stores.{Steps, Hist, after_steps, row_of, step_at, step_of}
use Rattle.kt_histlaws.specs.Fitting.{RiseAbove, Rises, steps_above}
use Rattle.kt_histlaws.proofs.OneKey.{step_at-append}
use Rattle.kt_rowfiles.specs.Files.{put_rising, rising}
use Rattle.kt_rowfiles.specs.Flushing.{EachAbove, cut}
use Rattle.kt_rowfiles.specs.Merging.{all_above, joined_history, a_joined_history_is_alike}
use Rattle.kt_rowfiles.proofs.Flushing.{cut_rows, cut_steps}
use Rattle.kt_rowfiles.proofs.Options.{or_none, one_alone, at_most_rest}

-- what is put by its timestamp is found there
step-put : (t : ℕ) (c : ℕ × Change) (steps : Steps) → step_at t (put_rising c steps) ≡ cond (c.0 == t) (Some c.1) (step_at t steps)
step-put t c [] = refl
step-put t c (d ∷ steps) = elim (nat_lt d.0 c.0) as (λ b. nat_lt d.0 c.0 ≡ b → step_at t (cond b (d ∷ put_rising c steps) (c ∷ d ∷ steps)) ≡ cond (c.0 == t) (Some c.1) (cond (d.0 == t) (Some d.1) (step_at t steps))) [
  | true ↦ λ e.
      let lt : d.0 < c.0 = grind (arith, nat_tests) in
      ap (cond (d.0 == t) (Some d.1)) (step-put t c steps)
      ∙ elim (cases_eq d.0 t) [
        | inl same ↦ let other : (c.0 == t) ≡ false = ne_eqb c.0 t (λ s. omega arith) in let here : (d.0 == t) ≡ true = eq-eqb d.0 t same in rw (other, here) refl
        | inr ne ↦ let other : (d.0 == t) ≡ false = ne_eqb d.0 t ne in rw other refl
      ]
  | false ↦ λ e. refl
] refl

pub step-rising : (t : ℕ) (steps : Steps) → step_at t (rising steps) ≡ step_at t steps
step-rising t [] = refl
step-rising t (c ∷ steps) = step-put t c (rising steps) ∙ ap (cond (c.0 == t) (Some c.1)) (step-rising t steps)

-- no timestamp twice
abbrev pub Once : Steps → Type 0
Once [] = Unit {0}
Once (c ∷ steps) = (step_at c.0 steps ≡ None) × Once steps

low_none : (low t : ℕ) (steps : Steps) → Rises low steps → t ≤ low → step_at t steps ≡ None
low_none low t [] r le = refl
low_none low t (c ∷ steps) r le = rw (ne_eqb c.0 t (λ s. omega (arith, r.0))) (low_none c.0 t steps r.1 (omega (arith, r.0)))

rises_once : (low : ℕ) (steps : Steps) → Rises low steps → Once steps × EachAbove low steps
rises_once low [] r = (tt, tt)
rises_once low (c ∷ steps) r = let rest = rises_once c.0 steps r.1 in ((low_none c.0 c.0 steps r.1 (omega arith), rest.0), (r.0, lower low c.0 steps (omega (arith, r.0)) rest.1))
  where
    lower : (a b : ℕ) (steps : Steps) → a ≤ b → EachAbove b steps → EachAbove a steps
    lower a b [] le e = tt
    lower a b (c ∷ steps) le e = (omega (arith, e.0), lower a b steps le e.1)

put_rises : (low : ℕ) (c : ℕ × Change) (steps : Steps) → Rises low steps → low < c.0 → step_at c.0 steps ≡ None → Rises low (put_rising c steps)
put_rises low c [] r lt none = (lt, tt)
put_rises low c (d ∷ steps) r lt none = elim (nat_lt d.0 c.0) as (λ b. nat_lt d.0 c.0 ≡ b → Rises low (cond b (d ∷ put_rising c steps) (c ∷ d ∷ steps))) [
  | true ↦ λ e.
      let up : d.0 < c.0 = grind (arith, nat_tests) in
      (r.0, put_rises d.0 c steps r.1 up (subst (λ b. cond b (Some d.1) (step_at c.0 steps) ≡ None) (ne_eqb d.0 c.0 (λ s. omega arith)) none))
  | false ↦ λ e.
      let down = ltb-false d.0 c.0 e in
      let other : c.0 < d.0 = elim (cases_eq d.0 c.0) [
        | inl same ↦ absurd (let found : cond (d.0 == c.0) (Some d.1) (step_at c.0 steps) ≡ Some d.1 = ap (λ b. cond b (Some d.1) (step_at c.0 steps)) (eq-eqb d.0 c.0 same) in let f : None ≡ Some d.1 = sym none ∙ found in cc)
        | inr ne ↦ omega arith
      ] in
      (lt, (other, r.1))
] refl

rising_rises : (low : ℕ) (steps : Steps) → Once steps → EachAbove low steps → Rises low (rising steps)
rising_rises low [] o e = tt
rising_rises low (c ∷ steps) o e = put_rises low c (rising steps) (rising_rises low steps o.1 e.1) e.0 (step-rising c.0 steps ∙ o.0)

-- changes that rise are told by what stands at each time
same_rising : (low : ℕ) (xs ys : Steps) → Rises low xs → Rises low ys → ((t : ℕ) → low < t → step_at t xs ≡ step_at t ys) → xs ≡ ys
same_rising low [] [] r s e = refl
same_rising low [] (y ∷ ys) r s e = absurd (let f : None ≡ Some y.1 = e y.0 s.0 ∙ ap (λ b. cond b (Some y.1) (step_at y.0 ys)) (eq-eqb y.0 y.0 refl) in cc)
same_rising low (x ∷ xs) [] r s e = absurd (let f : Some x.1 ≡ None = sym (ap (λ b. cond b (Some x.1) (step_at x.0 xs)) (eq-eqb x.0 x.0 refl)) ∙ e x.0 r.0 in cc)
same_rising low (x ∷ xs) (y ∷ ys) r s e =
    let x_here : step_at x.0 (x ∷ xs) ≡ Some x.1 = ap (λ b. cond b (Some x.1) (step_at x.0 xs)) (eq-eqb x.0 x.0 refl) in
    let y_here : step_at y.0 (y ∷ ys) ≡ Some y.1 = ap (λ b. cond b (Some y.1) (step_at y.0 ys)) (eq-eqb y.0 y.0 refl) in
    let time : x.0 ≡ y.0 = elim (cases_lt x.0 y.0) [
      | inl lt ↦ absurd (let f : Some x.1 ≡ None = sym x_here ∙ e x.0 r.0 ∙ rw (ne_eqb y.0 x.0 (λ q. omega arith)) (low_none y.0 x.0 ys s.1 (omega arith)) in cc)
      | inr le ↦ elim (cases_lt y.0 x.0) [
        | inl lt ↦ absurd (let f : Some y.1 ≡ None = sym y_here ∙ sym (e y.0 s.0) ∙ rw (ne_eqb x.0 y.0 (λ q. omega arith)) (low_none x.0 y.0 xs r.1 (omega arith)) in cc)
        | inr ge ↦ omega arith
      ]
    ] in
    let change : Some x.1 ≡ Some y.1 = sym x_here ∙ e x.0 r.0 ∙ ap (λ n. step_at n (y ∷ ys)) time ∙ y_here in
    let first : x ≡ y = pair x y time (some_is x.1 y.1 change) in
    let rest : xs ≡ ys = same_rising x.0 xs ys r.1 (subst (λ n. Rises n ys) (sym time) s.1)
    (λ t lt. sym (ap (λ b. cond b (Some x.1) (step_at t xs)) (ne_eqb x.0 t (λ q. omega arith))) ∙ e t (omega (arith, r.0)) ∙ ap (λ b. cond b (Some y.1) (step_at t ys)) (ne_eqb y.0 t (λ q. omega (arith, time)))) in
    ap (λ z. z ∷ xs) first ∙ ap (λ l. y ∷ l) rest
  where
    some_is : (a b : Change) → Some a ≡ Some b → a ≡ b
    some_is a b e = cc

    pair : (x y : ℕ × Change) → x.0 ≡ y.0 → x.1 ≡ y.1 → x ≡ y
    pair x y e f = ap (λ n. (n, x.1)) e ∙ ap (λ c. (y.0, c)) f

-- the changes of all stores

step-all : (j t : ℕ) (hs : List Hist) → j < t → step_at t (all_above j hs) ≡ first_some (map (step_of t) hs)
step-all j t [] lt = refl
step-all j t (h ∷ hs) lt = step_at-append t (steps_above j h.steps) (all_above j hs) ∙ ap (λ o. or_else o (step_at t (all_above j hs))) (cut_steps j t h.steps lt) ∙ ap (or_else (step_of t h)) (step-all j t hs lt)

each_append : (j : ℕ) (xs ys : Steps) → EachAbove j xs → EachAbove j ys → EachAbove j (xs ++ ys)
each_append j [] ys e f = f
each_append j (x ∷ xs) ys e f = (e.0, each_append j xs ys e.1 f)

once_append : (j : ℕ) (xs ys : Steps) → Once xs → Once ys → EachAbove j xs → ((t : ℕ) (c : Change) → j < t → step_at t xs ≡ Some c → step_at t ys ≡ None) → Once (xs ++ ys)
once_append j [] ys o p e g = p
once_append j (x ∷ xs) ys o p e g =
    let here : step_at x.0 (x ∷ xs) ≡ Some x.1 = ap (λ b. cond b (Some x.1) (step_at x.0 xs)) (eq-eqb x.0 x.0 refl) in (
      step_at-append x.0 xs ys ∙ ap (λ a. or_else a (step_at x.0 ys)) o.0 ∙ g x.0 x.1 e.0 here,
      once_append j xs ys o.1 p e.1 (λ t c lt is. elim (cases_eq x.0 t) [
        | inl same ↦ absurd (let f : None ≡ Some c = sym (ap (λ n. step_at n xs) (sym same) ∙ o.0) ∙ is in cc)
        | inr ne ↦ g t c lt (rw (ne_eqb x.0 t ne) is)
      ]),
    )

at_most_some : {A : Type 0} (x : Option A) (xs : List (Option A)) (a : A) → AtMostOne (x ∷ xs) → x ≡ Some a → first_some xs ≡ None
at_most_some None xs a one e = cc
at_most_some (Some y) xs a one e = one

all_once : (j : ℕ) (hs : List Hist) → RiseAbove j hs → ((t : ℕ) → j < t → AtMostOne (map (step_of t) hs)) → Once (all_above j hs) × EachAbove j (all_above j hs)
all_once j [] r one = (tt, tt)
all_once j (h ∷ hs) r one =
    let first = rises_once j (steps_above j h.steps) r.0 in
    let rest = all_once j hs r.1 (λ t lt. at_most_rest (step_of t h) (map (step_of t) hs) (one t lt)) in (
      once_append j (steps_above j h.steps) (all_above j hs) first.0 rest.0 first.1
          (λ t c lt is. step-all j t hs lt ∙ at_most_some (step_of t h) (map (step_of t) hs) c (one t lt) (sym (cut_steps j t h.steps lt) ∙ is)),
      each_append j (steps_above j h.steps) (all_above j hs) first.1 rest.1,
    )

-- where the stores show one history from j on, the joined one is that history as it is told from j on
pub joined_steps : (j : ℕ) (hs : List Hist) (whole : Hist) → ShowsKey j hs whole → RiseAbove j hs → RiseAbove j (whole ∷ []) → rising (all_above j hs) ≡ steps_above j whole.steps
joined_steps j hs whole s rise whole_rises =
    let once = all_once j hs rise s.one_step in
    same_rising j (rising (all_above j hs)) (steps_above j whole.steps) (rising_rises j (all_above j hs) once.0 once.1) whole_rises.0
    (λ t lt. step-rising t (all_above j hs) ∙ step-all j t hs lt ∙ s.steps t lt ∙ sym (cut_steps j t whole.steps lt))

pub joined_cut : (j : ℕ) (hs : List Hist) (whole : Hist) → ShowsKey j hs whole → RiseAbove j hs → RiseAbove j (whole ∷ []) → joined_history j hs ≡ cut j whole
joined_cut j hs whole s rise whole_rises =
    ap (λ (first : Option Row). record { first = first; steps = rising (all_above j hs) }) (s.rows j (omega arith))
    ∙ ap (λ (steps : Steps). record { first = row_of j whole; steps = steps }) (joined_steps j hs whole s rise whole_rises)

pub joined_alike : a_joined_history_is_alike
joined_alike j hs whole s rise whole_rises order =
    let same = joined_steps j hs whole s rise whole_rises in
    record {
      rows = λ t le. s.rows t le ∙ sym (or_none (row_of t (joined_history j hs)) ∙ ap (λ l. after_steps t l (first_some (map (row_of j) hs))) same
          ∙ ap (after_steps t (steps_above j whole.steps)) (s.rows j (omega arith)) ∙ cut_rows j t whole.steps whole.first le order);
      steps = λ t up. sym (or_none (step_at t (rising (all_above j hs))) ∙ step-rising t (all_above j hs) ∙ step-all j t hs up);
      one_row = λ t le. one_alone (row_of t (joined_history j hs));
      one_step = λ t up. one_alone (step_at t (rising (all_above j hs)));
    }
