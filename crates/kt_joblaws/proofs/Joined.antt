-- Histories that are apart, joined to one.
use Rattle.std.proofs.Common.{◌≡◌, ◌≤◌, ◌<◌, ◌+◌, ◌-◌, ℕ, zero, suc, List, [], ◌∷◌, ◌++◌, map, Some, None, Option, true, false, cond, refl, sym, ap, ◌∙◌, subst, arith, inl, inr}
use Rattle.std.specs.Prelude.{nat_lt, ◌==◌}
use Rattle.std.proofs.lemmas.Bool.{cases_lt, cases_eq, ltb-false, ltb-true, ne_eqb, eq-eqb, le-leb, lt-leb}
use Rattle.kt_history.specs.declared.change.Change.{Change}
use Rattle.kt_history.specs.declared.change.Change.TheVariants.{Ins, Upd, Del}
use Rattle.kt_history.specs.Rows.{Row, apply, fits}
use Rattle.kt_history.specs.History.{row_after}
use Rattle.kt_history.specs.Stores.{Steps, Hist, after_steps, row_of, step_at, step_of}
use Rattle.kt_histlaws.specs.Fitting.{IfFits, AllFit, RiseAbove, Rises, steps_above}
use Rattle.kt_histlaws.specs.Histories.{first_some, or_else, AtMostOne}
use Rattle.kt_histlaws.proofs.OneKey.{step_at-append}
use Rattle.kt_rowfiles.specs.Files.{put_rising, rising}
use Rattle.kt_rowfiles.specs.Flushing.{EachAbove, InOrderAt}
use Rattle.kt_rowfiles.specs.Merging.{all_above, joined_history}
use Rattle.kt_rowfiles.proofs.Flushing.{cut_rows, cut_steps}
use Rattle.kt_rowfiles.proofs.Merging.{Once, step-rising}
use Rattle.kt_rowfiles.proofs.Options.{at_most_rest}
use Rattle.kt_merge.specs.Laws.{EachFits}
use Rattle.kt_joblaws.specs.Apart.{AreApart, AllInOrder, a_joined_history_is_shown}

-- ---- The changes of all: they rise. (kt_rowfiles has these lemmas for its own joined histories.)

low_none : (low t : ℕ) (steps : Steps) → Rises low steps → t ≤ low → step_at t steps ≡ None
low_none low t [] r le = refl
low_none low t (c ∷ steps) r le = rw (ne_eqb c.0 t (λ s. omega (arith, r.0))) (low_none c.0 t steps r.1 (omega (arith, r.0)))

lower : (a b : ℕ) (steps : Steps) → a ≤ b → EachAbove b steps → EachAbove a steps
lower a b [] le e = tt
lower a b (c ∷ steps) le e = (omega (arith, e.0), lower a b steps le e.1)

pub rises_above : (low : ℕ) (steps : Steps) → Rises low steps → EachAbove low steps
rises_above low [] r = tt
rises_above low (c ∷ steps) r = (r.0, lower low c.0 steps (omega (arith, r.0)) (rises_above c.0 steps r.1))

rises_once : (low : ℕ) (steps : Steps) → Rises low steps → Once steps
rises_once low [] r = tt
rises_once low (c ∷ steps) r = (low_none c.0 c.0 steps r.1 (omega arith), rises_once c.0 steps r.1)

put_rises : (low : ℕ) (c : ℕ × Change) (steps : Steps) → Rises low steps → low < c.0 → step_at c.0 steps ≡ None → Rises low (put_rising c steps)
put_rises low c [] r lt none = (lt, tt)
put_rises low c (d ∷ steps) r lt none = elim (nat_lt d.0 c.0) as (λ b. nat_lt d.0 c.0 ≡ b → Rises low (cond b (d ∷ put_rising c steps) (c ∷ d ∷ steps))) [
  | true ↦ λ e.
      let up : d.0 < c.0 = ltb-true d.0 c.0 e in
      (r.0, put_rises d.0 c steps r.1 up (subst (λ b. cond b (Some d.1) (step_at c.0 steps) ≡ None) (ne_eqb d.0 c.0 (λ s. omega arith)) none))
  | false ↦ λ e.
      let down = ltb-false d.0 c.0 e in
      let other : c.0 < d.0 = elim (cases_eq d.0 c.0) [
        | inl same ↦ absurd (let found : cond (d.0 == c.0) (Some d.1) (step_at c.0 steps) ≡ Some d.1 = ap (λ b. cond b (Some d.1) (step_at c.0 steps)) (eq-eqb d.0 c.0 same) in let f : None ≡ Some d.1 = sym none ∙ found in cc)
        | inr ne ↦ omega arith
      ] in
      (lt, (other, r.1))
] refl

rising_rises : (low : ℕ) (steps : Steps) → Once steps → EachAbove low steps → Rises low (rising steps)
rising_rises low [] o e = tt
rising_rises low (c ∷ steps) o e = put_rises low c (rising steps) (rising_rises low steps o.1 e.1) e.0 (step-rising c.0 steps ∙ o.0)

pub step-all : (j t : ℕ) (hs : List Hist) → j < t → step_at t (all_above j hs) ≡ first_some (map (step_of t) hs)
step-all j t [] lt = refl
step-all j t (h ∷ hs) lt = step_at-append t (steps_above j h.steps) (all_above j hs) ∙ ap (λ o. or_else o (step_at t (all_above j hs))) (cut_steps j t h.steps lt) ∙ ap (or_else (step_of t h)) (step-all j t hs lt)

each_append : (j : ℕ) (xs ys : Steps) → EachAbove j xs → EachAbove j ys → EachAbove j (xs ++ ys)
each_append j [] ys e f = f
each_append j (x ∷ xs) ys e f = (e.0, each_append j xs ys e.1 f)

once_append : (j : ℕ) (xs ys : Steps) → Once xs → Once ys → EachAbove j xs → ((t : ℕ) (c : Change) → j < t → step_at t xs ≡ Some c → step_at t ys ≡ None) → Once (xs ++ ys)
once_append j [] ys o p e g = p
once_append j (x ∷ xs) ys o p e g =
    let here : step_at x.0 (x ∷ xs) ≡ Some x.1 = ap (λ b. cond b (Some x.1) (step_at x.0 xs)) (eq-eqb x.0 x.0 refl) in (
      step_at-append x.0 xs ys ∙ ap (λ a. or_else a (step_at x.0 ys)) o.0 ∙ g x.0 x.1 e.0 here,
      once_append j xs ys o.1 p e.1 (λ t c lt is. elim (cases_eq x.0 t) [
        | inl same ↦ absurd (let f : None ≡ Some c = sym (ap (λ n. step_at n xs) (sym same) ∙ o.0) ∙ is in cc)
        | inr ne ↦ g t c lt (rw (ne_eqb x.0 t ne) is)
      ]),
    )

at_most_some : {A : Type 0} (x : Option A) (xs : List (Option A)) (a : A) → AtMostOne (x ∷ xs) → x ≡ Some a → first_some xs ≡ None
at_most_some None xs a one e = cc
at_most_some (Some y) xs a one e = one

all_once : (j : ℕ) (hs : List Hist) → RiseAbove j hs → ((t : ℕ) → j < t → AtMostOne (map (step_of t) hs)) → Once (all_above j hs) × EachAbove j (all_above j hs)
all_once j [] r one = (tt, tt)
all_once j (h ∷ hs) r one =
    let rest = all_once j hs r.1 (λ t lt. at_most_rest (step_of t h) (map (step_of t) hs) (one t lt)) in (
      once_append j (steps_above j h.steps) (all_above j hs) (rises_once j (steps_above j h.steps) r.0) rest.0 (rises_above j (steps_above j h.steps) r.0)
          (λ t c lt is. step-all j t hs lt ∙ at_most_some (step_of t h) (map (step_of t) hs) c (one t lt) (sym (cut_steps j t h.steps lt) ∙ is)),
      each_append j (steps_above j h.steps) (all_above j hs) (rises_above j (steps_above j h.steps) r.0) rest.1,
    )

-- ---- from one time to the next

-- changes above a time leave the row
settled : (t low : ℕ) (steps : Steps) (row : Option Row) → t ≤ low → EachAbove low steps → after_steps t steps row ≡ row
settled t low [] row le e = refl
settled t low (c ∷ steps) row le e = ap (λ b. after_steps t steps (cond b (apply c.1 row) row)) (lt-leb c.0 t (omega (arith, e.0))) ∙ settled t low steps row le e.1

-- the row at the next time is that after the change there, if there is one
next_row : (t low : ℕ) (steps : Steps) (row : Option Row) → Rises low steps → after_steps (suc t) steps row ≡ row_after (step_at (suc t) steps) (after_steps t steps row)
next_row t low [] row r = refl
next_row t low (c ∷ steps) row r = elim (cases_lt c.0 (suc t)) [
  | inl before ↦
      ap (λ b. after_steps (suc t) steps (cond b (apply c.1 row) row)) (le-leb c.0 (suc t) (omega arith))
      ∙ next_row t c.0 steps (apply c.1 row) r.1
      ∙ ap (λ o. row_after o (after_steps t steps (apply c.1 row))) (sym (ap (λ b. cond b (Some c.1) (step_at (suc t) steps)) (ne_eqb c.0 (suc t) (λ s. omega arith))))
      ∙ ap (λ b. row_after (step_at (suc t) (c ∷ steps)) (after_steps t steps (cond b (apply c.1 row) row))) (sym (le-leb c.0 t (omega arith)))
  | inr from ↦ elim (cases_eq c.0 (suc t)) [
    | inl same ↦
        ap (λ b. after_steps (suc t) steps (cond b (apply c.1 row) row)) (le-leb c.0 (suc t) (omega arith))
        ∙ settled (suc t) c.0 steps (apply c.1 row) (omega arith) (rises_above c.0 steps r.1)
        ∙ sym (ap (row_after (Some c.1)) (settled t c.0 steps row (omega arith) (rises_above c.0 steps r.1)))
        ∙ ap (λ o. row_after o (after_steps t steps row)) (sym (ap (λ b. cond b (Some c.1) (step_at (suc t) steps)) (eq-eqb c.0 (suc t) same)))
        ∙ ap (λ b. row_after (step_at (suc t) (c ∷ steps)) (after_steps t steps (cond b (apply c.1 row) row))) (sym (lt-leb c.0 t (omega arith)))
    | inr ne ↦
        ap (λ b. after_steps (suc t) steps (cond b (apply c.1 row) row)) (lt-leb c.0 (suc t) (omega arith))
        ∙ next_row t c.0 steps row r.1
        ∙ ap (λ o. row_after o (after_steps t steps row)) (sym (ap (λ b. cond b (Some c.1) (step_at (suc t) steps)) (ne_eqb c.0 (suc t) ne)))
        ∙ ap (λ b. row_after (step_at (suc t) (c ∷ steps)) (after_steps t steps (cond b (apply c.1 row) row))) (sym (lt-leb c.0 t (omega arith)))
  ]
]

-- so it is in a history whose changes come in order
next_of : (j t : ℕ) (h : Hist) → j ≤ t → InOrderAt j h.steps → Rises j (steps_above j h.steps) → row_of (suc t) h ≡ row_after (step_of (suc t) h) (row_of t h)
next_of j t h le order rise =
    sym (cut_rows j (suc t) h.steps h.first (omega arith) order)
    ∙ next_row t j (steps_above j h.steps) (row_of j h) rise
    ∙ ap (λ o. row_after o (after_steps t (steps_above j h.steps) (row_of j h))) (cut_steps j (suc t) h.steps (omega arith))
    ∙ ap (row_after (step_of (suc t) h)) (cut_rows j t h.steps h.first le order)

-- ---- of all of them

abbrev RowsAt : ℕ → List Hist → List (Option Row)
RowsAt t hs = map (row_of t) hs

abbrev StepsAt : ℕ → List Hist → List (Option Change)
StepsAt t hs = map (step_of t) hs

-- where a change fits no row, it brings one
brings : (s : Option Change) → IfFits s None → row_after s None ≡ None → s ≡ None
brings None fit none = refl
brings (Some (Ins row)) fit none = absurd (let e : Some row ≡ None = none in cc)
brings (Some (Upd cells)) fit none = absurd (cc)
brings (Some Del) fit none = absurd (cc)

-- the change of all at the next time fits the row of all, and the row of all is that after it
pub record Goes (t : ℕ) (hs : List Hist) : Type 0 where
  pub row : first_some (RowsAt (suc t) hs) ≡ row_after (first_some (StepsAt (suc t) hs)) (first_some (RowsAt t hs))
  pub fit : IfFits (first_some (StepsAt (suc t) hs)) (first_some (RowsAt t hs))

-- one history before others: its row and its change, and those of the others
one_more : (here next : Option Row) (step : Option Change) (rest later : Option Row) (steps : Option Change)
    → next ≡ row_after step here → IfFits step here → later ≡ row_after steps rest → IfFits steps rest
    → ((x : Row) → here ≡ Some x → rest ≡ None) → ((x : Row) → next ≡ Some x → later ≡ None) → ((c : Change) → step ≡ Some c → steps ≡ None)
    → (or_else next later ≡ row_after (or_else step steps) (or_else here rest)) × IfFits (or_else step steps) (or_else here rest)
one_more None next None rest later steps go fit goes fits_rest one one_next one_step = (ap (λ n. or_else n later) go ∙ goes, fits_rest)
one_more (Some x) next None rest later steps go fit goes fits_rest one one_next one_step =
    let none : rest ≡ None = one x refl in
    let gone : later ≡ None = one_next x go in
    let still : steps ≡ None = brings steps (subst (IfFits steps) none fits_rest) (sym (ap (row_after steps) none) ∙ sym goes ∙ gone) in (
      ap (λ n. or_else n later) go ∙ sym (ap (λ s. row_after s (Some x)) still),
      subst (λ s. IfFits s (Some x)) (sym still) tt,
    )
one_more None next (Some (Ins row)) rest later steps go fit goes fits_rest one one_next one_step =
    let still : steps ≡ None = one_step (Ins row) refl in
    let gone : later ≡ None = one_next row go in
    let none : rest ≡ None = sym (goes ∙ ap (λ s. row_after s rest) still) ∙ gone in (
      ap (λ n. or_else n later) go ∙ sym (ap (apply (Ins row)) none),
      ap (fits (Ins row)) none,
    )
one_more None next (Some (Upd cells)) rest later steps go fit goes fits_rest one one_next one_step = absurd (cc)
one_more None next (Some Del) rest later steps go fit goes fits_rest one one_next one_step = absurd (cc)
one_more (Some x) next (Some (Ins row)) rest later steps go fit goes fits_rest one one_next one_step = absurd (cc)
one_more (Some x) next (Some (Upd cells)) rest later steps go fit goes fits_rest one one_next one_step = (ap (λ n. or_else n later) go, refl)
one_more (Some x) next (Some Del) rest later steps go fit goes fits_rest one one_next one_step =
    let still : steps ≡ None = one_step Del refl in
    let none : rest ≡ None = one x refl in
    (ap (λ n. or_else n later) go ∙ goes ∙ ap (λ s. row_after s rest) still ∙ none, refl)

goes : (j t : ℕ) (hs : List Hist) → j ≤ t → AllInOrder j hs → RiseAbove j hs → AllFit (suc t) hs → AtMostOne (RowsAt t hs) → AtMostOne (RowsAt (suc t) hs) → AtMostOne (StepsAt (suc t) hs) → Goes t hs
goes j t [] le order rise fit one one_next one_step = record { row = refl; fit = tt }
goes j t (h ∷ hs) le order rise fit one one_next one_step =
    let rest = goes j t hs le order.1 rise.1 fit.1 (at_most_rest (row_of t h) (RowsAt t hs) one) (at_most_rest (row_of (suc t) h) (RowsAt (suc t) hs) one_next) (at_most_rest (step_of (suc t) h) (StepsAt (suc t) hs) one_step) in
    let before : suc t - 1 ≡ t = omega arith in
    let both = one_more (row_of t h) (row_of (suc t) h) (step_of (suc t) h) (first_some (RowsAt t hs)) (first_some (RowsAt (suc t) hs)) (first_some (StepsAt (suc t) hs))
    (next_of j t h le order.0 rise.0) (subst (λ n. IfFits (step_of (suc t) h) (row_of n h)) before fit.0) rest.row rest.fit
    (λ x is. at_most_some (row_of t h) (RowsAt t hs) x one is) (λ x is. at_most_some (row_of (suc t) h) (RowsAt (suc t) hs) x one_next is) (λ c is. at_most_some (step_of (suc t) h) (StepsAt (suc t) hs) c one_step is) in
    record { row = both.0; fit = both.1 }

-- ---- the joined history

pub joined_rises : (j : ℕ) (hs : List Hist) → AreApart j hs → Rises j (rising (all_above j hs))
joined_rises j hs a = let once = all_once j hs a.sound.rise a.one_step in rising_rises j (all_above j hs) once.0 once.1

pub joined_step : (j t : ℕ) (hs : List Hist) → j < t → step_at t (rising (all_above j hs)) ≡ first_some (StepsAt t hs)
joined_step j t hs lt = step-rising t (all_above j hs) ∙ step-all j t hs lt

go_on : (j t : ℕ) (hs : List Hist) → j ≤ t → AreApart j hs → AllInOrder j hs → Goes t hs
go_on j t hs le a order = goes j t hs le order a.sound.rise (a.sound.fit (suc t) (omega arith)) (a.one_row t le) (a.one_row (suc t) (omega arith)) (a.one_step (suc t) (omega arith))

-- the rows after so many times
row_later : (j n : ℕ) (hs : List Hist) → AreApart j hs → AllInOrder j hs → first_some (RowsAt (j + n) hs) ≡ row_of (j + n) (joined_history j hs)
row_later j zero hs a order =
    let none : j + 0 ≡ j = omega arith in
    ap (λ t. first_some (RowsAt t hs)) none
    ∙ sym (settled j j (rising (all_above j hs)) (first_some (RowsAt j hs)) (omega arith) (rises_above j (rising (all_above j hs)) (joined_rises j hs a)))
    ∙ sym (ap (λ t. row_of t (joined_history j hs)) none)
row_later j (suc n) hs a order =
    let more : j + suc n ≡ suc (j + n) = omega arith in
    ap (λ t. first_some (RowsAt t hs)) more
    ∙ (go_on j (j + n) hs (omega arith) a order).row
    ∙ ap (row_after (first_some (StepsAt (suc (j + n)) hs))) (row_later j n hs a order)
    ∙ ap (λ s. row_after s (row_of (j + n) (joined_history j hs))) (sym (joined_step j (suc (j + n)) hs (omega arith)))
    ∙ sym (next_row (j + n) j (rising (all_above j hs)) (first_some (RowsAt j hs)) (joined_rises j hs a))
    ∙ sym (ap (λ t. row_of t (joined_history j hs)) more)

pub joined_row : (j t : ℕ) (hs : List Hist) → j ≤ t → AreApart j hs → AllInOrder j hs → first_some (RowsAt t hs) ≡ row_of t (joined_history j hs)
joined_row j t hs le a order =
    let way : j + (t - j) ≡ t = omega arith in
    subst (λ n. first_some (RowsAt n hs) ≡ row_of n (joined_history j hs)) way (row_later j (t - j) hs a order)

pub shown : a_joined_history_is_shown
shown j hs a order = record {
  rows = λ t le. joined_row j t hs le a order;
  steps = λ t lt. sym (joined_step j t hs lt);
  one_row = a.one_row;
  one_step = a.one_step;
}

-- ---- its changes fit

fit_at : (low : ℕ) (steps : Steps) (row : Option Row) → Rises low steps → ((t : ℕ) → low ≤ t → IfFits (step_at (suc t) steps) (after_steps t steps row)) → EachFits steps row
fit_at low [] row r f = tt
fit_at low (c ∷ steps) row r f =
    let before : suc (c.0 - 1) ≡ c.0 = omega (arith, r.0) in
    let own : IfFits (step_at (suc (c.0 - 1)) (c ∷ steps)) (after_steps (c.0 - 1) (c ∷ steps) row) = f (c.0 - 1) (omega (arith, r.0)) in
    let here : step_at (suc (c.0 - 1)) (c ∷ steps) ≡ Some c.1 = ap (λ b. cond b (Some c.1) (step_at (suc (c.0 - 1)) steps)) (eq-eqb c.0 (suc (c.0 - 1)) (sym before)) in
    let still : after_steps (c.0 - 1) (c ∷ steps) row ≡ row = ap (λ b. after_steps (c.0 - 1) steps (cond b (apply c.1 row) row)) (lt-leb c.0 (c.0 - 1) (omega arith)) ∙ settled (c.0 - 1) c.0 steps row (omega arith) (rises_above c.0 steps r.1) in (
      subst (λ s. IfFits s row) here (subst (IfFits (step_at (suc (c.0 - 1)) (c ∷ steps))) still own),
      fit_at c.0 steps (apply c.1 row) r.1
          (λ t le. subst (λ s. IfFits s (after_steps t steps (apply c.1 row))) (ap (λ b. cond b (Some c.1) (step_at (suc t) steps)) (ne_eqb c.0 (suc t) (λ e. omega arith)))
          (subst (λ b. IfFits (step_at (suc t) (c ∷ steps)) (after_steps t steps (cond b (apply c.1 row) row))) (le-leb c.0 t le) (f t (omega (arith, r.0))))),
    )

pub joined_fits : (j : ℕ) (hs : List Hist) → AreApart j hs → AllInOrder j hs → EachFits (rising (all_above j hs)) (first_some (RowsAt j hs))
joined_fits j hs a order = fit_at j (rising (all_above j hs)) (first_some (RowsAt j hs)) (joined_rises j hs a)
    (λ t le.
    let g = go_on j t hs le a order in
    subst (λ s. IfFits s (row_of t (joined_history j hs))) (sym (joined_step j (suc t) hs (omega arith))) (subst (IfFits (first_some (StepsAt (suc t) hs))) (joined_row j t hs le a order) g.fit))
