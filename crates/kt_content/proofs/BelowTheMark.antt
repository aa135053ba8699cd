-- Outputs below a job's mark.
use Rattle.std.proofs.Common.{◌≡◌, ◌≤◌, ◌<◌, ◌-◌, ℕ, List, [], ◌∷◌, None, Option, refl, sym, ap, ◌∙◌, subst, arith, cond, map, inl, inr}
use Rattle.std.proofs.lemmas.Bool.{cases_lt, le-leb, lt-leb, lt-ltb, le-ltb, ne_eqb}
use Rattle.kt_history.specs.Rows.{Row, apply}
use Rattle.kt_histlaws.specs.Histories.{first_some, AtMostOne}
use Rattle.kt_history.specs.Stores.{Steps, Hist, after_steps, row_of, step_at, step_of}
use Rattle.kt_histlaws.specs.Fitting.{AllFit, IfFits, Rises, RiseAbove, steps_above}
use Rattle.kt_content.specs.BelowTheMark.{LacksBetween, EachLacksBetween, alike_from_the_last_change, sound_from_the_last_change}

rows_between : (u j t : ℕ) (steps : Steps) (row : Option Row) → LacksBetween u j steps → u ≤ t → t ≤ j → after_steps t steps row ≡ after_steps j steps row
rows_between u j t [] row q le up = refl
rows_between u j t (c ∷ steps) row q le up = elim q.0 [
  | inl low ↦ ap (λ b. after_steps t steps (cond b (apply c.1 row) row)) (le-leb c.0 t (omega arith)) ∙ rows_between u j t steps (apply c.1 row) q.1 le up ∙ sym (ap (λ b. after_steps j steps (cond b (apply c.1 row) row)) (le-leb c.0 j (omega arith)))
  | inr high ↦ ap (λ b. after_steps t steps (cond b (apply c.1 row) row)) (lt-leb c.0 t (omega arith)) ∙ rows_between u j t steps row q.1 le up ∙ sym (ap (λ b. after_steps j steps (cond b (apply c.1 row) row)) (lt-leb c.0 j (omega arith)))
]

none_between : (u j t : ℕ) (steps : Steps) → LacksBetween u j steps → u < t → t ≤ j → step_at t steps ≡ None
none_between u j t [] q lt up = refl
none_between u j t (c ∷ steps) q lt up = rw (ne_eqb c.0 t (λ e. elim q.0 [ inl low ↦ omega arith | inr high ↦ omega arith ])) (none_between u j t steps q.1 lt up)

all_rows : (u j t : ℕ) (hs : List Hist) → EachLacksBetween u j hs → u ≤ t → t ≤ j → map (row_of t) hs ≡ map (row_of j) hs
all_rows u j t [] q le up = refl
all_rows u j t (h ∷ hs) q le up = ap (λ r. r ∷ map (row_of t) hs) (rows_between u j t h.steps h.first q.0 le up) ∙ ap (λ rs. row_of j h ∷ rs) (all_rows u j t hs q.1 le up)

no_steps : (u j t : ℕ) (hs : List Hist) → EachLacksBetween u j hs → u < t → t ≤ j → (first_some (map (step_of t) hs) ≡ None) × AtMostOne (map (step_of t) hs)
no_steps u j t [] q lt up = (refl, tt)
no_steps u j t (h ∷ hs) q lt up =
    let none = none_between u j t h.steps q.0 lt up in
    let rest = no_steps u j t hs q.1 lt up in
    (rw none rest.0, rw none rest.1)

pub from_last_change : alike_from_the_last_change
from_last_change u j xs ys s qx qy le = record {
  rows = λ t low. elim (cases_lt t j) [
    | inl below ↦ ap first_some (all_rows u j t xs qx low (omega arith)) ∙ s.rows j (omega arith) ∙ sym (ap first_some (all_rows u j t ys qy low (omega arith)))
    | inr from ↦ s.rows t from
  ];
  steps = λ t low. elim (cases_lt j t) [
    | inl above ↦ s.steps t above
    | inr below ↦ (no_steps u j t xs qx low below).0 ∙ sym (no_steps u j t ys qy low below).0
  ];
  one_row = λ t low. elim (cases_lt t j) [
    | inl below ↦ subst AtMostOne (sym (all_rows u j t ys qy low (omega arith))) (s.one_row j (omega arith))
    | inr from ↦ s.one_row t from
  ];
  one_step = λ t low. elim (cases_lt j t) [
    | inl above ↦ s.one_step t above
    | inr below ↦ (no_steps u j t ys qy low below).1
  ];
}

-- soundness

all_fit : (u j t : ℕ) (hs : List Hist) → EachLacksBetween u j hs → u < t → t ≤ j → AllFit t hs
all_fit u j t [] q lt le = tt
all_fit u j t (h ∷ hs) q lt le = (subst (λ o. IfFits o (row_of (t - 1) h)) (sym (none_between u j t h.steps q.0 lt le)) tt, all_fit u j t hs q.1 lt le)

above_same : (u j : ℕ) (steps : Steps) → LacksBetween u j steps → u ≤ j → steps_above u steps ≡ steps_above j steps
above_same u j [] q le = refl
above_same u j (c ∷ steps) q le = elim q.0 [
  | inl low ↦ rw (le-ltb u c.0 low, le-ltb j c.0 (omega (arith, low))) (above_same u j steps q.1 le)
  | inr up ↦ rw (lt-ltb u c.0 (omega (arith, up)), lt-ltb j c.0 up) (ap (λ l. c ∷ l) (above_same u j steps q.1 le))
]

rises_from : (u j : ℕ) (steps : Steps) → u ≤ j → Rises j steps → Rises u steps
rises_from u j [] le r = tt
rises_from u j (c ∷ steps) le r = (omega (arith, r.0), r.1)

all_rise : (u j : ℕ) (hs : List Hist) → EachLacksBetween u j hs → u ≤ j → RiseAbove j hs → RiseAbove u hs
all_rise u j [] q le r = tt
all_rise u j (h ∷ hs) q le r = (subst (Rises u) (sym (above_same u j h.steps q.0 le)) (rises_from u j (steps_above j h.steps) le r.0), all_rise u j hs q.1 le r.1)

pub sound_from : sound_from_the_last_change
sound_from u j hs s q le = record {
  fit = λ t lt. elim (cases_lt j t) [ inl up ↦ s.fit t up | inr low ↦ all_fit u j t hs q lt (omega arith) ];
  rise = all_rise u j hs q le s.rise;
}
