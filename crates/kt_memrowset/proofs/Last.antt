-- Where no change lies above a time, the row at it is the last one.
use Rattle.std.proofs.Common.{◌≡◌, ℕ, ◌≤◌, true, cond, [], ◌∷◌, Option, refl, sym, ap, ◌∙◌, arith}
use Rattle.std.specs.Prelude.{nat_le}
use Rattle.std.proofs.lemmas.Bool.Decides.{nat_tests}
use Rattle.kt_history.specs.Rows.{Row, apply}
use Rattle.kt_history.specs.Stores.{Hist, Steps, row_of, after_steps, Under, apply_all, last_row}
use Rattle.kt_histlaws.specs.Flights.{UpTo}

test_le : (a b : ℕ) → a ≤ b → nat_le a b ≡ true
test_le a b h = grind (arith, nat_tests)

all_up_to : (t : ℕ) (steps : Steps) (row : Option Row) → UpTo t steps → after_steps t steps row ≡ apply_all steps row
all_up_to t [] row up = refl
all_up_to t (c ∷ steps) row up = ap (λ b. after_steps t steps (cond b (apply c.1 row) row)) (test_le c.0 t up.0) ∙ all_up_to t steps (apply c.1 row) up.1

below : (t : ℕ) (steps : Steps) → Under t steps → UpTo t steps
below t [] under = tt
below t (c ∷ steps) under = (let low = under.0 in omega arith, below t steps under.1)

pub last_up_to : (t : ℕ) (h : Hist) → UpTo t h.steps → last_row h ≡ row_of t h
last_up_to t h up = sym (all_up_to t h.steps h.first up)

pub last_under : (t : ℕ) (h : Hist) → Under t h.steps → last_row h ≡ row_of t h
last_under t h under = last_up_to t h (below t h.steps under)
