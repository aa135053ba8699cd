-- Reading items one after the other, as a loop does.
use Rattle.std.proofs.Common.{◌≡◌, ℕ, suc, ◌-◌, ◌+◌, ◌≤◌, ◌<◌, List, ◌∷◌, Result, Ok, Err, refl, sym, ap, ◌∙◌, arith}
use Rattle.kt_bytes.specs.declared.fault.Stop.{Stop}
use Rattle.kt_bytes.specs.declared.fault.Stop.TheVariants as stops
use Rattle.kt_bytes.specs.Reading.{◌>>=◌, Fails}
use Rattle.kt_front.specs.Spelling.{base}
use Rattle.kt_front.specs.Walk.{cell_at, items_at, behind_of}

one_more : (item : List ℕ) (read : Result (List (List ℕ) × List ℕ) ℕ) → behind_of (read >>= λ x. Ok (item ∷ x.0, x.1)) ≡ behind_of read
one_more item (Ok x) = refl
one_more item (Err left) = refl

pub goes_on : (most count i : ℕ) (before bytes item after : List ℕ) (total : Result (List ℕ) ℕ) → i < count → cell_at most (base i before) bytes ≡ Ok (item, after)
    → behind_of (items_at most (count - i) i before bytes) ≡ total → behind_of (items_at most (count - (i + 1)) (i + 1) item after) ≡ total
unfolding items_at
goes_on most count i before bytes item after total lt h so_far =
    let k : count - i ≡ suc (count - (i + 1)) = omega arith in
    let s : suc i ≡ i + 1 = omega arith in
    let one : behind_of (items_at most (count - i) i before bytes) ≡ behind_of (items_at most (count - (i + 1)) (i + 1) item after) = rw (k, h) (one_more item (items_at most (count - (i + 1)) (suc i) item after) ∙ ap (λ (j : ℕ). behind_of (items_at most (count - (i + 1)) j item after)) s) in
    sym one ∙ so_far

pub ends : (e : Stop) (most count i : ℕ) (before bytes : List ℕ) (total : Result (List ℕ) ℕ) → i < count → Fails e (cell_at most (base i before) bytes) → behind_of (items_at most (count - i) i before bytes) ≡ total → Fails e total
unfolding items_at
ends stops.Memory most count i before bytes total lt h so_far = tt
ends (stops.Left left) most count i before bytes total lt h so_far =
    let k : count - i ≡ suc (count - (i + 1)) = omega arith in
    let one : behind_of (items_at most (count - i) i before bytes) ≡ Err left = rw (k, h) refl in
    sym so_far ∙ one

pub is_done : (most count i : ℕ) (before bytes : List ℕ) (total : Result (List ℕ) ℕ) → count ≤ i → behind_of (items_at most (count - i) i before bytes) ≡ total → total ≡ Ok bytes
unfolding items_at
is_done most count i before bytes total le so_far =
    let k : count - i ≡ 0 = omega arith in
    let one : behind_of (items_at most (count - i) i before bytes) ≡ Ok bytes = rw k refl in
    sym so_far ∙ one
