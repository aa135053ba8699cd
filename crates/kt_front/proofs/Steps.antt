-- Reading a cell, field after field.
use Rattle.std.proofs.Common.{◌≡◌, ℕ, Bool, cond, List, ◌++◌, length, take, drop, Result, Ok, Err, ap, ◌∙◌}
use Rattle.std.specs.Int.{w32}
use Rattle.kt_bytes.specs.declared.fault.Stop.{Stop}
use Rattle.kt_bytes.specs.declared.fault.Stop.TheVariants as stops
use Rattle.kt_bytes.specs.Reading.{◌>>=◌, Fails, checked_at, bytes_at}
use Rattle.kt_bytes.proofs.Numbers.{then_is}
use Rattle.kt_front.specs.Walk.{begin_alike, is_shared, is_more, cell_at}

abbrev Read : Type 0
Read = Result (List ℕ × List ℕ) ℕ

-- a step that failed is all that is read
stopped : {A B : Type 0} (r : Result A ℕ) (f : A → Result B ℕ) (left : ℕ) → r ≡ Err left → (r >>= f) ≡ Err left
stopped r f left e = ap (λ (s : Result _ ℕ). s >>= f) e

-- what is read behind both numbers
abbrev tail : ℕ → List ℕ → List ℕ → List ℕ × List ℕ → Read
tail shared with bytes rest = cond (begin_alike (drop shared with) rest.0) (Err (length bytes)) (Ok (take shared with ++ rest.0, rest.1))

abbrev behind_one : ℕ → List ℕ → List ℕ → ℕ × List ℕ → Read
behind_one most with bytes n = checked_at w32 (is_more most n.0) n.1 >>= λ m. bytes_at m.0 m.1 >>= tail n.0 with bytes

pub first_stops : (e : Stop) (most : ℕ) (with bytes : List ℕ) → Fails e (checked_at w32 (is_shared with) bytes) → Fails e (cell_at most with bytes)
unfolding cell_at
first_stops stops.Memory most with bytes h = tt
first_stops (stops.Left left) most with bytes h = stopped (checked_at w32 (is_shared with) bytes) (behind_one most with bytes) left h

-- the first number was read
goes : (most : ℕ) (with bytes : List ℕ) (n : ℕ × List ℕ) → checked_at w32 (is_shared with) bytes ≡ Ok n → cell_at most with bytes ≡ behind_one most with bytes n
unfolding cell_at
goes most with bytes n h = then_is (checked_at w32 (is_shared with) bytes) (behind_one most with bytes) n h

pub second_stops : (e : Stop) (most : ℕ) (with bytes : List ℕ) (n : ℕ × List ℕ) → checked_at w32 (is_shared with) bytes ≡ Ok n → Fails e (checked_at w32 (is_more most n.0) n.1) → Fails e (cell_at most with bytes)
second_stops stops.Memory most with bytes n first h = tt
second_stops (stops.Left left) most with bytes n first h = goes most with bytes n first ∙ stopped (checked_at w32 (is_more most n.0) n.1) (λ m. bytes_at m.0 m.1 >>= tail n.0 with bytes) left h

-- both numbers were read
goes_on : (most : ℕ) (with bytes : List ℕ) (n m : ℕ × List ℕ) → checked_at w32 (is_shared with) bytes ≡ Ok n → checked_at w32 (is_more most n.0) n.1 ≡ Ok m → cell_at most with bytes ≡ (bytes_at m.0 m.1 >>= tail n.0 with bytes)
goes_on most with bytes n m first second = goes most with bytes n first ∙ then_is (checked_at w32 (is_more most n.0) n.1) (λ m. bytes_at m.0 m.1 >>= tail n.0 with bytes) m second

pub third_stops : (e : Stop) (most : ℕ) (with bytes : List ℕ) (n m : ℕ × List ℕ) → checked_at w32 (is_shared with) bytes ≡ Ok n → checked_at w32 (is_more most n.0) n.1 ≡ Ok m → Fails e (bytes_at m.0 m.1) → Fails e (cell_at most with bytes)
third_stops stops.Memory most with bytes n m first second h = tt
third_stops (stops.Left left) most with bytes n m first second h = goes_on most with bytes n m first second ∙ stopped (bytes_at m.0 m.1) (tail n.0 with bytes) left h

-- all three were read: the bytes behind begin alike, or not
pub is_tail : (most : ℕ) (with bytes : List ℕ) (n m : ℕ × List ℕ) (rest : List ℕ × List ℕ) (alike : Bool) → checked_at w32 (is_shared with) bytes ≡ Ok n → checked_at w32 (is_more most n.0) n.1 ≡ Ok m → bytes_at m.0 m.1 ≡ Ok rest → begin_alike (drop n.0 with) rest.0 ≡ alike
    → cell_at most with bytes ≡ cond alike (Err (length bytes)) (Ok (take n.0 with ++ rest.0, rest.1))
is_tail most with bytes n m rest alike first second third test = goes_on most with bytes n m first second ∙ (then_is (bytes_at m.0 m.1) (tail n.0 with bytes) rest third ∙ ap (λ (b : Bool). cond {A = Read} b (Err (length bytes)) (Ok (take n.0 with ++ rest.0, rest.1))) test)
