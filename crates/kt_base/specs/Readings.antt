-- What a clock in memory reads.
use Rattle.std.specs.Prelude.{Bool, true, false, ℕ, zero, suc, ◌-◌, ◌^◌, List, [], ◌∷◌, ◌++◌, length, nat_lt, if◌then◌else◌, get_or, Option, Some, None}

-- the k-th reading, counted from 0: of the list, then its last, and 0 where there is none
abbrev pub reading : List ℕ → ℕ → ℕ
reading readings k = if nat_lt k (length readings) then get_or readings k 0 else get_or readings (length readings - 1) 0

-- the first n readings
abbrev pub first_readings : List ℕ → ℕ → List ℕ
first_readings readings zero = []
first_readings readings (suc n) = first_readings readings n ++ reading readings n ∷ []

-- the list, where it is told
abbrev pub told_if : Bool → List ℕ → Option (List ℕ)
told_if true readings = Some readings
told_if false readings = None

-- the first n readings, where their count has not ended
abbrev pub counted_readings : List ℕ → ℕ → Option (List ℕ)
counted_readings readings n = told_if (nat_lt n (2 ^ 64 - 1)) (first_readings readings n)
