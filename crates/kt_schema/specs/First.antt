-- The least place that passes a test.
use Rattle.std.specs.Prelude.{ℕ, zero, suc, Bool, false, List, Option, Some, None, if◌then◌else◌}
use Rattle.std.specs.List.{slice_get}
use Rattle.std.specs.Option.{option_or, option_map_or}

-- the least number below this one that passes
abbrev pub first : (ℕ → Bool) → ℕ → Option ℕ
first p zero = None
first p (suc n) = option_or (first p n) (if p n then Some n else None)

-- something stands at the place, and passes
abbrev pub passes_at : {A : Type 0} → (A → Bool) → List A → ℕ → Bool
passes_at p xs k = option_map_or p (slice_get xs k) false
