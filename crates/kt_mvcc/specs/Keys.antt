-- When two encoded keys are one.
use Rattle.std.specs.Prelude.{ℕ, Bool, List}
use Rattle.std.specs.Ordering.{nat_cmp, is_eq}
use Rattle.std.specs.Cmp.Lexicographic.{slice_cmp}

abbrev pub same_key : List ℕ → List ℕ → Bool
same_key x y = is_eq (slice_cmp nat_cmp x y)
