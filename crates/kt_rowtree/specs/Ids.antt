-- A list of rowset numbers as callers see it.
use Rattle.std.specs.Prelude.{ℕ, List}

-- the numbers, and how many the list can hold without more memory
pub record Ids : Type 0 where
  pub ids : List ℕ
  pub room : ℕ
