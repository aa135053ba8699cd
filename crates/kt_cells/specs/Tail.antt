-- Bytes that are added behind others.
use Rattle.std.specs.Prelude.{ℕ, List}

pub record TailView : Type 0 where
  pub front : List ℕ
  pub added : List ℕ
