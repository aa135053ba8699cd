-- Two stores beside each other, of which one grows.
use Rattle.std.proofs.Common.{◌≡◌, ℕ, ◌+◌, Option, Some, None, IsSome, inl, inr, ◌⊎◌, arith, ◌∙◌}
use Rattle.kt_pool.specs.Contents.{Contents, Stands, at_cell}
use Rattle.kt_history.specs.Stores.{TakesUpTo}

-- a place that stands is no vacant cell
not_vacant : {A : Type 0} (o : Option A) → IsSome o → o ≡ None → ⊥
not_vacant None is e = cc
not_vacant (Some x) is e = cc

module _ {X Y : Type 0} (owns : X → Contents → ℕ → Type 0) (others : Y → Contents → ℕ → Type 0) (x x' : X) (y : Y) (old new : Contents)
    (placed : (k : ℕ) → others y old k → Stands old k) (apart : (k : ℕ) → owns x old k → ¬ others y old k) (grows : (k : ℕ) → owns x' new k → owns x old k ⊎ (at_cell old k ≡ None)) where
  -- what the other has is none of it
  pub still_apart : (k : ℕ) → owns x' new k → ¬ others y old k
  still_apart k mine his = elim (grows k mine) [
    | inl was ↦ apart k was his
    | inr vacant ↦ not_vacant (at_cell old k) (placed k his) vacant
  ]

  -- so the other's places stay
  pub others_stay : ((k : ℕ) → ¬ owns x' new k → at_cell new k ≡ at_cell old k) → (k : ℕ) → others y old k → at_cell new k ≡ at_cell old k
  others_stay frame k his = frame k (λ mine. still_apart k mine his)

-- cells that are taken twice
pub taken_twice : (m n : ℕ) (old mid new : Contents) → TakesUpTo m old mid → TakesUpTo n mid new → TakesUpTo (m + n) old new
taken_twice m n old mid new a b = record {
  cells = a.cells + b.cells;
  few = omega (arith, a.few, b.few);
  used = omega (arith, a.used, b.used);
  reserved = omega (arith, a.reserved, b.reserved);
  size = b.size ∙ a.size;
}
