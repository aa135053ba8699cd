-- What was read of a store tells the rows that the store keeps.
use Rattle.std.specs.Prelude.{◌≡◌, ◌≤◌, ℕ, List, Option}
use Rattle.kt_history.specs.Rows.{Row}
use Rattle.kt_history.specs.Stores.{Store, row_of, hist_in}

-- at each time up to this one it tells the row of each key that the store has then
abbrev pub TellsUpTo : {V : Type 0} → (V → List ℕ → ℕ → Option Row) → ℕ → Store → V → Type 0
TellsUpTo row upto store v = (key : List ℕ) (u : ℕ) → u ≤ upto → row v key u ≡ row_of u (hist_in key store)
