-- Stores beside each other in a pool.
use Rattle.std.specs.Prelude.{ℕ, List, [], ◌∷◌, ◌⊎◌}
use Rattle.kt_pool.specs.Contents.{Contents}

-- each stands
abbrev pub AllStand : {X : Type 0} → (X → Contents → Type 0) → Contents → List X → Type 0
AllStand stands pool [] = Unit {0}
AllStand stands pool (x ∷ xs) = stands x pool × AllStand stands pool xs

-- one of them owns the cell
abbrev pub OwnedBy : {X : Type 0} → (X → Contents → ℕ → Type 0) → Contents → List X → ℕ → Type 0
OwnedBy owns pool [] k = ⊥
OwnedBy owns pool (x ∷ xs) k = owns x pool k ⊎ OwnedBy owns pool xs k

-- no cell is owned by two
abbrev pub AreApart : {X : Type 0} → (X → Contents → ℕ → Type 0) → Contents → List X → Type 0
AreApart owns pool [] = Unit {0}
AreApart owns pool (x ∷ xs) = ((k : ℕ) → owns x pool k → ¬ OwnedBy owns pool xs k) × AreApart owns pool xs
