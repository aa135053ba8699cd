-- The changes in memory of a disk rowset, in its DeltaMemStores.
use Rattle.std.specs.Prelude.{ℕ, ◌+◌, ◌⊎◌, List, [], ◌∷◌, ◌++◌, map}
use Rattle.std.specs.List.{AllByRecursion}
use Rattle.kt_history.specs.declared.changes.Delta.{Delta}
use Rattle.kt_history.specs.Stores.{Steps}
use Rattle.kt_pool.specs.Contents.{Contents}
use Rattle.kt_dms.specs.Stores.{IsStore, Owns, cells_had, number_of, deltas_of, steps_for}
use Rattle.kt_dms.specs.declared.store.DeltaMem.{DeltaMem}

-- each of them stands in the pool
abbrev pub AllStand : Contents → List DeltaMem → Type 0
AllStand pool mems = AllByRecursion (λ (s : DeltaMem). IsStore s pool) mems

-- the changes of one row, those of the first store first
abbrev pub steps_in_mems : Contents → ℕ → List DeltaMem → Steps
steps_in_mems pool n [] = []
steps_in_mems pool n (s ∷ mems) = steps_for n (deltas_of s pool) ++ steps_in_mems pool n mems

-- what each of them tells: its number, and its changes
abbrev pub told_by : Contents → List DeltaMem → List (ℕ × List Delta)
told_by pool mems = map (λ (s : DeltaMem). (number_of s, deltas_of s pool)) mems

-- one of them owns the cell
abbrev pub OwnedBy : Contents → List DeltaMem → ℕ → Type 0
OwnedBy pool [] k = ⊥
OwnedBy pool (s ∷ mems) k = Owns s pool k ⊎ OwnedBy pool mems k

-- no cell is owned by two
abbrev pub AreApart : Contents → List DeltaMem → Type 0
AreApart pool [] = Unit {0}
AreApart pool (s ∷ mems) = ((k : ℕ) → Owns s pool k → ¬ OwnedBy pool mems k) × AreApart pool mems

-- the cells of the pool that they have
abbrev pub cells_in : Contents → List DeltaMem → ℕ
cells_in pool [] = 0
cells_in pool (s ∷ mems) = cells_had s pool + cells_in pool mems
