-- What stores keep to.
use Rattle.std.specs.Prelude.{◌≡◌, ◌≢◌, ◌↔◌, ◌≤◌, ℕ, List, [], ◌∷◌, ◌++◌}
use Rattle.kt_history.specs.declared.changes.Delta.{Delta}
use Rattle.kt_history.specs.declared.operation.RowOp.{RowOp}
use Rattle.kt_history.specs.Stores.{share, Under}
use Rattle.kt_pool.specs.Contents.{Contents, at_cell}
use Rattle.kt_dms.specs.declared.store.DeltaMem.{DeltaMem}
use Rattle.kt_dms.specs.Stores.{IsStore, deltas_of, AreSorted, steps_for, with_delta, Owns, cells_had, cells_taken}

-- the store stands at both, with the same changes in the same places and as many cells
pub record StaysSo (s : DeltaMem) (old new : Contents) : Type 0 where
  pub stands : IsStore s new
  pub same : deltas_of s new ≡ deltas_of s old
  pub owns : (k : ℕ) → Owns s new k ↔ Owns s old k
  pub had : cells_had s new ≡ cells_had s old

-- a store stands as it was where no place of its own has changed
abbrev pub stores_stay : Type 0
stores_stay = (s : DeltaMem) (old new : Contents) → IsStore s old → ((k : ℕ) → Owns s old k → at_cell new k ≡ at_cell old k) → StaysSo s old new

-- its changes stand by ordinal, then timestamp, and no two of a row at one timestamp
abbrev pub changes_are_sorted : Type 0
changes_are_sorted = (s : DeltaMem) (pool : Contents) → IsStore s pool → AreSorted (deltas_of s pool)

-- a change takes at most half of what a write of the operation needs
abbrev pub shares_suffice : Type 0
shares_suffice = (op : RowOp) → cells_taken op ≤ share op

-- where all changes of its row lie below it, a change that joins comes behind them, and other rows have theirs as before
abbrev pub changes_join_their_rows : Type 0
changes_join_their_rows = (d : Delta) (deltas : List Delta) → AreSorted deltas → Under d.ts (steps_for d.ordinal deltas)
    → (steps_for d.ordinal (with_delta d deltas) ≡ steps_for d.ordinal deltas ++ (d.ts, d.change) ∷ []) × ((n : ℕ) → d.ordinal ≢ n → steps_for n (with_delta d deltas) ≡ steps_for n deltas)
