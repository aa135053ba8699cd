-- Bytes written into a place, and what else stays.
use Rattle.std.specs.Prelude.{◌≡◌, ◌≢◌, ℕ, ◌+◌, List, [], ◌∷◌, ◌++◌, length}
use Rattle.kt_pool.specs.Contents.{Contents, Stands, at_cell, bytes_at, used}
use Rattle.kt_memrowset.specs.Links.{Link, nothing, IsLink, IsMarked, Chains, cells_of, times, steps_of, step_of, newest_kind}
use Rattle.kt_memrowset.specs.Stores.{before_at}

-- only the bytes of the place at this cell have changed
pub record Keeps (old new : Contents) (cell : ℕ) : Type 0 where
  pub long : length (bytes_at new cell) ≡ length (bytes_at old cell)
  pub stands : Stands new cell
  pub others : (k : ℕ) → k ≢ cell → at_cell new k ≡ at_cell old k
  pub size : length new.places ≡ length old.places
  pub reserved : new.reserved ≡ old.reserved
  pub used : used new ≡ used old

-- the place still leads to the one that the store took before it
pub record LeadsOn (old new : Contents) (k : ℕ) : Type 0 where
  pub long : length (bytes_at new k) ≡ length (bytes_at old k)
  pub before : before_at new k ≡ before_at old k

-- a change that stands beside a chain and has no next one
pub record IsFresh (pool : Contents) (links : List Link) (fresh : Link) : Type 0 where
  pub stands : IsLink pool fresh
  pub ends : fresh.head.next ≡ nothing
  pub apart : times (cells_of links) fresh.cell ≡ 0

-- the chain from this cell on goes on with one change more
pub record Extends (old new : Contents) (first : ℕ) (links : List Link) (fresh : Link) : Type 0 where
  pub longer : List Link
  pub stands : Chains new first longer
  pub marked : IsMarked longer
  pub kind : newest_kind longer ≡ fresh.head.kind
  pub steps : steps_of longer ≡ steps_of links ++ step_of fresh ∷ []
  pub cells : (k : ℕ) → times (cells_of longer) k ≡ times (cells_of links) k + times (fresh.cell ∷ []) k
  pub leads : (k : ℕ) → LeadsOn old new k
  pub others : (k : ℕ) → times (cells_of links) k ≡ 0 → at_cell new k ≡ at_cell old k
  pub size : length new.places ≡ length old.places
  pub reserved : new.reserved ≡ old.reserved
  pub used : used new ≡ used old
