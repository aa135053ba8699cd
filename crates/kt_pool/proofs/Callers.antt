-- What callers of a pool know of its places after a call.
use Rattle.std.proofs.Common.{◌≡◌, ◌≢◌, ℕ, ◌<◌, List, [], length, sym, ap, ◌∙◌, Some, None, Option}
use Rattle.std.specs.Prelude.{is_some}
use Rattle.std.specs.Option.{unwrap_or}
use Rattle.std.proofs.lemmas.Bool.{false≢true}
use Rattle.std.proofs.lemmas.List.{get_or-set_same, get_or-set_other, length-set}
use Rattle.kt_pool.specs.Contents.{Contents, at_cell, Stands, bytes_at, with_place}

module _ (old new : Contents) (cell : ℕ) (o : Option (List ℕ)) (r : ℕ) (e : new ≡ with_place old cell o r) where
  -- what is at the cell of the call
  pub at_same : cell < length old.places → at_cell new cell ≡ o
  at_same inside = ap (λ p. at_cell p cell) e ∙ get_or-set_same old.places cell o None inside

  -- what is at another cell
  pub at_other : (k : ℕ) → k ≢ cell → at_cell new k ≡ at_cell old k
  at_other k ne = ap (λ p. at_cell p k) e ∙ get_or-set_other old.places cell k o None ne

  -- the pool has as many cells, and so many are reserved
  pub size_same : length new.places ≡ length old.places
  size_same = ap (λ (p : Contents). length p.places) e ∙ length-set old.places cell o

  pub reserved_after : new.reserved ≡ r
  reserved_after = ap (λ (p : Contents). p.reserved) e

  pub stands_other : (k : ℕ) → k ≢ cell → Stands old k → Stands new k
  stands_other k ne s = ap is_some (at_other k ne) ∙ s

  pub bytes_other : (k : ℕ) → k ≢ cell → bytes_at new k ≡ bytes_at old k
  bytes_other k ne = ap (λ o. unwrap_or o []) (at_other k ne)

-- a place that stands is not where another is made
pub apart : (pool : Contents) (k cell : ℕ) → Stands pool k → at_cell pool cell ≡ None → k ≢ cell
apart pool k cell s none e = false≢true (sym (ap is_some (ap (at_cell pool) e ∙ none)) ∙ s)

pub stands_placed : (old new : Contents) (cell : ℕ) (bytes : List ℕ) (r : ℕ) → new ≡ with_place old cell (Some bytes) r → cell < length old.places → Stands new cell
stands_placed old new cell bytes r e inside = ap is_some (at_same old new cell (Some bytes) r e inside)

pub bytes_placed : (old new : Contents) (cell : ℕ) (bytes : List ℕ) (r : ℕ) → new ≡ with_place old cell (Some bytes) r → cell < length old.places → bytes_at new cell ≡ bytes
bytes_placed old new cell bytes r e inside = ap (λ o. unwrap_or o []) (at_same old new cell (Some bytes) r e inside)
