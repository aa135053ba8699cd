-- What is still to be applied of the writes that fly, and the past without it.
use Rattle.std.specs.Prelude.{ℕ, Bool, not, List, [], ◌∷◌, ◌==◌, ◌&&◌, drop}
use Rattle.std.specs.List.{filter, list_any}
use Rattle.std.specs.Ordering.{eq_by_cmp}
use Rattle.kt_history.specs.declared.operation.RowOp.{RowOp}
use Rattle.kt_history.specs.Rows.{Changes, key_cmp}
use Rattle.kt_history.specs.History.{Past, PastWrite}
use Rattle.kt_histlaws.specs.Histories.{Shows}
use Rattle.kt_history.specs.Stores.{Store}

-- a flying write, of which the first rows are applied
pub record Aloft : Type 0 where
  pub s : ℕ
  pub i : ℕ
  pub ts : ℕ
  pub ops : List RowOp
  pub applied : ℕ

-- some operation is on the key
abbrev pub has_key : List ℕ → List RowOp → Bool
has_key q ops = list_any (λ op. eq_by_cmp key_cmp q op.key) ops

-- the change of q at ts is still to be applied
abbrev pub is_pending : List Aloft → List ℕ → ℕ → Bool
is_pending aloft q ts = list_any (λ w. (w.ts == ts) && has_key q (drop w.applied w.ops)) aloft

-- a write with these changes, unless it changes nothing
abbrev pub keep_write : ℕ → Changes → List PastWrite → List PastWrite
keep_write ts [] rest = rest
keep_write ts (c ∷ changes) rest = record { ts = ts; changes = c ∷ changes } ∷ rest

abbrev pub done_writes : List Aloft → List PastWrite → List PastWrite
done_writes aloft [] = []
done_writes aloft (w ∷ writes) = keep_write w.ts (filter (λ c. not (is_pending aloft c.0 w.ts)) w.changes) (done_writes aloft writes)

-- the past without what is still to be applied
abbrev pub done : List Aloft → Past → Past
done aloft past = record past { writes = done_writes aloft past.writes }

-- the stores show what is done of the past
abbrev pub Same : List Store → List Aloft → Past → ℕ → Type 0
Same stores aloft past a = Shows a stores (done aloft past)
