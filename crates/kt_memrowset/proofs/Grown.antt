-- Of a row in a MemRowSet there is nothing but its changes.
use Rattle.std.proofs.Common.{◌≡◌, ℕ, List, [], ◌∷◌, map, refl, true, false, ◌&&◌, Bool}
use Rattle.std.specs.Ordering.{is_lt}
use Rattle.std.specs.FinMap.Entries.{is_sorted, below_all}
use Rattle.kt_history.specs.Grown.{AllBare, IsGrown}
use Rattle.kt_history.specs.Rows.{key_cmp}
use Rattle.kt_pool.specs.Contents.{Contents}
use Rattle.kt_tree.specs.Entries.{Entry, AreAbove, IsRising}
use Rattle.kt_tree.specs.Trees as trees
use Rattle.kt_memrowset.specs.declared.store.MemRowSet.{MemRowSet}
use Rattle.kt_memrowset.specs.Stores.{IsStore, store_of, row_at}

both : (a b : Bool) → a ≡ true → b ≡ true → (a && b) ≡ true
both true b e f = f
both false b e f = e

all_below : (pool : Contents) (key : List ℕ) (es : List Entry) → AreAbove key es → below_all key_cmp key (map (row_at pool) es) ≡ true
all_below pool key [] above = refl
all_below pool key (e ∷ es) above = both _ _ ((λ k. is_lt (above.0 k))) (all_below pool key es above.1)

keys_rise : (pool : Contents) (es : List Entry) → IsRising es → is_sorted key_cmp (map (row_at pool) es) ≡ true
keys_rise pool [] rising = refl
keys_rise pool (e ∷ es) rising = both _ _ (all_below pool e.key es rising.0) (keys_rise pool es rising.1)

rows_bare : (pool : Contents) (es : List Entry) → AllBare (map (row_at pool) es)
rows_bare pool [] = tt
rows_bare pool (e ∷ es) = (refl, rows_bare pool es)

pub is_grown : (s : MemRowSet) (pool : Contents) → IsStore s pool → IsGrown (store_of s pool)
is_grown s pool here = record { sorted = keys_rise pool (trees.entries s.tree pool) here.tree.rising; bare = rows_bare pool (trees.entries s.tree pool) }
