-- What a maintenance policy is told of the stores.
use Rattle.std.proofs.Common.{◌≡◌, ◌<◌, ◌+◌, ◌-◌, ◌^◌, ℕ, zero, suc, false, List, [], ◌∷◌, ◌++◌, map, take, length, get_or, min, refl, sym, ap, subst, ◌∙◌, inl, inr, arith}
use Rattle.std.specs.Prelude.{drop}
use Rattle.std.specs.List.{sum_by}
use Rattle.std.proofs.lemmas.List.{take_more}
use Rattle.std.proofs.lemmas.List.Sums.{sum_by-cons, sum_by_more}
use Rattle.kt_diskrowset.specs.declared.rowset.DiskRowSet.{DiskRowSet}
use Rattle.kt_diskrowset.specs.Rowset.{held_of, store_of}
use Rattle.kt_history.specs.Beside.{AllStand}
use Rattle.kt_history.specs.Stores.{Store}
use Rattle.kt_memrowset.specs.declared.store.MemRowSet.{MemRowSet}
use Rattle.kt_memrowset.specs.Stores as mem
use Rattle.kt_pick.specs.declared.stats.RowSetStat.{RowSetStat}
use Rattle.kt_pool.specs.Contents.{Contents}
use Rattle.kt_stores.specs.Shelf.{Shelved}
use Rattle.kt_stores.specs.Parts.{kept, read_by, shelf_of}
use Rattle.kt_stores.specs.Stats.{TellsStat, TellStats}

-- each of these tells so
abbrev pub AllTell : Contents → List DiskRowSet → List RowSetStat → Type 0
AllTell pool [] [] = Unit {0}
AllTell pool (r ∷ rows) (s ∷ stats) = TellsStat (held_of r) (store_of r pool) s × AllTell pool rows stats
AllTell _ _ _ = ⊥

module _ (pool : Contents) where
  tell_push : (rows : List DiskRowSet) (stats : List RowSetStat) (r : DiskRowSet) (s : RowSetStat) → AllTell pool rows stats → TellsStat (held_of r) (store_of r pool) s → AllTell pool (rows ++ r ∷ []) (stats ++ s ∷ [])
  tell_push [] [] r s all one = (one, tt)
  tell_push [] (x ∷ stats) r s all one = absurd all
  tell_push (y ∷ rows) [] r s all one = absurd all
  tell_push (y ∷ rows) (x ∷ stats) r s all one = (all.0, tell_push rows stats r s all.1 one)

  pub tell_more : (rows : List DiskRowSet) (stats : List RowSetStat) (k : ℕ) (r : DiskRowSet) (s : RowSetStat) → k < length rows → r ≡ get_or rows k r → AllTell pool (take k rows) stats → TellsStat (held_of r) (store_of r pool) s
      → AllTell pool (take (k + 1) rows) (stats ++ s ∷ [])
  tell_more rows stats k r s lt is all one =
      subst (λ (rs : List DiskRowSet). AllTell pool rs (stats ++ s ∷ [])) (ap (λ (x : DiskRowSet). take k rows ++ x ∷ []) is ∙ sym (take_more rows k r lt)) (tell_push (take k rows) stats r s all one)

  pub tell_all : (rows : List DiskRowSet) (stats : List RowSetStat) → AllTell pool rows stats → TellStats (map held_of rows) (map (λ (r : DiskRowSet). store_of r pool) rows) stats
  tell_all [] [] all = tt
  tell_all [] (x ∷ stats) all = absurd all
  tell_all (r ∷ rows) [] all = absurd all
  tell_all (r ∷ rows) (s ∷ stats) all = (all.0, tell_all rows stats all.1)

  -- ---- what stands behind, and the frozen ones

  module _ (read : DiskRowSet → Contents → Shelved) where
    behind : (frozen : List MemRowSet) (rows : List DiskRowSet) → drop (length frozen) (map (λ (s : Shelved). s.store) (shelf_of (read_by read) pool (map inl frozen ++ map inr rows))) ≡ map (λ (r : DiskRowSet). (read r pool).store) rows
    behind [] [] = refl
    behind [] (r ∷ rows) = ap (λ l. (read r pool).store ∷ l) (behind [] rows)
    behind (f ∷ frozen) rows = behind frozen rows

    pub rowsets_behind : (active : MemRowSet) (frozen : List MemRowSet) (rows : List DiskRowSet) → drop (suc (length frozen)) (map (λ (s : Shelved). s.store) (shelf_of (read_by read) pool (kept active frozen rows))) ≡ map (λ (r : DiskRowSet). (read r pool).store) rows
    rowsets_behind active frozen rows = behind frozen rows

    pub frozen_before : (frozen : List MemRowSet) (rows : List DiskRowSet)
        → sum_by length (take (length frozen) (map (λ (s : Shelved). s.store) (shelf_of (read_by read) pool (map inl frozen ++ map inr rows)))) ≡ sum_by (λ (s : MemRowSet). length (mem.store_of s pool)) frozen
    frozen_before [] rows = refl
    frozen_before (f ∷ frozen) rows =
        let rest = map (λ (s : Shelved). s.store) (shelf_of (read_by read) pool (map inl frozen ++ map inr rows)) in
        sum_by-cons {X = Store} length (mem.store_of f pool) (take (length frozen) rest) ∙ ap (λ n. length (mem.store_of f pool) + n) (frozen_before frozen rows)
        ∙ sym (sum_by-cons (λ (s : MemRowSet). length (mem.store_of s pool)) f frozen)

-- ---- one store more

-- no store, which a place past the end is read as
abbrev pub no_mem : MemRowSet
no_mem = record { id = 0; frozen = false; tree = record { root = 0; count = 0 }; newest = 0 }

pub mem_stands : (pool : Contents) (stores : List MemRowSet) (i : ℕ) → AllStand mem.IsStore pool stores → i < length stores → mem.IsStore (get_or stores i no_mem) pool
mem_stands pool [] i all low = absurd (omega arith)
mem_stands pool (s ∷ stores) zero all low = all.0
mem_stands pool (s ∷ stores) (suc i) all low = mem_stands pool stores i all.1 (omega arith)

pub rows_more : (pool : Contents) (stores : List MemRowSet) (i rows one : ℕ) → i < length stores → rows ≡ min (sum_by (λ (s : MemRowSet). length (mem.store_of s pool)) (take i stores)) (2 ^ 32 - 1)
    → one ≡ length (mem.store_of (get_or stores i no_mem) pool) → min (rows + one) (2 ^ 32 - 1) ≡ min (sum_by (λ (s : MemRowSet). length (mem.store_of s pool)) (take (i + 1) stores)) (2 ^ 32 - 1)
rows_more pool stores i rows one low so own = let more = sum_by_more (λ (s : MemRowSet). length (mem.store_of s pool)) stores i no_mem low in omega (arith, so, own, more)
