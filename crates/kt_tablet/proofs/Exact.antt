-- Where no store has a row, no cell is used.
use Rattle.std.proofs.Common.{◌≡◌, ◌-◌, ℕ, zero, suc, List, [], ◌∷◌, None, refl, ap, ◌∙◌, arith, map}
use Rattle.std.specs.Prelude.{replicate}
use Rattle.std.specs.List.{sum_by}
use Rattle.std.proofs.lemmas.List.Sums.{sum_by-cons}
use Rattle.kt_history.specs.Rows.{Row}
use Rattle.kt_history.specs.Stores.{Store}
use Rattle.kt_pool.specs.Contents.{Contents, used, cells_of}
use Rattle.kt_stores.specs.Shelf.{Shelved, StoresView, AreExact, cells_in}
use Rattle.kt_tablet.specs.Filling.{filled, as_told, all_told, told_stores}
use Rattle.kt_tablet.specs.Views.{AreVacant}

-- a pool in which nothing is placed
pub none_used : (pool : Contents) (n : ℕ) → pool.places ≡ replicate n None → used pool ≡ 0
none_used pool n fresh = ap (sum_by cells_of) fresh ∙ all_none n
  where
    all_none : (n : ℕ) → sum_by cells_of (replicate n None) ≡ 0
    all_none zero = refl
    all_none (suc n) = let e = sum_by-cons cells_of None (replicate n None) in let h = all_none n in omega (arith, e, h)

pub filled_none : (fill : Row) (store : Store) → filled fill store ≡ [] → store ≡ []
filled_none fill [] none = none
filled_none fill (r ∷ store) none = cc

told_none : (fill : Row) (memory : ℕ) (store : Store) → as_told memory fill store ≡ [] → store ≡ []
told_none fill zero store none = none
told_none fill (suc memory) store none = filled_none fill store none

vacant_shelf : (fill : Row) (memory : ℕ) (shelf : List Shelved) → AreExact shelf → AreVacant (all_told fill memory (map (λ (s : Shelved). s.store) shelf)) → cells_in shelf ≡ 0
vacant_shelf fill memory [] exact none = refl
vacant_shelf fill memory (s ∷ shelf) exact none =
    let e = sum_by-cons (λ (s : Shelved). s.cells) s shelf in
    let here = exact.0 (told_none fill memory s.store none.0) in
    let rest = vacant_shelf fill (memory - 1) shelf exact.1 none.1 in
    omega (arith, e, here, rest)

pub vacant_stores : (fill : Row) (view : StoresView) → used view.pool ≡ cells_in view.shelf → AreExact view.shelf → AreVacant (told_stores fill view) → used view.pool ≡ 0
vacant_stores fill view all exact none = all ∙ vacant_shelf fill (suc view.frozen) view.shelf exact none
