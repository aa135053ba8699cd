-- How many rows stores in memory have, as they are told.
use Rattle.std.proofs.Common.{◌≡◌, ◌+◌, ◌-◌, ℕ, zero, suc, List, [], ◌∷◌, map, take, drop, length, refl, sym, ap, ◌∙◌}
use Rattle.std.specs.List.{sum_by}
use Rattle.std.proofs.lemmas.List.{length-map}
use Rattle.std.proofs.lemmas.List.Sums.{sum_by-cons}
use Rattle.kt_history.specs.Rows.{Row}
use Rattle.kt_history.specs.Stores.{Store, Hist}
use Rattle.kt_stores.specs.Shelf.{Shelved}
use Rattle.kt_stores.specs.Shelf as shelf
use Rattle.kt_tablet.specs.Filling.{filled, filled_hist, all_told}
use Rattle.kt_tablet.specs.Jobs.{rows_in_first}
use Rattle.kt_tablet.proofs.Frozen.{pred}

as_many : (fill : Row) (store : Store) → length (filled fill store) ≡ length store
as_many fill store = length-map store (λ (r : List ℕ × Hist). (r.0, filled_hist fill r.1))

pub first_told : (fill : Row) (memory : ℕ) (stores : List Shelved) → length (shelf.rows_in_first stores) ≡ length (rows_in_first (all_told fill (suc memory) (map (λ (s : Shelved). s.store) stores)))
first_told fill memory [] = refl
first_told fill memory (s ∷ stores) = sym (as_many fill s.store)

front_told : (fill : Row) (memory : ℕ) (stores : List Store) → sum_by length (take memory (all_told fill memory stores)) ≡ sum_by length (take memory stores)
front_told fill zero stores = refl
front_told fill (suc memory) [] = refl
front_told fill (suc memory) (s ∷ stores) =
    ap (λ m. sum_by length (filled fill s ∷ take memory (all_told fill m stores))) (pred memory)
    ∙ sum_by-cons {X = Store} length (filled fill s) (take memory (all_told fill memory stores))
    ∙ ap (λ n. n + sum_by length (take memory (all_told fill memory stores))) (as_many fill s)
    ∙ ap (λ n. length s + n) (front_told fill memory stores)
    ∙ sym (sum_by-cons {X = Store} length s (take memory stores))

pub frozen_told : (fill : Row) (memory : ℕ) (stores : List Store) → sum_by length (take memory (drop 1 stores)) ≡ sum_by length (take memory (drop 1 (all_told fill (suc memory) stores)))
frozen_told fill memory [] = refl
frozen_told fill memory (s ∷ stores) = sym (ap (λ m. sum_by length (take memory (all_told fill m stores))) (pred memory) ∙ front_told fill memory stores)
