-- Places with cells behind them that were never used.
use Rattle.std.proofs.Common.{◌≡◌, ℕ, ◌+◌, ◌-◌, ◌<◌, ◌≤◌, inl, inr, List, ◌++◌, length, get_or, set, sym, ap, ◌∙◌, arith, length-append, append_assoc, None, Option, refl}
use Rattle.std.specs.Prelude.{replicate}
use Rattle.std.specs.List.{sum_by}
use Rattle.std.proofs.lemmas.Bool.{cases_lt}
use Rattle.std.proofs.lemmas.List.{get_or_append_left, get_or-append_right, get_or-replicate, get_or_past, length-replicate, set-append_left, replicate-append-replicate}
use Rattle.std.proofs.lemmas.List.Folds.{sum_by-replicate}
use Rattle.std.proofs.lemmas.List.Sums.{sum_by-append}
use Rattle.kt_pool.specs.Contents.{cells_of}
use Rattle.kt_pool.specs.Sound.{places_in, padded, IsPool}
use Rattle.kt_pool.specs.declared.cells.Cell.{Cell}
use Rattle.kt_pool.proofs.Views.{length-places}

abbrev Places : Type 0
Places = List (Option (List ℕ))

pub length-padded : (places : Places) (n : ℕ) → length (padded places n) ≡ length places + n
length-padded places n = length-append places (replicate n None) ∙ ap (λ k. length places + k) (length-replicate n None)

-- nothing is placed in a cell that was never used
none_behind : (n k : ℕ) → get_or (replicate {A = Option (List ℕ)} n None) k None ≡ None
none_behind n k = elim (cases_lt k n) [
  | inl low ↦ get_or-replicate n k None None low
  | inr past ↦ get_or_past (replicate n None) k None (let l = length-replicate {A = Option (List ℕ)} n None in omega arith)
]

pub get_or-padded : (places : Places) (n k : ℕ) → get_or (padded places n) k None ≡ get_or places k None
get_or-padded places n k = elim (cases_lt k (length places)) [
  | inl low ↦ get_or_append_left places (replicate n None) None k low
  | inr past ↦ get_or-append_right places (replicate n None) (length places) k None refl past ∙ none_behind n (k - length places) ∙ sym (get_or_past places k None past)
]

pub set-padded : (places : Places) (n k : ℕ) (o : Option (List ℕ)) → k < length places → set (padded places n) k o ≡ padded (set places k o) n
set-padded places n k o low = set-append_left places (replicate n None) k o low

pub padded-more : (places : Places) (k n : ℕ) → padded (padded places k) n ≡ padded places (k + n)
padded-more places k n = append_assoc places (replicate k None) (replicate n None) ∙ ap (λ (l : Places). places ++ l) (replicate-append-replicate k n None)

pub sum-padded : (places : Places) (n : ℕ) → sum_by cells_of (padded places n) ≡ sum_by cells_of places
sum-padded places n = let a = sum_by-append cells_of places (replicate n None) in let b = sum_by-replicate cells_of n None in omega arith

-- ---- a pool, seen by its callers

module _ (cells : List Cell) (first spare size capacity reserved : ℕ) (p : IsPool cells first spare size capacity reserved) where
  pub size_is : size ≡ length (padded (places_in cells) (size - length cells))
  size_is = let u = p.used in let l = length-places cells in let m = length-padded (places_in cells) (size - length cells) in omega arith

  pub free_and_used : spare + (size - length cells) + sum_by cells_of (padded (places_in cells) (size - length cells)) ≡ length (padded (places_in cells) (size - length cells))
  free_and_used = let u = p.used in let c = p.sound.counted in let z = size_is in let m = sum-padded (places_in cells) (size - length cells) in omega arith

  pub free_is : spare + (size - length cells) ≡ length (padded (places_in cells) (size - length cells)) - sum_by cells_of (padded (places_in cells) (size - length cells))
  free_is = let f = free_and_used in omega arith

-- cells that are made show what was shown before
pub made_view : (old new : Places) (size a b : ℕ) → new ≡ padded old (b - a) → a ≤ b → b ≤ size → padded new (size - b) ≡ padded old (size - a)
made_view old new size a b e le fits = ap (λ p. padded p (size - b)) e ∙ padded-more old (b - a) (size - b) ∙ ap (padded old) (omega arith)
