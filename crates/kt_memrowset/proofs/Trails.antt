-- The places of a store's changes, from the newest.
use Rattle.std.proofs.Common.{◌≡◌, ◌≢◌, ℕ, zero, suc, ◌<◌, ◌≤◌, inl, inr, true, false, cond, List, [], ◌∷◌, length, drop, refl, sym, ap, subst, ◌∙◌, arith}
use Rattle.std.specs.Prelude.{◌==◌}
use Rattle.std.proofs.lemmas.Bool.{cases_eq}
use Rattle.std.proofs.lemmas.Bool.Decides.{nat_tests}
use Rattle.byteorder.specs.Endian.{little_number}
use Rattle.kt_pool.specs.Contents.{Contents, Stands, at_cell, cells_for}
use Rattle.kt_pool.proofs.Standing.{stands_there}
use Rattle.kt_tree.proofs.Places.{stands_inside, bytes_same, one_other}
use Rattle.kt_memrowset.specs.Links.{nothing, times}
use Rattle.kt_memrowset.specs.Stores.{before_at, Trails, trail_at, cells_at}
use Rattle.kt_memrowset.specs.Writes.{LeadsOn}
use Rattle.kt_memrowset.proofs.Counting.{times_first, few}

pub leads_same : (old new : Contents) (k : ℕ) → at_cell new k ≡ at_cell old k → LeadsOn old new k
leads_same old new k e = record { long = ap length (bytes_same old new k e); before = ap (λ bytes. little_number 4 (drop 8 bytes)) (bytes_same old new k e) }

pub trail_kept : (old new : Contents) (cell : ℕ) (cells : List ℕ) → Trails old cell cells → ((k : ℕ) → 0 < times cells k → LeadsOn old new k) → Trails new cell cells
trail_kept old new cell [] h same = h
trail_kept old new cell (c ∷ cells) h same =
    let f = times_first c cells in
    let here = same c (omega arith) in
    let long = here.long in let was = h.2 in (
      h.0,
      h.1,
      omega arith,
      subst (λ b. Trails new b cells) (sym here.before) (trail_kept old new (before_at old c) cells h.3 (λ k low. same k (omega arith))),
    )

-- places that keep their lengths take as many cells
pub cells_kept : (old new : Contents) (cells : List ℕ) → ((k : ℕ) → 0 < times cells k → LeadsOn old new k) → cells_at new cells ≡ cells_at old cells
cells_kept old new [] same = refl
cells_kept old new (c ∷ cells) same =
    let f = times_first c cells in
    let here = ap cells_for (same c (omega arith)).long in
    let more = cells_kept old new cells (λ k low. same k (omega arith)) in
    omega arith

pub trail_stands : (pool : Contents) (cell : ℕ) (cells : List ℕ) (k : ℕ) → Trails pool cell cells → 0 < times cells k → Stands pool k
trail_stands pool cell [] k h low = absurd (omega arith)
trail_stands pool cell (c ∷ cells) k h low = elim (cases_eq c k) [
  | inl same ↦ let long = h.2 in subst (Stands pool) same (stands_there pool c 0 (omega arith))
  | inr other ↦ let e = one_other c k other in trail_stands pool (before_at pool c) cells k h.3 (omega arith)
]

trail_step : (pool : Contents) (n cell : ℕ) → cell ≢ nothing → trail_at pool (suc n) cell ≡ cell ∷ trail_at pool n (before_at pool cell)
trail_step pool n cell ne =
    let test : (cell == nothing) ≡ false = grind (arith, nat_tests) in
    ap (λ b. cond b [] (cell ∷ trail_at pool n (before_at pool cell))) test

trail_end : (pool : Contents) (n cell : ℕ) → cell ≡ nothing → trail_at pool (suc n) cell ≡ []
trail_end pool n cell e =
    let test : (cell == nothing) ≡ true = grind (arith, nat_tests) in
    ap (λ b. cond b [] (cell ∷ trail_at pool n (before_at pool cell))) test

trail_spelled : (pool : Contents) (n cell : ℕ) (cells : List ℕ) → Trails pool cell cells → length cells ≤ n → trail_at pool n cell ≡ cells
trail_spelled pool zero cell [] h low = refl
trail_spelled pool (suc n) cell [] h low = trail_end pool n cell h
trail_spelled pool zero cell (c ∷ cells) h low = absurd (omega arith)
trail_spelled pool (suc n) cell (c ∷ cells) h low =
    let i = h.1 in let e = h.0 in
    trail_step pool n cell (omega arith) ∙ ap (λ x. x ∷ trail_at pool n (before_at pool x)) e
    ∙ ap (λ (xs : List ℕ). c ∷ xs) (trail_spelled pool n (before_at pool c) cells h.3 (omega arith))

pub trail_is : (pool : Contents) (cell : ℕ) (cells : List ℕ) → Trails pool cell cells → ((k : ℕ) → times cells k ≤ 1) → trail_at pool (length pool.places) cell ≡ cells
trail_is pool cell cells h once =
    trail_spelled pool (length pool.places) cell cells h (few cells (length pool.places) once (λ k low. stands_inside pool k (trail_stands pool cell cells k h low)))
