-- One cell that is left is of the column that its first bytes spell.
use Rattle.std.proofs.Common.{◌≡◌, ℕ, List, [], ◌∷◌, Result, Ok, Err, Some, sym, ap}
use Rattle.std.specs.List.{AllByRecursion}
use Rattle.std.specs.Int.{w16}
use Rattle.kt_base.specs.declared.cell.Cell.{Cell}
use Rattle.kt_bytes.specs.Reading.{◌>>=◌, number_at}
use Rattle.kt_cells.specs.Reading.{if_read, cell_at, next_cell_at, or_none, cells_from}

one_cell : (id : ℕ) (n : ℕ × List ℕ) (r : Result (Cell × List ℕ) ℕ) → n.0 ≡ id → AllByRecursion (λ (c : ℕ × Cell). c.0 ≡ id) (or_none (λ (x : (ℕ × Cell) × List ℕ). x.0 ∷ []) (r >>= λ c. Ok ((n.0, c.0), c.1)))
one_cell id n (Ok c) same = (same, tt)
one_cell id n (Err left) same = tt

one_read : (id : ℕ) (rest : List ℕ) (r : Result (ℕ × List ℕ) ℕ) → Some (id, rest) ≡ if_read r → AllByRecursion (λ (c : ℕ × Cell). c.0 ≡ id) (or_none (λ (x : (ℕ × Cell) × List ℕ). x.0 ∷ []) (r >>= λ n. cell_at n.1 >>= λ c. Ok ((n.0, c.0), c.1)))
one_read id rest (Ok n) told = let same : (id, rest) ≡ n = cc in one_cell id n (cell_at n.1) (sym (ap (λ (p : ℕ × List ℕ). p.0) same))
one_read id rest (Err left) told = absurd cc

pub only_one : (left id : ℕ) (bytes rest : List ℕ) → left ≡ 1 → Some (id, rest) ≡ if_read (number_at w16 bytes) → AllByRecursion (λ (c : ℕ × Cell). c.0 ≡ id) (cells_from left bytes)
unfolding cells_from next_cell_at
only_one left id bytes rest one told = rw one (one_read id rest (number_at w16 bytes) told)
