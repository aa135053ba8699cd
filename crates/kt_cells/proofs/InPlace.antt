-- Cells that are read where they lie are those of the list.
use Rattle.std.proofs.Common.{◌≡◌, ℕ, zero, suc, Bool, true, false, List, [], ◌∷◌, ◌++◌, length, Result, Ok, Err, if◌then◌else◌, sym, ap, ◌∙◌, append_assoc}
use Rattle.std.proofs.lemmas.List.{append-nil}
use Rattle.std.specs.Int.{w16}
use Rattle.kt_base.specs.declared.cell.Cell.{Cell}
use Rattle.kt_bytes.specs.Reading.{◌>>=◌, number_at, checked_at, many_at}
use Rattle.kt_bytes.proofs.Numbers.{bind_ok}
use Rattle.kt_cells.specs.Reading.{cell_at, is_next_id, listed_cell_at, cells_at, next_cell_at, or_none, cells_from, cells_behind}

passed : {A : Type 0} (t : Bool) (n m : A) (left : ℕ) → (if t then Ok n else Err left) ≡ Ok m → n ≡ m
passed true n m left e = cc
passed false n m left e = absurd cc

with_cell : ℕ × List ℕ → Result ((ℕ × Cell) × List ℕ) ℕ
with_cell id = cell_at id.1 >>= λ c. Ok ((id.0, c.0), c.1)

-- a cell of a list is read whatever stands before it
next_is_listed : (count : ℕ) (front : List (ℕ × Cell)) (bytes : List ℕ) (x : (ℕ × Cell) × List ℕ) → listed_cell_at count front bytes ≡ Ok x → next_cell_at bytes ≡ Ok x
unfolding listed_cell_at next_cell_at with_cell
next_is_listed count front bytes x e =
    let id = bind_ok (checked_at w16 (is_next_id count front) bytes) with_cell x e in
    let n = bind_ok (number_at w16 bytes) (λ m. if is_next_id count front m.0 then Ok m else Err (length bytes)) id.0 id.1 in
    let same : n.0 ≡ id.0 = passed (is_next_id count front n.0.0) n.0 id.0 (length bytes) n.2 in
    ap (λ (r : Result (ℕ × List ℕ) ℕ). r >>= with_cell) (n.1 ∙ ap Ok same) ∙ id.2

-- a list that is read whole is read in place
pub whole : (count n : ℕ) (front : List (ℕ × Cell)) (bytes : List ℕ) (y : List (ℕ × Cell) × List ℕ) → many_at (listed_cell_at count) n front bytes ≡ Ok y → y.0 ≡ front ++ cells_from n bytes
unfolding many_at cells_from
whole count zero front bytes y e = let is : (front, bytes) ≡ y = cc in sym (ap (λ (p : List (ℕ × Cell) × List ℕ). p.0) is) ∙ sym (append-nil front)
whole count (suc n) front bytes y e =
    let x = bind_ok (listed_cell_at count front bytes) (λ x. many_at (listed_cell_at count) n (front ++ x.0 ∷ []) x.1) y e in
    whole count n (front ++ x.0.0 ∷ []) x.0.1 y x.2 ∙ append_assoc front (x.0.0 ∷ []) (cells_from n x.0.1)
    ∙ ap (λ (cells : List (ℕ × Cell)). front ++ cells) (sym (ap (or_none (λ (z : (ℕ × Cell) × List ℕ). z.0 ∷ cells_from n z.1)) (next_is_listed count front bytes x.0 x.1)))

-- and so is one behind its count
pub whole_behind : (bytes : List ℕ) (cells : List (ℕ × Cell)) (rest : List ℕ) → cells_at bytes ≡ Ok (cells, rest) → cells ≡ cells_behind bytes
unfolding cells_at
whole_behind bytes cells rest e =
    let n = bind_ok (number_at w16 bytes) (λ m. many_at (listed_cell_at m.0) m.0 [] m.1) (cells, rest) e in
    whole n.0.0 n.0.0 [] n.0.1 (cells, rest) n.2 ∙ sym (ap (or_none (λ (m : ℕ × List ℕ). cells_from m.0 m.1)) n.1)
