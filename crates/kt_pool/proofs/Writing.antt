-- How far a write along a chain has come.
use Rattle.std.proofs.Common.{◌≡◌, ℕ, zero, suc, ◌+◌, ◌-◌, ◌*◌, ◌/◌, ◌%◌, ◌<◌, ◌≤◌, ◌≢◌, ◌⊎◌, inl, inr, true, false, cond, ◌&&◌, List, length, take, drop, get_or, refl, sym, ap, ◌∙◌, arith, length-take-le}
use Rattle.std.specs.Prelude.{nat_le, nat_lt}
use Rattle.std.proofs.lemmas.Bool.{cases_lt, cases_eq}
use Rattle.std.proofs.lemmas.Bool.Decides.{nat_tests}
use Rattle.std.proofs.lemmas.List.{get_or-take, get_or-drop, drop-drop, take_all}
use Rattle.kt_pool.specs.Contents.{cells_for}
use Rattle.kt_pool.specs.Cells.{KeepsChains, IsChain, walk, next_at, load_at, byte_at, written}
use Rattle.kt_pool.specs.declared.cells.Cell.{Cell}

-- the place in the chain at which `rest` goes on
abbrev pub pos : ℕ → List ℕ → List ℕ → ℕ
pos at bytes rest = at + (length bytes - length rest)

-- all of `bytes` but `rest` is written, and the rest goes to `cell` from `skip` on
pub record HasWritten (old now : List Cell) (first at : ℕ) (bytes rest : List ℕ) (cell skip : ℕ) : Type 0 where
  pub left : length rest ≤ length bytes
  pub goes_on : rest ≡ drop (length bytes - length rest) bytes
  pub here : cell ≡ walk old first (pos at bytes rest / 56)
  pub offset : skip ≡ pos at bytes rest % 56
  pub within : pos at bytes rest / 56 < cells_for (at + length bytes)
  pub kept : KeepsChains old now
  pub done : (m i : ℕ) → IsChain old first m → i < 56 * m → byte_at now first i ≡ written at (take (length bytes - length rest) bytes) (byte_at old first) i
  pub frame : (k : ℕ) → ((j : ℕ) → j < cells_for (at + length bytes) → walk old first j ≢ k) → load_at now k ≡ load_at old k

-- chains stay where only loads change
pub walk_kept : (old now : List Cell) → ((k : ℕ) → next_at now k ≡ next_at old k) → (first n : ℕ) → walk now first n ≡ walk old first n
walk_kept old now h first zero = refl
walk_kept old now h first (suc n) = ap (next_at now) (walk_kept old now h first n) ∙ h (walk old first n)

-- a byte that the write reaches, and one that it does not
pub written_in : (at : ℕ) (bytes : List ℕ) (old : ℕ → ℕ) (i : ℕ) → at ≤ i → i < at + length bytes → written at bytes old i ≡ get_or bytes (i - at) 0
written_in at bytes old i low high = let a : nat_le at i ≡ true = grind (arith, nat_tests) in let b : nat_lt i (at + length bytes) ≡ true = grind (arith, nat_tests) in rw (a, b) refl

pub written_out : (at : ℕ) (bytes : List ℕ) (old : ℕ → ℕ) (i : ℕ) → (i < at) ⊎ (at + length bytes ≤ i) → written at bytes old i ≡ old i
written_out at bytes old i (inl low) = let a : nat_le at i ≡ false = grind (arith, nat_tests) in rw a refl
written_out at bytes old i (inr high) = let b : nat_lt i (at + length bytes) ≡ false = grind (arith, nat_tests) in rw b (elim (nat_le at i) as (λ t. cond (t && false) (get_or bytes (i - at) 0) (old i) ≡ old i) [ true ↦ refl | false ↦ refl ])

-- two chains from one cell meet at the same step only
pub apart_at : (cells : List Cell) (first m n a b : ℕ) → IsChain cells first m → IsChain cells first n → a < m → b < n → walk cells first a ≡ walk cells first b → a ≡ b
apart_at cells first m n a b p q am bn e = elim (cases_lt m n) [
  | inl less ↦ q.apart a b (omega arith) bn e
  | inr more ↦ p.apart a b am (omega arith) e
]

-- a byte of the piece is one of the bytes
piece_byte : (d : ℕ) (bytes rest piece : List ℕ) → rest ≡ drop d bytes → piece ≡ take (length piece) rest → (j i : ℕ) → j < length piece → i ≡ d + j → get_or bytes i 0 ≡ get_or piece j 0
piece_byte d bytes rest piece isrest ispiece j i low e = ap (λ n. get_or bytes n 0) e ∙ sym (ap (λ xs. get_or xs j 0) ispiece ∙ get_or-take (length piece) rest j 0 low ∙ ap (λ xs. get_or xs j 0) isrest ∙ get_or-drop d bytes j 0)

-- one more piece of a write, as bytes
pub wrote_more : (at d : ℕ) (bytes rest piece : List ℕ) (old : ℕ → ℕ) (i skip b : ℕ) → rest ≡ drop d bytes → piece ≡ take (length piece) rest → d + length piece ≤ length bytes → b + (at + d) ≡ i + skip → written skip piece (λ _. written at (take d bytes) old i) b ≡ written at (take (d + length piece) bytes) old i
wrote_more at d bytes rest piece old i skip b isrest ispiece fits same =
    let k = length piece in
    let ld : length (take d bytes) ≡ d = length-take-le d bytes (omega arith) in
    let lk : length (take (d + k) bytes) ≡ d + k = length-take-le (d + k) bytes fits in
    elim (cases_lt b skip) [
      | inl before ↦ written_out skip piece (λ _. written at (take d bytes) old i) b (inl before) ∙ elim (cases_lt i at) [
        | inl low ↦ written_out at (take d bytes) old i (inl low) ∙ sym (written_out at (take (d + k) bytes) old i (inl low))
        | inr high ↦ written_in at (take d bytes) old i high (omega arith) ∙ get_or-take d bytes (i - at) 0 (omega arith) ∙ sym (written_in at (take (d + k) bytes) old i high (omega arith) ∙ get_or-take (d + k) bytes (i - at) 0 (omega arith))
      ]
      | inr after ↦ elim (cases_lt b (skip + k)) [
        | inl within ↦ written_in skip piece (λ _. written at (take d bytes) old i) b after within ∙ sym (written_in at (take (d + k) bytes) old i (omega arith) (omega arith) ∙ get_or-take (d + k) bytes (i - at) 0 (omega arith) ∙ piece_byte d bytes rest piece isrest ispiece (b - skip) (i - at) (omega arith) (omega arith))
        | inr past ↦ written_out skip piece (λ _. written at (take d bytes) old i) b (inr past) ∙ written_out at (take d bytes) old i (inr (omega arith)) ∙ sym (written_out at (take (d + k) bytes) old i (inr (omega arith)))
      ]
    ]

-- a byte that the piece does not reach is as before
skipped_over : (at d k : ℕ) (bytes : List ℕ) (old : ℕ → ℕ) (i : ℕ) → d + k ≤ length bytes → (i < at + d) ⊎ (at + d + k ≤ i) → written at (take d bytes) old i ≡ written at (take (d + k) bytes) old i
skipped_over at d k bytes old i fits (inl low) =
    let ld : length (take d bytes) ≡ d = length-take-le d bytes (omega arith) in
    let lk : length (take (d + k) bytes) ≡ d + k = length-take-le (d + k) bytes fits in
    elim (cases_lt i at) [
      | inl under ↦ written_out at (take d bytes) old i (inl under) ∙ sym (written_out at (take (d + k) bytes) old i (inl under))
      | inr high ↦ written_in at (take d bytes) old i high (omega arith) ∙ get_or-take d bytes (i - at) 0 (omega arith) ∙ sym (written_in at (take (d + k) bytes) old i high (omega arith) ∙ get_or-take (d + k) bytes (i - at) 0 (omega arith))
    ]
skipped_over at d k bytes old i fits (inr high) =
    let ld : length (take d bytes) ≡ d = length-take-le d bytes (omega arith) in
    let lk : length (take (d + k) bytes) ≡ d + k = length-take-le (d + k) bytes fits in
    written_out at (take d bytes) old i (inr (omega arith)) ∙ sym (written_out at (take (d + k) bytes) old i (inr (omega arith)))

other_side : (i p k : ℕ) → i / 56 ≢ p / 56 → p % 56 + k ≤ 56 → (i < p) ⊎ (p + k ≤ i)
other_side i p k other fits = elim (cases_lt i p) [ inl low ↦ inl low | inr high ↦ inr (omega arith) ]

-- a piece goes to one cell, and the write has come further
module _ (old now new : List Cell) (first at : ℕ) (bytes rest : List ℕ) (cell skip : ℕ) (piece : List ℕ) (w : HasWritten old now first at bytes rest cell skip) (chain : IsChain old first (cells_for (at + length bytes))) (kept : KeepsChains now new) (others : (k : ℕ) → k ≢ cell → load_at new k ≡ load_at now k) (load : (i : ℕ) → get_or (load_at new cell) i 0 ≡ written skip piece (λ i. get_or (load_at now cell) i 0) i) (ispiece : piece ≡ take (length piece) rest) (short : length piece ≤ length rest) (fits : skip + length piece ≤ 56) where
  pub next_as_old : (k : ℕ) → next_at new k ≡ next_at old k
  next_as_old k = kept.next k ∙ w.kept.next k

  pub kept_all : KeepsChains old new
  kept_all = record { count = kept.count ∙ w.kept.count; next = next_as_old; len = λ k. kept.len k ∙ w.kept.len k; full = λ f. kept.full (w.kept.full f) }

  pub walk_new : (n : ℕ) → walk new first n ≡ walk old first n
  walk_new n = walk_kept old new next_as_old first n

  pub walk_now : (n : ℕ) → walk now first n ≡ walk old first n
  walk_now n = walk_kept old now w.kept.next first n

  pub frame_more : (k : ℕ) → ((j : ℕ) → j < cells_for (at + length bytes) → walk old first j ≢ k) → load_at new k ≡ load_at old k
  frame_more k h = others k (λ e. h (pos at bytes rest / 56) w.within (sym (e ∙ w.here))) ∙ w.frame k h

  pub done_more : (m i : ℕ) → IsChain old first m → i < 56 * m → byte_at new first i ≡ written at (take (length bytes - length rest + length piece) bytes) (byte_at old first) i
  done_more m i p low = elim (cases_eq (i / 56) (pos at bytes rest / 56)) [
    | inl same ↦
        let here : walk new first (i / 56) ≡ cell = walk_new (i / 56) ∙ ap (walk old first) same ∙ sym w.here in
        let was : get_or (load_at now cell) (i % 56) 0 ≡ written at (take (length bytes - length rest) bytes) (byte_at old first) i = ap (λ c. get_or (load_at now c) (i % 56) 0) (sym (walk_now (i / 56) ∙ ap (walk old first) same ∙ sym w.here)) ∙ w.done m i p low in
        ap (λ c. get_or (load_at new c) (i % 56) 0) here ∙ load (i % 56) ∙ ap (λ b. cond (nat_le skip (i % 56) && nat_lt (i % 56) (skip + length piece)) (get_or piece (i % 56 - skip) 0) b) was ∙ wrote_more at (length bytes - length rest) bytes rest piece (byte_at old first) i skip (i % 56) w.goes_on ispiece (let l = w.left in omega arith) (let o = w.offset in let l = w.left in omega arith)
    | inr other ↦
        let apart : walk new first (i / 56) ≢ cell = λ e. other (apart_at old first m (cells_for (at + length bytes)) (i / 56) (pos at bytes rest / 56) p chain (omega arith) w.within (sym (walk_new (i / 56)) ∙ e ∙ w.here)) in
        ap (λ xs. get_or xs (i % 56) 0) (others (walk new first (i / 56)) apart) ∙ ap (λ c. get_or (load_at now c) (i % 56) 0) (walk_new (i / 56) ∙ sym (walk_now (i / 56))) ∙ w.done m i p low ∙ skipped_over at (length bytes - length rest) (length piece) bytes (byte_at old first) i (let l = w.left in omega arith) (other_side i (pos at bytes rest) (length piece) other (let o = w.offset in omega arith))
  ]

  -- the cell after this one
  pub next_here : (j : ℕ) → j ≡ suc (pos at bytes rest / 56) → next_at new cell ≡ walk old first j
  next_here j e = next_as_old cell ∙ ap (next_at old) w.here ∙ ap (walk old first) (sym e)

  -- a whole piece, after which the write goes on in the next cell
  pub wrote_piece : (more : List ℕ) → more ≡ drop (length piece) rest → length more + length piece ≡ length rest → skip + length piece ≡ 56 → 0 < length more → HasWritten old new first at bytes more (next_at new cell) 0
  wrote_piece more is_more counts whole some =
      let l = w.left in
      let o = w.offset in
      let d : length bytes - length rest + length piece ≡ length bytes - length more = omega arith in
      let step : pos at bytes more / 56 ≡ suc (pos at bytes rest / 56) = omega arith in
      record {
        left = omega arith;
        goes_on = is_more ∙ ap (drop (length piece)) w.goes_on ∙ drop-drop (length piece) (length bytes - length rest) bytes ∙ ap (λ n. drop n bytes) d;
        here = next_here (pos at bytes more / 56) step;
        offset = omega arith;
        within = omega arith;
        kept = kept_all;
        done = λ m i p low. done_more m i p low ∙ ap (λ n. written at (take n bytes) (byte_at old first) i) d;
        frame = frame_more;
      }

  -- the last piece
  pub wrote_all : length piece ≡ length rest → (m i : ℕ) → IsChain old first m → i < 56 * m → byte_at new first i ≡ written at bytes (byte_at old first) i
  wrote_all last m i p low =
      let l = w.left in
      done_more m i p low ∙ ap (λ xs. written at xs (byte_at old first) i) (take_all (length bytes - length rest + length piece) bytes (omega arith))

  pub next_last : length piece ≡ length rest → next_at new cell ≡ walk old first (cells_for (at + length bytes))
  next_last last =
      let l = w.left in
      let o = w.offset in
      let h = w.within in
      next_here (cells_for (at + length bytes)) (omega arith)
