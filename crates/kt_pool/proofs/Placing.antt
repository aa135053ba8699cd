-- What a place in fresh cells is, and what a chunk of one.
use Rattle.std.proofs.Common.{◌≡◌, ℕ, ◌+◌, ◌-◌, ◌*◌, ◌/◌, ◌%◌, ◌<◌, ◌≤◌, ◌≢◌, inl, inr, List, ◌++◌, length, take, drop, get_or, set, refl, sym, ap, ◌∙◌, arith, subst, length-append, length-set}
use Rattle.std.specs.Prelude.{min}
use Rattle.std.specs.List.{between}
use Rattle.std.proofs.lemmas.Bool.{cases_lt, cases_eq}
use Rattle.std.proofs.lemmas.List.{get_or-set_same, get_or-set_other, get_or_append_left, get_or-append_right, get_or-take, get_or-drop, length-take-le, length-drop}
use Rattle.std.proofs.lemmas.Grind.{same_number_lists}
use Rattle.kt_pool.specs.Contents.{cells_for}
use Rattle.kt_pool.specs.Cells.{blank, KeepsChains, IsChain, IsFull, Fills, walk, next_at, load_at, byte_at, content, written}
use Rattle.kt_pool.specs.declared.cells.Cell.{Cell}
use Rattle.kt_pool.proofs.Writing.{walk_kept, written_in, written_out}
use Rattle.kt_pool.proofs.Views.{length-content, get_or-content}

-- a cell that only has another length
module _ (cells : List Cell) (first n : ℕ) (inside : first < length cells) where
  pub marked_cell : (k : ℕ) → (load_at (set cells first (record { bytes = load_at cells first; next = next_at cells first; len = n })) k ≡ load_at cells k) × (next_at (set cells first (record { bytes = load_at cells first; next = next_at cells first; len = n })) k ≡ next_at cells k)
  marked_cell k = elim (cases_eq k first) [
    | inl same ↦ (
      ap (load_at (set cells first (record { bytes = load_at cells first; next = next_at cells first; len = n }))) same ∙ ap (λ (c : Cell). c.bytes) (get_or-set_same cells first (record { bytes = load_at cells first; next = next_at cells first; len = n }) blank inside) ∙ ap (load_at cells) (sym same),
      ap (next_at (set cells first (record { bytes = load_at cells first; next = next_at cells first; len = n }))) same ∙ ap (λ (c : Cell). c.next) (get_or-set_same cells first (record { bytes = load_at cells first; next = next_at cells first; len = n }) blank inside) ∙ ap (next_at cells) (sym same),
    )
    | inr other ↦ let e = get_or-set_other cells first k (record { bytes = load_at cells first; next = next_at cells first; len = n }) blank other in (ap (λ (c : Cell). c.bytes) e, ap (λ (c : Cell). c.next) e)
  ]

-- bytes in fresh cells, and then the length of the place
pub filled_with : (old wrote : List Cell) (first after : ℕ) (bytes : List ℕ) → IsChain old first (cells_for (length bytes)) → KeepsChains old wrote → IsFull old → after ≡ walk old first (cells_for (length bytes)) → ((i : ℕ) → i < length bytes → byte_at wrote first i ≡ get_or bytes i 0) → ((k : ℕ) → ((j : ℕ) → j < cells_for (length bytes) → walk old first j ≢ k) → load_at wrote k ≡ load_at old k) → Fills old (set wrote first (record { bytes = load_at wrote first; next = next_at wrote first; len = length bytes })) first bytes after
filled_with old wrote first after bytes chain kept full goes done frame =
    let c : Cell = record { bytes = load_at wrote first; next = next_at wrote first; len = length bytes } in
    let new : List Cell = set wrote first c in
    let inside : first < length wrote = let i = chain.inside 0 (omega arith) in let k = kept.count in omega arith in
    let same = marked_cell wrote first (length bytes) inside in
    let next : (k : ℕ) → next_at new k ≡ next_at old k = λ k. (same k).1 ∙ kept.next k in
    record {
      count = length-set wrote first c ∙ kept.count;
      next = next;
      here = ap (λ (c : Cell). c.len) (get_or-set_same wrote first c blank inside);
      others = λ k ne. ap (λ (c : Cell). c.len) (get_or-set_other wrote first k c blank ne) ∙ kept.len k;
      full = λ k low. ap length (same k).0 ∙ kept.full full k (subst (λ n. k < n) (length-set wrote first c) low);
      goes_on = goes;
      placed = λ i low. ap (λ w. get_or (load_at new w) (i % 56) 0) (walk_kept wrote new (λ k. (same k).1) first (i / 56)) ∙ ap (λ xs. get_or xs (i % 56) 0) (same (walk wrote first (i / 56))).0 ∙ done i low;
      frame = λ k h. (same k).0 ∙ frame k h;
    }

-- a write in fresh cells, and then the length of the place
pub filled : (old wrote : List Cell) (first after : ℕ) (bytes : List ℕ) → IsChain old first (cells_for (length bytes)) → KeepsChains old wrote → IsFull old → after ≡ walk old first (cells_for (0 + length bytes)) → ((m i : ℕ) → IsChain old first m → i < 56 * m → byte_at wrote first i ≡ written 0 bytes (byte_at old first) i) → ((k : ℕ) → ((j : ℕ) → j < cells_for (0 + length bytes) → walk old first j ≢ k) → load_at wrote k ≡ load_at old k) → Fills old (set wrote first (record { bytes = load_at wrote first; next = next_at wrote first; len = length bytes })) first bytes after
filled old wrote first after bytes chain kept full goes done frame =
    filled_with old wrote first after bytes chain kept full (goes ∙ ap (λ n. walk old first (cells_for n)) (omega arith))
    (λ i low. done (cells_for (length bytes)) i chain (omega arith) ∙ written_in 0 bytes (byte_at old first) i (omega arith) (omega arith) ∙ ap (λ n. get_or bytes n 0) (omega arith))
    (λ k h. frame k (λ j low. h j (omega arith)))

-- a piece in the first of some fresh cells and another behind it, and then the length of the place
module _ (old mid : List Cell) (first : ℕ) (front behind : List ℕ) (chain : IsChain old first (cells_for (length (front ++ behind)))) (full : IsFull old) (small : length front < 56)
    (kept_front : KeepsChains old mid) (others : (k : ℕ) → k ≢ first → load_at mid k ≡ load_at old k) (load : (i : ℕ) → get_or (load_at mid first) i 0 ≡ written 0 front (λ i. get_or (load_at old first) i 0) i) where
  both : length (front ++ behind) ≡ length front + length behind
  both = length-append front behind

  walk_mid : (n : ℕ) → walk mid first n ≡ walk old first n
  walk_mid n = walk_kept old mid kept_front.next first n

  pub chain_mid : IsChain mid first (cells_for (length front + length behind))
  chain_mid =
      let b = both in
      record {
        inside = λ j low. let i = chain.inside j (omega arith) in let w = walk_mid j in let c = kept_front.count in omega arith;
        apart = λ i j low less e. chain.apart i j (omega arith) (omega arith) (sym (walk_mid i) ∙ e ∙ walk_mid j);
      }

  module _ (wrote : List Cell) (after : ℕ) (kept_behind : KeepsChains mid wrote) (goes : after ≡ walk mid first (cells_for (length front + length behind))) (done : (m i : ℕ) → IsChain mid first m → i < 56 * m → byte_at wrote first i ≡ written (length front) behind (byte_at mid first) i) (frame : (k : ℕ) → ((j : ℕ) → j < cells_for (length front + length behind) → walk mid first j ≢ k) → load_at wrote k ≡ load_at mid k) where
    kept : KeepsChains old wrote
    kept = record { count = kept_behind.count ∙ kept_front.count; next = λ k. kept_behind.next k ∙ kept_front.next k; len = λ k. kept_behind.len k ∙ kept_front.len k; full = λ f. kept_behind.full (kept_front.full f) }

    front_byte : (i : ℕ) → i < length front → byte_at mid first i ≡ get_or front i 0
    front_byte i low =
        let here : i / 56 ≡ 0 = omega arith in
        let same : i % 56 ≡ i = omega arith in
        let none : i - 0 ≡ i = omega arith in
        ap (λ n. get_or (load_at mid (walk mid first n)) (i % 56) 0) here ∙ ap (λ n. get_or (load_at mid first) n 0) same ∙ load i
        ∙ written_in 0 front (λ i. get_or (load_at old first) i 0) i (omega arith) (omega arith) ∙ ap (λ n. get_or front n 0) none

    placed : (i : ℕ) → i < length (front ++ behind) → byte_at wrote first i ≡ get_or (front ++ behind) i 0
    placed i low =
        let b = both in
        done (cells_for (length front + length behind)) i chain_mid (omega arith) ∙ elim (cases_lt i (length front)) [
          | inl less ↦ written_out (length front) behind (byte_at mid first) i (inl less) ∙ front_byte i less ∙ sym (get_or_append_left front behind 0 i less)
          | inr more ↦ written_in (length front) behind (byte_at mid first) i more (omega arith) ∙ sym (get_or-append_right front behind (length front) i 0 refl more)
        ]

    pub filled_two : Fills old (set wrote first (record { bytes = load_at wrote first; next = next_at wrote first; len = length front + length behind })) first (front ++ behind) after
    filled_two =
        let b = both in
        let P : ℕ → Type 0 = λ n. Fills old (set wrote first (record { bytes = load_at wrote first; next = next_at wrote first; len = n })) first (front ++ behind) after in
        subst P b (filled_with old wrote first after (front ++ behind) chain kept full
        (goes ∙ walk_mid (cells_for (length front + length behind)) ∙ ap (λ n. walk old first (cells_for n)) (sym b)) placed
        (λ k h. frame k (λ j low e. h j (omega arith) (sym (walk_mid j) ∙ e)) ∙ others k (λ e. h 0 (omega arith) (sym e))))

-- the bytes from `at` to the end of their cell
pub chunk_bytes : (cells : List Cell) (first len at e : ℕ) → IsChain cells first (cells_for len) → IsFull cells → at < len → at % 56 + e ≤ 56 → at + e ≡ min len (56 * (at / 56) + 56) → take (at % 56 + e - at % 56) (drop (at % 56) (load_at cells (walk cells first (at / 56)))) ≡ between at (min len (56 * (at / 56) + 56)) (content cells first len)
chunk_bytes cells first len at e chain full inside fits ends =
    let here = walk cells first (at / 56) in
    let whole : length (load_at cells here) ≡ 56 = full here (chain.inside (at / 56) (omega arith)) in
    let rest = drop (at % 56) (load_at cells here) in
    let end = min len (56 * (at / 56) + 56) in
    let left : length (take (at % 56 + e - at % 56) rest) ≡ e = length-take-le (at % 56 + e - at % 56) rest (simp length-drop (omega arith)) ∙ plus_minus (at % 56) e in
    let right : length (between at end (content cells first len)) ≡ e = length-take-le (end - at) (drop at (content cells first len)) (let l = length-content cells first len in simp length-drop (omega arith)) ∙ minus_is at e end ends in
    same_number_lists (take (at % 56 + e - at % 56) rest) (between at end (content cells first len)) (left ∙ sym right) (λ k low.
    let l : k < e = subst (λ n. k < n) left low in
    get_or-take (at % 56 + e - at % 56) rest k 0 (omega arith) ∙ get_or-drop (at % 56) (load_at cells here) k 0
    ∙ ap (λ n. get_or (load_at cells here) n 0) (same_place at e k l fits).1 ∙ ap (λ n. get_or (load_at cells (walk cells first n)) ((at + k) % 56) 0) (same_place at e k l fits).0
    ∙ sym (get_or-take (end - at) (drop at (content cells first len)) k 0 (omega arith) ∙ get_or-drop at (content cells first len) k 0 ∙ get_or-content cells first len (at + k) (omega arith)))
  where
    plus_minus : (a b : ℕ) → a + b - a ≡ b
    plus_minus a b = omega arith

    minus_is : (a b c : ℕ) → a + b ≡ c → c - a ≡ b
    minus_is a b c h = omega arith

    same_place : (at e k : ℕ) → k < e → at % 56 + e ≤ 56 → (at / 56 ≡ (at + k) / 56) × (at % 56 + k ≡ (at + k) % 56)
    same_place at e k l fits = (omega arith, omega arith)
