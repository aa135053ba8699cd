-- The bytes along a chain, a cell at a time.
use Rattle.std.proofs.Common.{◌≡◌, ℕ, zero, suc, ◌+◌, ◌-◌, ◌/◌, ◌%◌, ◌<◌, ◌≤◌, inl, inr, true, false, not, List, [], ◌∷◌, ◌++◌, length, take, drop, get_or, refl, sym, ap, ◌∙◌, arith, subst, length-append}
use Rattle.std.specs.Ordering.{ordering_then, ordering_index, nat_cmp}
use Rattle.std.specs.Prelude.{◌==◌}
use Rattle.std.specs.declared.cmp.Ordering.{Ordering}
use Rattle.std.specs.declared.cmp.Ordering.TheVariants.{Less, Equal, Greater}
use Rattle.std.specs.Cmp.Lexicographic.{slice_cmp}
use Rattle.std.proofs.lemmas.Bool.{cases_lt}
use Rattle.std.proofs.lemmas.List.{get_or_append_left, get_or-append_right, get_or-take, length-take-le, take-append-drop, append_assoc}
use Rattle.std.proofs.lemmas.Grind.{same_number_lists}
use Rattle.kt_pool.specs.Contents.{cells_for}
use Rattle.kt_pool.specs.Cells.{IsChain, IsFull, walk, next_at, load_at, content}
use Rattle.kt_pool.specs.declared.cells.Cell.{Cell}
use Rattle.kt_pool.proofs.Views.{length-content, get_or-content}

-- one step at the front of a walk
pub walk_next : (cells : List Cell) (first n : ℕ) → walk cells (next_at cells first) n ≡ walk cells first (suc n)
walk_next cells first zero = refl
walk_next cells first (suc n) = ap (next_at cells) (walk_next cells first n)

-- a walk that goes on
pub walk_on : (cells : List Cell) (first m n : ℕ) → walk cells (walk cells first m) n ≡ walk cells first (m + n)
walk_on cells first m zero = ap (walk cells first) (omega arith)
walk_on cells first m (suc n) = ap (next_at cells) (walk_on cells first m n) ∙ ap (walk cells first) (step m n)
  where
    step : (m n : ℕ) → suc (m + n) ≡ m + suc n
    step m n = omega arith

pub chain_next : (cells : List Cell) (first m n : ℕ) → m ≡ suc n → IsChain cells first m → IsChain cells (next_at cells first) n
chain_next cells first m n e p = record {
  inside = λ j low. subst (λ c. c < length cells) (sym (walk_next cells first j)) (p.inside (suc j) (omega arith));
  apart = λ i j a b same. let s : suc i ≡ suc j = p.apart (suc i) (suc j) (omega arith) (omega arith) (sym (walk_next cells first i) ∙ same ∙ walk_next cells first j) in omega arith;
}

-- a first whole cell, and the bytes after it
pub content_step : (cells : List Cell) (at left : ℕ) → 56 < left → length (load_at cells at) ≡ 56 → content cells at left ≡ load_at cells at ++ content cells (next_at cells at) (left - 56)
content_step cells at left long full =
    same_number_lists _ _ (length-content cells at left ∙ sym (length-append (load_at cells at) _ ∙ ap (λ n. length (load_at cells at) + n) (length-content cells (next_at cells at) (left - 56)) ∙ sums (length (load_at cells at)) left full long)) (λ i inside.
    let l : i < left = subst (λ n. i < n) (length-content cells at left) inside in
    get_or-content cells at left i l ∙ elim (cases_lt i 56) [
      | inl low ↦ ap (λ n. get_or (load_at cells (walk cells at n)) (i % 56) 0) (small i low) ∙ ap (λ n. get_or (load_at cells at) n 0) (less i low) ∙ sym (get_or_append_left (load_at cells at) _ 0 i (omega arith))
      | inr high ↦
          let there : walk cells at (i / 56) ≡ walk cells (next_at cells at) ((i - 56) / 56) = ap (walk cells at) (fewer i high) ∙ sym (walk_next cells at ((i - 56) / 56)) in
          ap (λ c. get_or (load_at cells c) (i % 56) 0) there ∙ ap (λ n. get_or (load_at cells (walk cells (next_at cells at) ((i - 56) / 56))) n 0) (same i high) ∙ sym (get_or-append_right (load_at cells at) _ 56 i 0 full high ∙ get_or-content cells (next_at cells at) (left - 56) (i - 56) (omega arith))
    ])
  where
    sums : (a left : ℕ) → a ≡ 56 → 56 < left → a + (left - 56) ≡ left
    sums a left e h = omega arith

    small : (i : ℕ) → i < 56 → i / 56 ≡ 0
    small i h = omega arith

    less : (i : ℕ) → i < 56 → i % 56 ≡ i
    less i h = omega arith

    fewer : (i : ℕ) → 56 ≤ i → i / 56 ≡ suc ((i - 56) / 56)
    fewer i h = omega arith

    same : (i : ℕ) → 56 ≤ i → i % 56 ≡ (i - 56) % 56
    same i h = omega arith

-- the bytes of a last cell
pub content_last : (cells : List Cell) (at left : ℕ) → left ≤ 56 → length (load_at cells at) ≡ 56 → content cells at left ≡ take left (load_at cells at)
content_last cells at left short full =
    same_number_lists _ _ (length-content cells at left ∙ sym (length-take-le left (load_at cells at) (omega arith))) (λ i inside.
    let l : i < left = subst (λ n. i < n) (length-content cells at left) inside in
    get_or-content cells at left i l ∙ ap (λ n. get_or (load_at cells (walk cells at n)) (i % 56) 0) (small i (omega arith)) ∙ ap (λ n. get_or (load_at cells at) n 0) (less i (omega arith)) ∙ sym (get_or-take left (load_at cells at) i 0 l))
  where
    small : (i : ℕ) → i < 56 → i / 56 ≡ 0
    small i h = omega arith

    less : (i : ℕ) → i < 56 → i % 56 ≡ i
    less i h = omega arith

-- ---- the order of two lists, a piece at a time

pub then_assoc : (a b c : Ordering) → ordering_then (ordering_then a b) c ≡ ordering_then a (ordering_then b c)
then_assoc Less b c = refl
then_assoc Equal b c = refl
then_assoc Greater b c = refl

pub cmp_pieces : (xs ys us vs : List ℕ) → length xs ≡ length us → slice_cmp nat_cmp (xs ++ ys) (us ++ vs) ≡ ordering_then (slice_cmp nat_cmp xs us) (slice_cmp nat_cmp ys vs)
cmp_pieces [] ys [] vs e = refl
cmp_pieces [] ys (u ∷ us) vs e = absurd (omega arith)
cmp_pieces (x ∷ xs) ys [] vs e = absurd (omega arith)
cmp_pieces (x ∷ xs) ys (u ∷ us) vs e = ap (ordering_then (nat_cmp x u)) (cmp_pieces xs ys us vs (omega arith)) ∙ sym (then_assoc (nat_cmp x u) (slice_cmp nat_cmp xs us) (slice_cmp nat_cmp ys vs))

-- more bytes than the key has, after a piece that is as long as the key or longer
pub cmp_longer : (xs ys us : List ℕ) → length us ≤ length xs → 0 < length ys → slice_cmp nat_cmp (xs ++ ys) us ≡ ordering_then (slice_cmp nat_cmp xs us) Greater
cmp_longer [] [] [] h more = absurd (omega arith)
cmp_longer [] (y ∷ ys) [] h more = refl
cmp_longer [] ys (u ∷ us) h more = absurd (omega arith)
cmp_longer (x ∷ xs) ys [] h more = refl
cmp_longer (x ∷ xs) ys (u ∷ us) h more = ap (ordering_then (nat_cmp x u)) (cmp_longer xs ys us (omega arith) more) ∙ sym (then_assoc (nat_cmp x u) (slice_cmp nat_cmp xs us) Greater)

pub ne_then : (o x : Ordering) → true ≡ not (ordering_index o == 1) → ordering_then o x ≡ o
ne_then Less x e = refl
ne_then Equal x e = cc
ne_then Greater x e = refl

pub eq_then : (o x : Ordering) → false ≡ not (ordering_index o == 1) → ordering_then o x ≡ x
eq_then Less x e = cc
eq_then Equal x e = refl
eq_then Greater x e = cc

-- ---- one turn of a loop along a chain

module _ (cells : List Cell) (at left : ℕ) (chain : IsChain cells at (cells_for left)) (full : IsFull cells) where
  load_full : length (load_at cells at) ≡ 56
  load_full = full at (chain.inside 0 (omega arith))

  pub rest_chain : 56 < left → IsChain cells (next_at cells at) (cells_for (left - 56))
  rest_chain long = chain_next cells at (cells_for left) (cells_for (left - 56)) (omega arith) chain

  pub front_bytes : 56 < left → content cells at left ≡ load_at cells at ++ content cells (next_at cells at) (left - 56)
  front_bytes long = content_step cells at left long load_full

  pub last_bytes : left ≤ 56 → content cells at left ≡ take left (load_at cells at)
  last_bytes short = content_last cells at left short load_full

  pub cmp_front : (key front back : List ℕ) → 56 < left → 56 ≤ length key → front ≡ take 56 key → back ≡ drop 56 key → slice_cmp nat_cmp (content cells at left) key ≡ ordering_then (slice_cmp nat_cmp (load_at cells at) front) (slice_cmp nat_cmp (content cells (next_at cells at) (left - 56)) back)
  cmp_front key front back long enough isfront isback =
      ap (λ xs. slice_cmp nat_cmp xs key) (front_bytes long) ∙ ap (slice_cmp nat_cmp (load_at cells at ++ content cells (next_at cells at) (left - 56))) (sym (ap (λ xs. xs ++ back) isfront ∙ ap (λ xs. take 56 key ++ xs) isback ∙ take-append-drop 56 key))
      ∙ cmp_pieces (load_at cells at) (content cells (next_at cells at) (left - 56)) front back (load_full ∙ sym (ap length isfront ∙ length-take-le 56 key enough))

  pub cmp_more : (key : List ℕ) → 56 < left → length key ≤ 56 → slice_cmp nat_cmp (content cells at left) key ≡ ordering_then (slice_cmp nat_cmp (load_at cells at) key) Greater
  cmp_more key long short = ap (λ xs. slice_cmp nat_cmp xs key) (front_bytes long) ∙ cmp_longer (load_at cells at) (content cells (next_at cells at) (left - 56)) key (let l = load_full in omega arith) (let l = length-content cells (next_at cells at) (left - 56) in omega arith)

  pub differs : (key front back : List ℕ) (order whole : Ordering) → 56 < left → 56 ≤ length key → front ≡ take 56 key → back ≡ drop 56 key → order ≡ slice_cmp nat_cmp (load_at cells at) front → true ≡ not (ordering_index order == 1) → slice_cmp nat_cmp (content cells at left) key ≡ whole → order ≡ whole
  differs key front back order whole long enough isfront isback e ne all =
      sym (ne_then order (slice_cmp nat_cmp (content cells (next_at cells at) (left - 56)) back) ne) ∙ ap (λ o. ordering_then o (slice_cmp nat_cmp (content cells (next_at cells at) (left - 56)) back)) e ∙ sym (cmp_front key front back long enough isfront isback) ∙ all

  pub agrees : (key front back : List ℕ) (order whole : Ordering) → 56 < left → 56 ≤ length key → front ≡ take 56 key → back ≡ drop 56 key → order ≡ slice_cmp nat_cmp (load_at cells at) front → false ≡ not (ordering_index order == 1) → slice_cmp nat_cmp (content cells at left) key ≡ whole → slice_cmp nat_cmp (content cells (next_at cells at) (left - 56)) back ≡ whole
  agrees key front back order whole long enough isfront isback e same all =
      sym (cmp_front key front back long enough isfront isback ∙ ap (λ o. ordering_then o (slice_cmp nat_cmp (content cells (next_at cells at) (left - 56)) back)) (sym e) ∙ eq_then order (slice_cmp nat_cmp (content cells (next_at cells at) (left - 56)) back) same) ∙ all

  pub appended : (out new all : List ℕ) → 56 < left → new ≡ out ++ load_at cells at → out ++ content cells at left ≡ all → new ++ content cells (next_at cells at) (left - 56) ≡ all
  appended out new all long e h = ap (λ xs. xs ++ content cells (next_at cells at) (left - 56)) e ∙ append_assoc out (load_at cells at) (content cells (next_at cells at) (left - 56)) ∙ ap (λ xs. out ++ xs) (sym (front_bytes long)) ∙ h

  pub appended_last : (out new all : List ℕ) → left ≤ 56 → new ≡ out ++ take left (load_at cells at) → out ++ content cells at left ≡ all → new ≡ all
  appended_last out new all short e h = e ∙ ap (λ xs. out ++ xs) (sym (last_bytes short)) ∙ h
