-- What sound cells are seen as.
use Rattle.std.proofs.Common.{◌≡◌, ℕ, ◌/◌, ◌%◌, ◌<◌, ◌≤◌, ◌≢◌, inl, inr, true, false, List, length, take, get_or, set, refl, sym, ap, ◌∙◌, arith, subst, Some, None, Option}
use Rattle.std.specs.Prelude.{◌==◌}
use Rattle.std.proofs.lemmas.Bool.{cases_eq}
use Rattle.std.proofs.lemmas.Bool.Decides.{nat_tests}
use Rattle.std.proofs.lemmas.List.FromFn.{length-map-range_with_len, get_or-map-range_with_len}
use Rattle.std.proofs.lemmas.List.{length-set, get_or-set_same, get_or-set_other, ext_get_or, get_or-take, length-take-le}
use Rattle.std.proofs.lemmas.Grind.{same_number_lists}
use Rattle.kt_pool.specs.Contents.{cells_for}
use Rattle.kt_pool.specs.Cells.{IsChain, IsFull, walk, len_at, load_at, byte_at, content, nothing}
use Rattle.kt_pool.specs.Sound.{placed_in, places_in, IsSound}
use Rattle.kt_pool.specs.declared.cells.Cell.{Cell}

pub length-content : (cells : List Cell) (first n : ℕ) → length (content cells first n) ≡ n
length-content cells first n = length-map-range_with_len (byte_at cells first) 0 n

pub get_or-content : (cells : List Cell) (first n i : ℕ) → i < n → get_or (content cells first n) i 0 ≡ byte_at cells first i
get_or-content cells first n i low = get_or-map-range_with_len (byte_at cells first) 0 n i i 0 low (omega arith)

-- a list of the bytes along a chain is its content
pub is_content : (cells : List Cell) (first : ℕ) (bytes : List ℕ) → ((i : ℕ) → i < length bytes → byte_at cells first i ≡ get_or bytes i 0) → content cells first (length bytes) ≡ bytes
is_content cells first bytes h = same_number_lists _ _ (length-content cells first (length bytes)) (λ i low. let l : i < length bytes = subst (λ n. i < n) (length-content cells first (length bytes)) low in get_or-content cells first (length bytes) i l ∙ h i l)

pub same_content : (a b : List Cell) (first n : ℕ) → ((i : ℕ) → i < n → byte_at a first i ≡ byte_at b first i) → content a first n ≡ content b first n
same_content a b first n h = same_number_lists _ _ (length-content a first n ∙ sym (length-content b first n)) (λ i low. let l : i < n = subst (λ m. i < m) (length-content a first n) low in get_or-content a first n i l ∙ h i l ∙ sym (get_or-content b first n i l))

-- the first bytes of a chain's content are its content so far
pub take_content : (cells : List Cell) (first m n : ℕ) → m ≤ n → content cells first m ≡ take m (content cells first n)
take_content cells first m n low =
    let whole = length-content cells first n in
    let right : length (take m (content cells first n)) ≡ m = length-take-le m (content cells first n) (omega arith) in
    same_number_lists _ _ (length-content cells first m ∙ sym right) (λ i l.
    let less : i < m = subst (λ k. i < k) (length-content cells first m) l in
    get_or-content cells first m i less ∙ sym (get_or-take m (content cells first n) i 0 less ∙ get_or-content cells first n i (omega arith)))

-- the first bytes of a cell are those of the chain that begins there
pub front_content : (cells : List Cell) (first n : ℕ) → IsFull cells → first < length cells → n ≤ 56 → take n (load_at cells first) ≡ content cells first n
front_content cells first n full inside low =
    let whole = full first inside in
    let left : length (take n (load_at cells first)) ≡ n = length-take-le n (load_at cells first) (omega arith) in
    same_number_lists _ _ (left ∙ sym (length-content cells first n)) (λ i l.
    let less : i < n = subst (λ k. i < k) left l in
    let cell : i / 56 ≡ 0 = omega arith in
    let at : i % 56 ≡ i = omega arith in
    get_or-take n (load_at cells first) i 0 less ∙ sym (get_or-content cells first n i less ∙ ap (λ k. get_or (load_at cells (walk cells first k)) (i % 56) 0) cell ∙ ap (λ k. get_or (load_at cells first) k 0) at))

pub length-places : (cells : List Cell) → length (places_in cells) ≡ length cells
length-places cells = length-map-range_with_len (placed_in cells) 0 (length cells)

pub get_or-places : (cells : List Cell) (k : ℕ) → k < length cells → get_or (places_in cells) k None ≡ placed_in cells k
get_or-places cells k low = get_or-map-range_with_len (placed_in cells) 0 (length cells) k k None low (omega arith)

-- nothing is placed in a cell that says so
pub no_place : (cells : List Cell) (k : ℕ) → len_at cells k ≡ nothing → placed_in cells k ≡ None
no_place cells k e = let t : (len_at cells k == nothing) ≡ true = grind (arith, nat_tests) in rw t refl

pub some_place : (cells : List Cell) (k : ℕ) → len_at cells k ≢ nothing → placed_in cells k ≡ Some (content cells k (len_at cells k))
some_place cells k ne = let t : (len_at cells k == nothing) ≡ false = grind (arith, nat_tests) in rw t refl

-- where only one cell's place has changed
pub places_set : (old new : List Cell) (k : ℕ) (v : Option (List ℕ)) → length new ≡ length old → k < length old → placed_in new k ≡ v → ((i : ℕ) → i < length old → i ≢ k → placed_in new i ≡ placed_in old i) → places_in new ≡ set (places_in old) k v
places_set old new k v count low here others =
    ext_get_or None (places_in new) (set (places_in old) k v) (length-places new ∙ count ∙ sym (length-set (places_in old) k v ∙ length-places old)) (λ i inside.
    let l : i < length old = subst (λ n. i < n) (length-places new ∙ count) inside in
    let ln : i < length new = omega arith in
    let lp : k < length (places_in old) = subst (λ n. k < n) (sym (length-places old)) low in
    get_or-places new i ln ∙ elim (cases_eq i k) [
      | inl same ↦ ap (placed_in new) same ∙ here ∙ sym (ap (λ n. get_or (set (places_in old) k v) n None) same ∙ get_or-set_same (places_in old) k v None lp)
      | inr other ↦ others i l other ∙ sym (get_or-set_other (places_in old) k i v None other ∙ get_or-places old i l)
    ])

-- ---- sound cells

module _ (cells : List Cell) (first free : ℕ) (s : IsSound cells first free) where
  -- the free cells are a chain
  pub chain_spare : (m : ℕ) → m ≤ free → IsChain cells first m
  chain_spare m fits = record {
    inside = λ j low. (s.spare j (omega arith)).inside;
    apart = λ i j a b e. sym (s.spare i (omega arith)).depth ∙ ap s.depth e ∙ (s.spare j (omega arith)).depth;
  }

  -- a place's cells are a chain
  pub chain_owned : (head : ℕ) → head < length cells → len_at cells head ≢ nothing → IsChain cells head (cells_for (len_at cells head))
  chain_owned head inside has = record {
    inside = λ j low. (s.owned head j inside has low).inside;
    apart = λ i j a b e. sym (s.owned head i inside has a).depth ∙ ap s.depth e ∙ (s.owned head j inside has b).depth;
  }

  -- a place is in none of the free cells, nor in another's
  pub not_spare : (head i j : ℕ) → head < length cells → len_at cells head ≢ nothing → i < cells_for (len_at cells head) → j < free → walk cells first j ≢ walk cells head i
  not_spare head i j inside has a b e =
      let h = (s.owned head i inside has a).owner in
      let f = (s.spare j b).owner in
      let same : head ≡ length cells = sym h ∙ ap s.owner (sym e) ∙ f in
      absurd (omega arith)

  pub not_owned : (head other i j : ℕ) → head < length cells → len_at cells head ≢ nothing → i < cells_for (len_at cells head) → other < length cells → len_at cells other ≢ nothing → j < cells_for (len_at cells other) → head ≢ other → walk cells other j ≢ walk cells head i
  not_owned head other i j hin hhas a oin ohas b ne e = ne (sym (s.owned head i hin hhas a).owner ∙ ap s.owner (sym e) ∙ (s.owned other j oin ohas b).owner)
