-- What a place that is made, given back or written over leaves of the cells and of the other places.
use Rattle.std.proofs.Common.{◌≡◌, ℕ, zero, suc, ◌+◌, ◌-◌, ◌*◌, ◌/◌, ◌%◌, ◌<◌, ◌≤◌, ◌≢◌, inl, inr, Bool, true, false, cond, ◌&&◌, List, ◌++◌, length, take, drop, get_or, set, refl, sym, ap, ◌∙◌, arith, subst, Some, None, length-append, length-take-le}
use Rattle.std.specs.Prelude.{◌==◌, nat_lt, nat_le}
use Rattle.std.specs.List.{sum_by}
use Rattle.std.proofs.lemmas.Bool.{cases_lt, cases_eq}
use Rattle.std.proofs.lemmas.Bool.Decides.{nat_tests}
use Rattle.std.proofs.lemmas.List.Sums.{sum_by-set}
use Rattle.std.proofs.lemmas.List.{get_or_append_left, get_or-append_right, get_or-take, get_or-drop, length-drop}
use Rattle.kt_pool.specs.Contents.{cells_for, cells_of, overwritten}
use Rattle.kt_pool.specs.Cells.{nothing, KeepsChains, IsChain, Fills, Frees, walk, next_at, len_at, load_at, byte_at, content, written}
use Rattle.kt_pool.specs.Sound.{placed_in, places_in, IsOwned, IsSound}
use Rattle.kt_pool.specs.declared.cells.Cell.{Cell}
use Rattle.kt_pool.proofs.Writing.{walk_kept, written_in, written_out}
use Rattle.kt_pool.proofs.Along.{walk_on}
use Rattle.kt_pool.proofs.Views.{length-content, get_or-content, is_content, same_content, length-places, get_or-places, no_place, some_place, places_set, not_spare, not_owned}
use Rattle.kt_pool.proofs.Standing.{IsStanding}

-- ---- a choice between two numbers by a test

pub yes : (b : Bool) (x y : ℕ) → b ≡ true → cond b x y ≡ x
yes true x y e = refl
yes false x y e = cc

pub no : (b : Bool) (x y : ℕ) → b ≡ false → cond b x y ≡ y
no true x y e = cc
no false x y e = refl

pub eq_yes : (a b x y : ℕ) → a ≡ b → cond (a == b) x y ≡ x
eq_yes a b x y e = yes (a == b) x y (grind (arith, nat_tests))

pub eq_no : (a b x y : ℕ) → a ≢ b → cond (a == b) x y ≡ y
eq_no a b x y e = no (a == b) x y (grind (arith, nat_tests))

pub lt_yes : (a b x y : ℕ) → a < b → cond (nat_lt a b) x y ≡ x
lt_yes a b x y e = yes (nat_lt a b) x y (grind (arith, nat_tests))

pub lt_no : (a b x y : ℕ) → b ≤ a → cond (nat_lt a b) x y ≡ y
lt_no a b x y e = no (nat_lt a b) x y (grind (arith, nat_tests))

-- ---- a place that is made

module _ (old new : List Cell) (first free : ℕ) (s : IsSound old first free) (bytes : List ℕ) (after : ℕ) (f : Fills old new first bytes after) (taken_free : cells_for (length bytes) ≤ free) where
  -- it begins at a cell of the pool, where none was
  pub first_inside : first < length old
  first_inside = (s.spare 0 (let t = taken_free in omega arith)).inside

  pub first_vacant : len_at old first ≡ nothing
  first_vacant = elim (cases_eq (len_at old first) nothing) [
    | inl none ↦ none
    | inr has ↦ absurd (not_spare old first free s first 0 0 first_inside has (omega arith) (let t = taken_free in omega arith) refl)
  ]

  pub vacant : get_or (places_in old) first None ≡ None
  vacant = get_or-places old first first_inside ∙ no_place old first first_vacant

  short_enough : length bytes ≢ nothing
  short_enough = let t = taken_free in let c = s.counted in let m = s.small in omega arith

  walk_new : (head j : ℕ) → walk new head j ≡ walk old head j
  walk_new head j = walk_kept old new f.next head j

  -- the other places keep their bytes
  byte_other : (head i : ℕ) → head < length old → len_at old head ≢ nothing → i < len_at old head → byte_at new head i ≡ byte_at old head i
  byte_other head i inside has low =
      let there = walk old head (i / 56) in
      ap (λ c. get_or (load_at new c) (i % 56) 0) (walk_new head (i / 56)) ∙ ap (λ xs. get_or xs (i % 56) 0) (f.frame there (λ j b. not_spare old first free s head (i / 56) j inside has (omega arith) (let t = taken_free in omega arith)))

  place_other : (k : ℕ) → k < length old → k ≢ first → placed_in new k ≡ placed_in old k
  place_other k inside ne =
      let l : len_at new k ≡ len_at old k = f.others k ne in
      elim (cases_eq (len_at old k) nothing) [
        | inl none ↦ no_place new k (l ∙ none) ∙ sym (no_place old k none)
        | inr has ↦ some_place new k (λ e. has (sym l ∙ e)) ∙ ap (λ n. Some (content new k n)) l ∙ ap Some (same_content new old k (len_at old k) (λ i low. byte_other k i inside has low)) ∙ sym (some_place old k has)
      ]

  place_here : placed_in new first ≡ Some bytes
  place_here = some_place new first (λ e. short_enough (sym f.here ∙ e)) ∙ ap (λ n. Some (content new first n)) f.here ∙ ap Some (is_content new first bytes f.placed)

  pub placed_places : places_in new ≡ set (places_in old) first (Some bytes)
  placed_places = places_set old new first (Some bytes) f.count first_inside place_here place_other

  owner : ℕ → ℕ
  owner c = cond (s.owner c == length old) (cond (nat_lt (s.depth c) (cells_for (length bytes))) first (length old)) (s.owner c)

  depth : ℕ → ℕ
  depth c = cond (s.owner c == length old) (cond (nat_lt (s.depth c) (cells_for (length bytes))) (s.depth c) (s.depth c - cells_for (length bytes))) (s.depth c)

  new_spare : (j : ℕ) → j < free - cells_for (length bytes) → IsOwned new owner depth (length new) j (walk new after j)
  unfolding owner depth
  new_spare j low =
      let n = cells_for (length bytes) in
      let at : walk new after j ≡ walk old first (n + j) = walk_new after j ∙ ap (λ c. walk old c j) f.goes_on ∙ walk_on old first n j in
      let o = s.spare (n + j) (omega arith) in
      let c = walk old first (n + j) in
      let P : ℕ → Type 0 = λ c. IsOwned new owner depth (length new) j c in
      subst P (sym at) (record {
        inside = subst (λ m. c < m) (sym f.count) o.inside;
        owner = eq_yes (s.owner c) (length old) (cond (nat_lt (s.depth c) n) first (length old)) (s.owner c) o.owner ∙ lt_no (s.depth c) n first (length old) (let d = o.depth in omega arith) ∙ sym f.count;
        depth = eq_yes (s.owner c) (length old) (cond (nat_lt (s.depth c) n) (s.depth c) (s.depth c - n)) (s.depth c) o.owner ∙ lt_no (s.depth c) n (s.depth c) (s.depth c - n) (let d = o.depth in omega arith) ∙ (let d = o.depth in omega arith);
      })

  new_owned : (head j : ℕ) → head < length new → len_at new head ≢ nothing → j < cells_for (len_at new head) → IsOwned new owner depth head j (walk new head j)
  unfolding owner depth
  new_owned head j inside has low =
      let n = cells_for (length bytes) in
      let P : ℕ → Type 0 = λ c. IsOwned new owner depth head j c in
      let within : head < length old = subst (λ m. head < m) f.count inside in
      elim (cases_eq head first) [
        | inl same ↦
            let fewer : j < n = subst (λ m. j < cells_for m) (ap (len_at new) same ∙ f.here) low in
            let o = s.spare j (let t = taken_free in omega arith) in
            let c = walk old first j in
            subst P (sym (walk_new head j ∙ ap (λ h. walk old h j) same)) (record {
              inside = subst (λ m. c < m) (sym f.count) o.inside;
              owner = eq_yes (s.owner c) (length old) (cond (nat_lt (s.depth c) n) first (length old)) (s.owner c) o.owner ∙ lt_yes (s.depth c) n first (length old) (let d = o.depth in omega arith) ∙ sym same;
              depth = eq_yes (s.owner c) (length old) (cond (nat_lt (s.depth c) n) (s.depth c) (s.depth c - n)) (s.depth c) o.owner ∙ lt_yes (s.depth c) n (s.depth c) (s.depth c - n) (let d = o.depth in omega arith) ∙ o.depth;
            })
        | inr other ↦
            let l : len_at new head ≡ len_at old head = f.others head other in
            let o = s.owned head j within (λ e. has (l ∙ e)) (subst (λ m. j < cells_for m) l low) in
            let c = walk old head j in
            let ne : s.owner c ≢ length old = let w = o.owner in omega arith in
            subst P (sym (walk_new head j)) (record {
              inside = subst (λ m. c < m) (sym f.count) o.inside;
              owner = eq_no (s.owner c) (length old) (cond (nat_lt (s.depth c) n) first (length old)) (s.owner c) ne ∙ o.owner;
              depth = eq_no (s.owner c) (length old) (cond (nat_lt (s.depth c) n) (s.depth c) (s.depth c - n)) (s.depth c) ne ∙ o.depth;
            })
      ]

  pub placed_sound : IsSound new after (free - cells_for (length bytes))
  placed_sound = record {
    owner = owner;
    depth = depth;
    spare = new_spare;
    owned = new_owned;
    full = f.full;
    small = let c = f.count in let m = s.small in omega arith;
    counted =
        let sums = sum_by-set cells_of (places_in old) first (Some bytes) None (let l = length-places old in let i = first_inside in omega arith) in
        let was : cells_of (get_or (places_in old) first None) ≡ 0 = ap cells_of vacant in
        let now = ap (sum_by cells_of) placed_places in
        let c = s.counted in let l = f.count in let t = taken_free in
        omega arith;
  }

-- ---- a place that is given back

module _ (old new : List Cell) (first free : ℕ) (s : IsSound old first free) (head : ℕ) (bytes : List ℕ) (st : IsStanding old head bytes) (f : Frees old new head first) where
  walk_avoid : (x j : ℕ) → ((i : ℕ) → i < j → walk old x i ≢ walk old head (cells_for (len_at old head) - 1)) → walk new x j ≡ walk old x j
  walk_avoid x zero h = refl
  walk_avoid x (suc j) h = ap (next_at new) (walk_avoid x j (λ i low. h i (omega arith))) ∙ f.inner (walk old x j) (h j (omega arith))

  -- the free chain, the place's chain up to its last cell, and the other chains are as before
  walk_spare : (j : ℕ) → j ≤ free → walk new first j ≡ walk old first j
  walk_spare j fits = walk_avoid first j (λ i low. not_spare old first free s head (cells_for (len_at old head) - 1) i st.inside st.has (omega arith) (omega arith))

  walk_head : (j : ℕ) → j < cells_for (len_at old head) → walk new head j ≡ walk old head j
  walk_head j low = walk_avoid head j (λ i less e. absurd (let same : i ≡ cells_for (len_at old head) - 1 = st.chain.apart i (cells_for (len_at old head) - 1) (omega arith) (omega arith) e in omega arith))

  walk_other : (k j : ℕ) → k < length old → len_at old k ≢ nothing → k ≢ head → j < cells_for (len_at old k) → walk new k j ≡ walk old k j
  walk_other k j inside has ne low = walk_avoid k j (λ i less. not_owned old first free s head k (cells_for (len_at old head) - 1) i st.inside st.has (omega arith) inside has (omega arith) (λ e. ne (sym e)))

  walk_joined : (j : ℕ) → j < free → walk new head (cells_for (len_at old head) + j) ≡ walk old first j
  walk_joined j low =
      let n = cells_for (len_at old head) in
      let step : walk new head n ≡ first = ap (walk new head) (one_less n (omega arith)) ∙ ap (next_at new) (walk_head (n - 1) (omega arith)) ∙ f.last in
      sym (walk_on new head n j) ∙ ap (λ c. walk new c j) step ∙ walk_spare j (omega arith)
    where
      one_less : (n : ℕ) → 0 < n → n ≡ suc (n - 1)
      one_less n h = omega arith

  byte_kept : (k i : ℕ) → k < length old → len_at old k ≢ nothing → k ≢ head → i < len_at old k → byte_at new k i ≡ byte_at old k i
  byte_kept k i inside has ne low = ap (λ c. get_or (load_at new c) (i % 56) 0) (walk_other k (i / 56) inside has ne (omega arith)) ∙ ap (λ xs. get_or xs (i % 56) 0) (f.load (walk old k (i / 56)))

  place_kept : (k : ℕ) → k < length old → k ≢ head → placed_in new k ≡ placed_in old k
  place_kept k inside ne =
      let l : len_at new k ≡ len_at old k = f.others k ne in
      elim (cases_eq (len_at old k) nothing) [
        | inl none ↦ no_place new k (l ∙ none) ∙ sym (no_place old k none)
        | inr has ↦ some_place new k (λ e. has (sym l ∙ e)) ∙ ap (λ n. Some (content new k n)) l ∙ ap Some (same_content new old k (len_at old k) (λ i low. byte_kept k i inside has ne low)) ∙ sym (some_place old k has)
      ]

  pub freed_places : places_in new ≡ set (places_in old) head None
  freed_places = places_set old new head None f.count st.inside (no_place new head f.here) place_kept

  free_owner : ℕ → ℕ
  free_owner c = cond (s.owner c == head) (length old) (s.owner c)

  free_depth : ℕ → ℕ
  free_depth c = cond (s.owner c == head) (s.depth c) (cond (s.owner c == length old) (s.depth c + cells_for (len_at old head)) (s.depth c))

  freed_spare : (j : ℕ) → j < free + cells_for (len_at old head) → IsOwned new free_owner free_depth (length new) j (walk new head j)
  unfolding free_owner free_depth
  freed_spare j low =
      let n = cells_for (len_at old head) in
      let P : ℕ → Type 0 = λ c. IsOwned new free_owner free_depth (length new) j c in
      elim (cases_lt j n) [
        | inl mine ↦
            let o = s.owned head j st.inside st.has mine in
            let c = walk old head j in
            subst P (sym (walk_head j mine)) (record {
              inside = subst (λ m. c < m) (sym f.count) o.inside;
              owner = eq_yes (s.owner c) head (length old) (s.owner c) o.owner ∙ sym f.count;
              depth = eq_yes (s.owner c) head (s.depth c) (cond (s.owner c == length old) (s.depth c + n) (s.depth c)) o.owner ∙ o.depth;
            })
        | inr past ↦
            let t = j - n in
            let back : n + t ≡ j = omega arith in
            let o = s.spare t (omega arith) in
            let c = walk old first t in
            let ne : s.owner c ≢ head = let w = o.owner in let i = st.inside in omega arith in
            subst P (sym (ap (walk new head) (sym back) ∙ walk_joined t (omega arith))) (record {
              inside = subst (λ m. c < m) (sym f.count) o.inside;
              owner = eq_no (s.owner c) head (length old) (s.owner c) ne ∙ o.owner ∙ sym f.count;
              depth = eq_no (s.owner c) head (s.depth c) (cond (s.owner c == length old) (s.depth c + n) (s.depth c)) ne ∙ eq_yes (s.owner c) (length old) (s.depth c + n) (s.depth c) o.owner ∙ (let d = o.depth in omega arith);
            })
      ]

  freed_owned : (k j : ℕ) → k < length new → len_at new k ≢ nothing → j < cells_for (len_at new k) → IsOwned new free_owner free_depth k j (walk new k j)
  unfolding free_owner free_depth
  freed_owned k j inside has low =
      let n = cells_for (len_at old head) in
      let P : ℕ → Type 0 = λ c. IsOwned new free_owner free_depth k j c in
      let within : k < length old = subst (λ m. k < m) f.count inside in
      elim (cases_eq k head) [
        | inl same ↦ absurd (has (ap (len_at new) same ∙ f.here))
        | inr other ↦
            let l : len_at new k ≡ len_at old k = f.others k other in
            let stood : len_at old k ≢ nothing = λ e. has (l ∙ e) in
            let low_old : j < cells_for (len_at old k) = subst (λ m. j < cells_for m) l low in
            let o = s.owned k j within stood low_old in
            let c = walk old k j in
            let ne : s.owner c ≢ head = let w = o.owner in omega arith in
            let nf : s.owner c ≢ length old = let w = o.owner in omega arith in
            subst P (sym (walk_other k j within stood other low_old)) (record {
              inside = subst (λ m. c < m) (sym f.count) o.inside;
              owner = eq_no (s.owner c) head (length old) (s.owner c) ne ∙ o.owner;
              depth = eq_no (s.owner c) head (s.depth c) (cond (s.owner c == length old) (s.depth c + n) (s.depth c)) ne ∙ eq_no (s.owner c) (length old) (s.depth c + n) (s.depth c) nf ∙ o.depth;
            })
      ]

  -- the cells of the place were counted
  freed_sum : free + cells_for (len_at old head) + sum_by cells_of (places_in new) ≡ length new
  freed_sum =
      let sums = sum_by-set cells_of (places_in old) head None None (let l = length-places old in let i = st.inside in omega arith) in
      let was : cells_of (get_or (places_in old) head None) ≡ cells_for (len_at old head) = ap cells_of (get_or-places old head st.inside ∙ some_place old head st.has) ∙ ap cells_for (length-content old head (len_at old head)) in
      let now = ap (sum_by cells_of) freed_places in
      let c = s.counted in let l = f.count in
      omega arith

  pub freed_sound : IsSound new head (free + cells_for (len_at old head))
  freed_sound = record {
    owner = free_owner;
    depth = free_depth;
    spare = freed_spare;
    owned = freed_owned;
    full = λ k low. ap length (f.load k) ∙ s.full k (subst (λ m. k < m) f.count low);
    small = let c = f.count in let m = s.small in omega arith;
    counted = freed_sum;
  }

-- ---- a place that is written over

pub get_or-overwritten : (at : ℕ) (bytes old : List ℕ) (i : ℕ) → at + length bytes ≤ length old → i < length old → get_or (overwritten at bytes old) i 0 ≡ written at bytes (λ k. get_or old k 0) i
get_or-overwritten at bytes old i fits low =
    let front = take at old in
    let lf : length front ≡ at = length-take-le at old (omega arith) in
    let lb : length (front ++ bytes) ≡ at + length bytes = length-append front bytes ∙ ap (λ n. n + length bytes) lf in
    elim (cases_lt i (at + length bytes)) [
      | inr past ↦ get_or-append_right (front ++ bytes) (drop (at + length bytes) old) (at + length bytes) i 0 lb past ∙ get_or-drop (at + length bytes) old (i - (at + length bytes)) 0 ∙ ap (λ n. get_or old n 0) (omega arith) ∙ sym (written_out at bytes (λ k. get_or old k 0) i (inr past))
      | inl reached ↦ get_or_append_left (front ++ bytes) (drop (at + length bytes) old) 0 i (omega arith) ∙ elim (cases_lt i at) [
        | inl before ↦ get_or_append_left front bytes 0 i (omega arith) ∙ get_or-take at old i 0 before ∙ sym (written_out at bytes (λ k. get_or old k 0) i (inl before))
        | inr within ↦ get_or-append_right front bytes at i 0 lf within ∙ sym (written_in at bytes (λ k. get_or old k 0) i within reached)
      ]
    ]

pub length-overwritten : (at : ℕ) (bytes old : List ℕ) → at + length bytes ≤ length old → length (overwritten at bytes old) ≡ length old
length-overwritten at bytes old fits =
    length-append (take at old ++ bytes) (drop (at + length bytes) old) ∙ (let a = length-append (take at old) bytes in let t = length-take-le at old (omega arith) in let d = length-drop (at + length bytes) old in omega arith)

module _ (old new : List Cell) (first free : ℕ) (s : IsSound old first free) (head : ℕ) (was : List ℕ) (st : IsStanding old head was) (at : ℕ) (bytes : List ℕ) (fits : at + length bytes ≤ length was) (kept : KeepsChains old new) (done : (m i : ℕ) → IsChain old head m → i < 56 * m → byte_at new head i ≡ written at bytes (byte_at old head) i) (frame : (k : ℕ) → ((j : ℕ) → j < cells_for (at + length bytes) → walk old head j ≢ k) → load_at new k ≡ load_at old k) where
  walk_same : (k j : ℕ) → walk new k j ≡ walk old k j
  walk_same k j = walk_kept old new kept.next k j

  byte_here : (i : ℕ) → i < length was → byte_at new head i ≡ get_or (overwritten at bytes was) i 0
  byte_here i low =
      let l = st.long in
      let old_byte : (k : ℕ) → k < length was → byte_at old head k ≡ get_or was k 0 = λ k less. sym (ap (λ xs. get_or xs k 0) st.is ∙ get_or-content old head (len_at old head) k (omega arith)) in
      done (cells_for (len_at old head)) i st.chain (omega arith) ∙ written_same (byte_at old head) (λ k. get_or was k 0) i (old_byte i low) ∙ sym (get_or-overwritten at bytes was i fits low)
    where
      written_same : (f g : ℕ → ℕ) (i : ℕ) → f i ≡ g i → written at bytes f i ≡ written at bytes g i
      written_same f g i e = ap (λ b. cond (nat_le at i && nat_lt i (at + length bytes)) (get_or bytes (i - at) 0) b) e

  byte_there : (k i : ℕ) → k < length old → len_at old k ≢ nothing → k ≢ head → i < len_at old k → byte_at new k i ≡ byte_at old k i
  byte_there k i inside has ne low = ap (λ c. get_or (load_at new c) (i % 56) 0) (walk_same k (i / 56)) ∙ ap (λ xs. get_or xs (i % 56) 0) (frame (walk old k (i / 56)) (λ j less. let l = st.long in not_owned old first free s k head (i / 56) j inside has (omega arith) st.inside st.has (omega arith) ne))

  set_here : placed_in new head ≡ Some (overwritten at bytes was)
  set_here =
      let l : len_at new head ≡ length (overwritten at bytes was) = kept.len head ∙ sym (length-overwritten at bytes was fits ∙ st.long) in
      some_place new head (λ e. st.has (sym (kept.len head) ∙ e)) ∙ ap (λ n. Some (content new head n)) l ∙ ap Some (is_content new head (overwritten at bytes was) (λ i low. byte_here i (subst (λ n. i < n) (length-overwritten at bytes was fits) low)))

  set_there : (k : ℕ) → k < length old → k ≢ head → placed_in new k ≡ placed_in old k
  set_there k inside ne =
      let l : len_at new k ≡ len_at old k = kept.len k in
      elim (cases_eq (len_at old k) nothing) [
        | inl none ↦ no_place new k (l ∙ none) ∙ sym (no_place old k none)
        | inr has ↦ some_place new k (λ e. has (sym l ∙ e)) ∙ ap (λ n. Some (content new k n)) l ∙ ap Some (same_content new old k (len_at old k) (λ i low. byte_there k i inside has ne low)) ∙ sym (some_place old k has)
      ]

  pub set_places : places_in new ≡ set (places_in old) head (Some (overwritten at bytes was))
  set_places = places_set old new head (Some (overwritten at bytes was)) kept.count st.inside set_here set_there

  set_owned : (k j c : ℕ) → c ≡ walk old k j → IsOwned old s.owner s.depth k j c → IsOwned new s.owner s.depth k j (walk new k j)
  set_owned k j c e o = let P : ℕ → Type 0 = λ c. IsOwned new s.owner s.depth k j c in
      subst P (e ∙ sym (walk_same k j)) (record { inside = subst (λ m. c < m) (sym kept.count) o.inside; owner = o.owner; depth = o.depth })

  set_spare : (j : ℕ) → IsOwned old s.owner s.depth (length old) j (walk old first j) → IsOwned new s.owner s.depth (length new) j (walk new first j)
  set_spare j o = let P : ℕ → Type 0 = λ c. IsOwned new s.owner s.depth (length new) j c in
      subst P (sym (walk_same first j)) (record { inside = subst (λ m. walk old first j < m) (sym kept.count) o.inside; owner = o.owner ∙ sym kept.count; depth = o.depth })

  pub set_sound : IsSound new first free
  set_sound = record {
    owner = s.owner;
    depth = s.depth;
    spare = λ j low. set_spare j (s.spare j low);
    owned = λ k j inside has low. set_owned k j (walk old k j) refl (s.owned k j (subst (λ m. k < m) kept.count inside) (λ e. has (kept.len k ∙ e)) (subst (λ m. j < cells_for m) (kept.len k) low));
    full = kept.full s.full;
    small = let c = kept.count in let m = s.small in omega arith;
    counted =
        let sums = sum_by-set cells_of (places_in old) head (Some (overwritten at bytes was)) None (let l = length-places old in let i = st.inside in omega arith) in
        let before : cells_of (get_or (places_in old) head None) ≡ cells_for (len_at old head) = ap cells_of (get_or-places old head st.inside ∙ some_place old head st.has) ∙ ap cells_for (length-content old head (len_at old head)) in
        let after : cells_for (length (overwritten at bytes was)) ≡ cells_for (len_at old head) = ap cells_for (length-overwritten at bytes was fits ∙ st.long) in
        let now = ap (sum_by cells_of) set_places in
        let c = s.counted in let l = kept.count in
        omega arith;
  }
