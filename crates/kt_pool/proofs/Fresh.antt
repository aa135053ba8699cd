-- A free cell more, in front of the others.
use Rattle.std.proofs.Common.{◌≡◌, ◌≢◌, ℕ, zero, suc, ◌+◌, ◌/◌, ◌%◌, ◌<◌, inl, inr, cond, List, [], ◌∷◌, ◌++◌, length, get_or, refl, sym, ap, ◌∙◌, arith, subst, Some, None}
use Rattle.std.specs.Prelude.{◌==◌}
use Rattle.std.specs.List.{sum_by}
use Rattle.std.proofs.lemmas.Bool.{cases_eq}
use Rattle.std.proofs.lemmas.List.{get_or_append_left, get_or_push, get_or_past, ext_get_or, length_push}
use Rattle.kt_pool.specs.Contents.{cells_for, cells_of}
use Rattle.kt_pool.specs.Cells.{blank, nothing, walk, next_at, len_at, load_at, byte_at, content}
use Rattle.kt_pool.specs.Sound.{placed_in, places_in, padded, IsOwned, IsSound}
use Rattle.kt_pool.specs.declared.cells.Cell.{Cell}
use Rattle.kt_pool.proofs.Along.{walk_next}
use Rattle.kt_pool.proofs.Changes.{eq_yes, eq_no}
use Rattle.kt_pool.proofs.Padded.{length-padded, get_or-padded, sum-padded}
use Rattle.kt_pool.proofs.Views.{length-places, get_or-places, no_place, some_place, same_content}

pub no_cells : IsSound [] 0 0
no_cells = record {
  owner = λ c. c;
  depth = λ c. c;
  spare = λ j low. absurd (omega arith);
  owned = λ head j inside has low. absurd (omega arith);
  full = λ k low. absurd (omega arith);
  small = omega arith;
  counted = refl;
}

module _ (cells : List Cell) (first free : ℕ) (s : IsSound cells first free) (c : Cell) (goes : c.next ≡ first) (empty : c.len ≡ nothing) (whole : length c.bytes ≡ 56) (room : length cells < 76_695_844) where
  abbrev pub more : List Cell
  more = cells ++ c ∷ []

  longer : length more ≡ length cells + 1
  longer = length_push cells c

  at_old : (k : ℕ) → k < length cells → get_or more k blank ≡ get_or cells k blank
  at_old k low = get_or_append_left cells (c ∷ []) blank k low

  at_new : get_or more (length cells) blank ≡ c
  at_new = get_or_push cells c blank (length cells) refl

  walk_old : (x j : ℕ) → ((i : ℕ) → i < j → walk cells x i < length cells) → walk more x j ≡ walk cells x j
  walk_old x zero h = refl
  walk_old x (suc j) h = ap (next_at more) (walk_old x j (λ i low. h i (omega arith))) ∙ ap (λ (c : Cell). c.next) (at_old (walk cells x j) (h j (omega arith)))

  walk_new : (j : ℕ) → j < free → walk more (length cells) (suc j) ≡ walk cells first j
  walk_new j low =
      let step : next_at more (length cells) ≡ first = ap (λ (c : Cell). c.next) at_new ∙ goes in
      sym (walk_next more (length cells) j) ∙ ap (λ x. walk more x j) step ∙ walk_old first j (λ i less. (s.spare i (omega arith)).inside)

  walk_owned : (head j : ℕ) → head < length cells → len_at cells head ≢ nothing → j < cells_for (len_at cells head) → walk more head j ≡ walk cells head j
  walk_owned head j inside has low = walk_old head j (λ i less. (s.owned head i inside has (omega arith)).inside)

  len_old : (k : ℕ) → k < length cells → len_at more k ≡ len_at cells k
  len_old k low = ap (λ (c : Cell). c.len) (at_old k low)

  len_new : len_at more (length cells) ≡ nothing
  len_new = ap (λ (c : Cell). c.len) at_new ∙ empty

  owner : ℕ → ℕ
  owner k = cond (k == length cells) (length more) (cond (s.owner k == length cells) (length more) (s.owner k))

  depth : ℕ → ℕ
  depth k = cond (k == length cells) 0 (cond (s.owner k == length cells) (suc (s.depth k)) (s.depth k))

  more_spare : (j : ℕ) → j < suc free → IsOwned more owner depth (length more) j (walk more (length cells) j)
  unfolding owner depth
  more_spare zero low = record {
    inside = let l = longer in omega arith;
    owner = eq_yes (length cells) (length cells) (length more) (cond (s.owner (length cells) == length cells) (length more) (s.owner (length cells))) refl;
    depth = eq_yes (length cells) (length cells) 0 (cond (s.owner (length cells) == length cells) (suc (s.depth (length cells))) (s.depth (length cells))) refl;
  }
  more_spare (suc j) low =
      let o = s.spare j (omega arith) in
      let k = walk cells first j in
      let ne : k ≢ length cells = let i = o.inside in omega arith in
      let P : ℕ → Type 0 = λ k. IsOwned more owner depth (length more) (suc j) k in
      subst P (sym (walk_new j (omega arith))) (record {
        inside = let i = o.inside in let l = longer in omega arith;
        owner = eq_no k (length cells) (length more) (cond (s.owner k == length cells) (length more) (s.owner k)) ne ∙ eq_yes (s.owner k) (length cells) (length more) (s.owner k) o.owner;
        depth = eq_no k (length cells) 0 (cond (s.owner k == length cells) (suc (s.depth k)) (s.depth k)) ne ∙ eq_yes (s.owner k) (length cells) (suc (s.depth k)) (s.depth k) o.owner ∙ ap suc o.depth;
      })

  more_owned : (head j : ℕ) → head < length more → len_at more head ≢ nothing → j < cells_for (len_at more head) → IsOwned more owner depth head j (walk more head j)
  unfolding owner depth
  more_owned head j inside has low = elim (cases_eq head (length cells)) [
    | inl same ↦ absurd (has (ap (len_at more) same ∙ len_new))
    | inr other ↦
        let within : head < length cells = let l = longer in omega arith in
        let l : len_at more head ≡ len_at cells head = len_old head within in
        let stood : len_at cells head ≢ nothing = λ e. has (l ∙ e) in
        let fewer : j < cells_for (len_at cells head) = subst (λ m. j < cells_for m) l low in
        let o = s.owned head j within stood fewer in
        let k = walk cells head j in
        let ne : k ≢ length cells = let i = o.inside in omega arith in
        let nf : s.owner k ≢ length cells = let w = o.owner in omega arith in
        let P : ℕ → Type 0 = λ k. IsOwned more owner depth head j k in
        subst P (sym (walk_owned head j within stood fewer)) (record {
          inside = let i = o.inside in let l = longer in omega arith;
          owner = eq_no k (length cells) (length more) (cond (s.owner k == length cells) (length more) (s.owner k)) ne ∙ eq_no (s.owner k) (length cells) (length more) (s.owner k) nf ∙ o.owner;
          depth = eq_no k (length cells) 0 (cond (s.owner k == length cells) (suc (s.depth k)) (s.depth k)) ne ∙ eq_no (s.owner k) (length cells) (suc (s.depth k)) (s.depth k) nf ∙ o.depth;
        })
  ]

  more_full : (k : ℕ) → k < length more → length (load_at more k) ≡ 56
  more_full k low = elim (cases_eq k (length cells)) [
    | inl same ↦ ap (λ k. length (load_at more k)) same ∙ ap (λ (c : Cell). length c.bytes) at_new ∙ whole
    | inr other ↦ let within : k < length cells = let l = longer in omega arith in ap (λ (c : Cell). length c.bytes) (at_old k within) ∙ s.full k within
  ]

  byte_old : (k i : ℕ) → k < length cells → len_at cells k ≢ nothing → i < len_at cells k → byte_at more k i ≡ byte_at cells k i
  byte_old k i inside has low =
      let o = s.owned k (i / 56) inside has (omega arith) in
      ap (λ w. get_or (load_at more w) (i % 56) 0) (walk_owned k (i / 56) inside has (omega arith)) ∙ ap (λ (c : Cell). get_or c.bytes (i % 56) 0) (at_old (walk cells k (i / 56)) o.inside)

  place_old : (k : ℕ) → k < length cells → placed_in more k ≡ placed_in cells k
  place_old k inside =
      let l : len_at more k ≡ len_at cells k = len_old k inside in
      elim (cases_eq (len_at cells k) nothing) [
        | inl none ↦ no_place more k (l ∙ none) ∙ sym (no_place cells k none)
        | inr has ↦ some_place more k (λ e. has (sym l ∙ e)) ∙ ap (λ n. Some (content more k n)) l ∙ ap Some (same_content more cells k (len_at cells k) (λ i low. byte_old k i inside has low)) ∙ sym (some_place cells k has)
      ]

  -- nothing is placed there
  pub more_places : places_in more ≡ padded (places_in cells) 1
  more_places =
      ext_get_or None (places_in more) (padded (places_in cells) 1) (length-places more ∙ longer ∙ sym (length-padded (places_in cells) 1 ∙ ap (λ n. n + 1) (length-places cells))) (λ k low.
      let l : k < length more = subst (λ n. k < n) (length-places more) low in
      get_or-places more k l ∙ elim (cases_eq k (length cells)) [
        | inl same ↦ no_place more k (ap (len_at more) same ∙ len_new) ∙ sym (get_or-padded (places_in cells) 1 k ∙ get_or_past (places_in cells) k None (let n = length-places cells in omega arith))
        | inr other ↦ let within : k < length cells = let n = longer in omega arith in place_old k within ∙ sym (get_or-padded (places_in cells) 1 k ∙ get_or-places cells k within)
      ])

  pub more_sound : IsSound more (length cells) (suc free)
  more_sound = record {
    owner = owner;
    depth = depth;
    spare = more_spare;
    owned = more_owned;
    full = more_full;
    small = let l = longer in omega arith;
    counted = let e = ap (sum_by cells_of) more_places in let p = sum-padded (places_in cells) 1 in let l = longer in let k = s.counted in omega arith;
  }

-- a list of cells and a free one behind it
pub pushed_sound : (cells new : List Cell) (first free : ℕ) (c : Cell) → IsSound cells first free → new ≡ cells ++ c ∷ [] → c.next ≡ first → c.len ≡ nothing → length c.bytes ≡ 56 → length cells < 76_695_844 → IsSound new (length cells) (free + 1)
pushed_sound cells new first free c s e goes empty whole room =
    let one : suc free ≡ free + 1 = omega arith in
    subst (λ (l : List Cell). IsSound l (length cells) (free + 1)) (sym e) (subst (IsSound (cells ++ c ∷ []) (length cells)) one (more_sound cells first free s c goes empty whole room))

pub pushed_places : (cells new : List Cell) (first free : ℕ) (c : Cell) → IsSound cells first free → new ≡ cells ++ c ∷ [] → c.next ≡ first → c.len ≡ nothing → length c.bytes ≡ 56 → length cells < 76_695_844 → places_in new ≡ padded (places_in cells) 1
pushed_places cells new first free c s e goes empty whole room = ap places_in e ∙ more_places cells first free s c goes empty whole room
