-- A place that is made, in cells of which some were made for it.
use Rattle.std.proofs.Common.{◌≡◌, ℕ, ◌+◌, ◌-◌, ◌<◌, ◌≤◌, ◌^◌, List, ◌++◌, length, take, drop, max, sym, ap, ◌∙◌, arith, subst, Some, None}
use Rattle.kt_pool.specs.Contents.{Contents, cells_for, at_cell, with_place}
use Rattle.kt_pool.specs.Cells.{IsChain, Fills}
use Rattle.kt_pool.specs.Sound.{places_in, padded, IsSound, IsPool}
use Rattle.kt_pool.specs.declared.cells.Cell.{Cell}
use Rattle.kt_pool.proofs.Methods.{back, placed_all, placed_long, placed_view, placed_vacant, placed_inside}
use Rattle.kt_pool.proofs.Padded.{length-padded, made_view}
use Rattle.kt_pool.proofs.Views.{length-places, chain_spare}

module _ (old : List Cell) (was spare size capacity reserved : ℕ) (p : IsPool old was spare size capacity reserved) (pool : Contents) (e : record { places = padded (places_in old) (size - length old); reserved = reserved } ≡ pool) (taken : ℕ) (enough : taken ≤ pool.reserved) where
  promised : taken ≤ spare + (size - length old)
  promised = let r = ap (λ (p : Contents). p.reserved) e in let q = p.promised in omega arith

  pub taken_fits : taken < 2 ^ 32
  taken_fits = let q = promised in let c = p.sound.counted in let u = p.used in let m = p.small in omega arith

  pub room_there : length old + (taken - spare) ≤ capacity
  room_there = let q = promised in let u = p.used in let r = p.room in omega arith

  pub small_there : length old + (taken - spare) ≤ 76_695_844
  small_there = let q = promised in let u = p.used in let m = p.small in omega arith

  module _ (made : List Cell) (first : ℕ) (sound : IsSound made first (max spare taken)) (places : places_in made ≡ padded (places_in old) (taken - spare)) where
    count : length made ≡ length old + (taken - spare)
    count = sym (length-places made) ∙ ap length places ∙ length-padded (places_in old) (taken - spare) ∙ ap (λ n. n + (taken - spare)) (length-places old)

    fits : length made ≤ size
    fits = let c = count in let q = promised in let u = p.used in omega arith

    pub view : record { places = padded (places_in made) (size - length made); reserved = reserved } ≡ pool
    view = ap (λ ps. record { places = ps; reserved = reserved }) (made_view (places_in old) (places_in made) size (length old) (length made) (places ∙ ap (padded (places_in old)) (let c = count in omega arith)) (let c = count in omega arith) fits) ∙ e

    pub chain : IsChain made first taken
    chain = chain_spare made first (max spare taken) sound taken (omega arith)

    module _ (n room : ℕ) (long : n ≡ length made) (same : room ≡ capacity) (lent new : List Cell) (value : lent ≡ made) (bytes : List ℕ) (is : taken ≡ cells_for (length bytes)) (after : ℕ) (fl : Fills lent new first bytes after) where
      within : cells_for (length bytes) ≤ max spare taken
      within = omega arith

      pub all_placed : (left : ℕ) → left ≡ spare - taken → IsPool (back made n first (max spare taken) size reserved sound long pool view lent value new) after left size room (reserved - taken)
      all_placed left e =
          let l = placed_long made n first (max spare taken) size reserved sound long pool view lent value new bytes after taken within is fl in
          let rest : max spare taken - taken ≡ left = omega arith in
          record {
            sound = subst (λ k. IsSound (take n (new ++ drop (length new) made)) after k) rest (placed_all made n first (max spare taken) size reserved sound long pool view lent value new bytes after taken within is fl);
            used = let f = fits in omega arith;
            room = let r = p.room in omega arith;
            small = p.small;
            promised = let c = count in let q = promised in let d = p.promised in omega arith;
          }

      pub view_placed : record { places = padded (places_in (back made n first (max spare taken) size reserved sound long pool view lent value new)) (size - length (back made n first (max spare taken) size reserved sound long pool view lent value new)); reserved = reserved - taken } ≡ with_place pool first (Some bytes) (pool.reserved - cells_for (length bytes))
      view_placed = placed_view made n first (max spare taken) size reserved sound long pool view lent value new bytes after taken within is fl

      pub vacant_there : at_cell pool first ≡ None
      vacant_there = placed_vacant made n first (max spare taken) size reserved sound long pool view lent value new bytes after taken within is fl

      pub inside_there : first < length pool.places
      inside_there = placed_inside made n first (max spare taken) size reserved sound long pool view lent value new bytes after taken within is fl
