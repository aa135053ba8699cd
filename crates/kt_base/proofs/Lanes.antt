-- Bytes of which a vector tells whether one is escaped.
use Rattle.std.proofs.Common.{◌≡◌, ℕ, zero, suc, ◌+◌, ◌%◌, ◌^◌, ◌<◌, ◌≤◌, Bool, false, not, cond, eqb, ltb, ◌==◌, List, [], ◌∷◌, length, drop, get_or, map, replicate, bit_or, Fits, w8, refl, sym, ap, ap₂, ◌∙◌, arith, zero-add}
use Rattle.std.proofs.lemmas.Bool.{agree_below_at, eqb-true, OnTrue_from}
use Rattle.std.proofs.lemmas.List.{length-map}
use Rattle.std.proofs.lemmas.Simd.{length-chunk, chunk-fits, zip2_splat, zip2_of_maps, map-map, mask_l-mod, none_from_empty_mask}
use Rattle.std.specs.Bool.{OnTrue}
use Rattle.std.specs.List.{position_or_len}
use lib.Lanes.{chunk, mask_l, zip2, top, Each1}
use Rattle.kt_base.specs.Literals.{is_escaped, PlainBetween}

abbrev hit : ℕ → ℕ → ℕ
hit a b = cond (eqb a b) 255 0

abbrev below : ℕ → ℕ → ℕ
below a b = cond (ltb a b) 255 0

-- a lane of the four tests
abbrev marked : ℕ → ℕ
marked b = bit_or (bit_or (bit_or (hit b 34) (hit b 92)) (below b 32)) (hit b 127)

each_byte : (v : List ℕ) → Each1 (Fits w8) v → map (λ b. top 7 (marked b)) v ≡ map is_escaped v
each_byte [] fits = refl
each_byte (b ∷ v) fits = ap₂ (λ x xs. x ∷ xs) (agree_below_at (λ x. top 7 (marked x)) is_escaped 256 b refl fits.0.fits) (each_byte v fits.1)

-- where no lane is marked, no byte is escaped
pub plain_lanes : (bytes : List ℕ) (at : ℕ) → at + 16 ≤ length bytes → ((k : ℕ) → Fits w8 (get_or bytes k 0))
    → OnTrue (mask_l (map (top 7) (zip2 bit_or (zip2 bit_or (zip2 bit_or (zip2 hit (chunk at 16 bytes) (replicate 16 34)) (zip2 hit (chunk at 16 bytes) (replicate 16 92))) (zip2 below (chunk at 16 bytes) (replicate 16 32))) (zip2 hit (chunk at 16 bytes) (replicate 16 127)))) % 2 ^ 64 == 0)
    (PlainBetween bytes at (at + 16))
plain_lanes bytes at room fits =
    let v : List ℕ = chunk at 16 bytes in
    let long : length v ≡ 16 = length-chunk at 16 bytes room in
    let lanes = zip2_of_maps bit_or _ _ v (zip2_of_maps bit_or _ _ v (zip2_of_maps bit_or _ _ v (zip2_splat hit v 16 34 long) (zip2_splat hit v 16 92 long)) (zip2_splat below v 16 32 long)) (zip2_splat hit v 16 127 long) in
    let tests = ap (map (top 7)) lanes ∙ (map-map (top 7) marked v ∙ each_byte v (chunk-fits w8 at 16 bytes fits)) in
    let mask = ap (λ l. mask_l l % 2 ^ 64) tests ∙ mask_l-mod (map is_escaped v) 64 (omega (arith, length-map v is_escaped, long)) in
    OnTrue_from _ _ (λ none. none_from_empty_mask is_escaped bytes at 16 0 room (sym mask ∙ eqb-true _ 0 none))

-- behind bytes of which none passes, the first that passes is looked for
pub first_behind : (p : ℕ → Bool) (xs : List ℕ) (n : ℕ) → n ≤ length xs → ((k : ℕ) → 0 ≤ k → k < n → p (get_or xs k 0) ≡ false) → position_or_len p xs ≡ n + position_or_len p (drop n xs)
first_behind p xs zero room none = sym (zero-add (position_or_len p xs))
first_behind p [] (suc n) room none = absurd (omega arith)
first_behind p (x ∷ xs) (suc n) room none =
    let later : position_or_len p xs ≡ n + position_or_len p (drop n xs) = first_behind p xs n (omega arith) (λ k low high. none (suc k) (omega arith) (omega arith)) in
    let here : position_or_len p (x ∷ xs) ≡ 1 + position_or_len p xs = ap (λ t. cond (not t) (1 + position_or_len p xs) 0) (none 0 (omega arith) (omega arith)) in
    here ∙ omega arith
