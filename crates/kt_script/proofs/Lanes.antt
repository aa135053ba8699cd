-- Bytes of which a vector tells where the first of two stands.
use Rattle.std.proofs.Common.{◌≡◌, ℕ, ◌+◌, ◌%◌, ◌^◌, ◌<◌, ◌≤◌, Bool, true, false, not, cond, eqb, List, [], ◌∷◌, length, get_or, map, replicate, bit_or, refl, sym, ap, ap₂, ◌∙◌, arith}
use Rattle.std.specs.Prelude.{◌||◌}
use Rattle.std.specs.List.{prefix_len}
use Rattle.std.proofs.lemmas.List.{length-map}
use Rattle.std.proofs.lemmas.Simd.{length-chunk, zip2_splat, zip2_of_maps, map-map, mask_l-mod, none_from_empty_mask, trailing_mask_l}
use lib.Count.{count_trailing_zeros}
use lib.Lanes.{chunk, mask_l, zip2, top}
use Rattle.memchr.specs.Find.{is_byte2}

abbrev hit : ℕ → ℕ → ℕ
hit a b = cond (eqb a b) 255 0

-- a lane of the two tests
abbrev marked : ℕ → ℕ → ℕ → ℕ
marked first second b = bit_or (hit b first) (hit b second)

one_lane : (s t : Bool) → top 7 (bit_or (cond s 255 0) (cond t 255 0)) ≡ (s || t)
one_lane true true = refl
one_lane true false = refl
one_lane false true = refl
one_lane false false = refl

each_lane : (first second : ℕ) (v : List ℕ) → map (λ b. top 7 (marked first second b)) v ≡ map (is_byte2 first second) v
each_lane first second [] = refl
each_lane first second (b ∷ v) = ap₂ (λ x xs. x ∷ xs) (one_lane (eqb b first) (eqb b second)) (each_lane first second v)

-- the mask of sixteen bytes has a bit for each that is one of the two
pub mask_is : (first second : ℕ) (text : List ℕ) (at : ℕ) → at + 16 ≤ length text
    → mask_l (map (top 7) (zip2 bit_or (zip2 hit (chunk at 16 text) (replicate 16 first)) (zip2 hit (chunk at 16 text) (replicate 16 second)))) % 2 ^ 64 ≡ mask_l (map (is_byte2 first second) (chunk at 16 text))
mask_is first second text at room =
    let v : List ℕ = chunk at 16 text in
    let long : length v ≡ 16 = length-chunk at 16 text room in
    let lanes = zip2_of_maps bit_or _ _ v (zip2_splat hit v 16 first long) (zip2_splat hit v 16 second long) in
    let tests = ap (map (top 7)) lanes ∙ (map-map (top 7) (marked first second) v ∙ each_lane first second v) in
    ap (λ l. mask_l l % 2 ^ 64) tests ∙ mask_l-mod (map (is_byte2 first second) v) 64 (omega (arith, length-map v (is_byte2 first second), long))

-- where no bit is set, none of the bytes is
pub none_set : (first second : ℕ) (text : List ℕ) (at marks : ℕ) → at + 16 ≤ length text → marks ≡ mask_l (map (is_byte2 first second) (chunk at 16 text)) → marks ≡ 0
    → (k : ℕ) → at ≤ k → k < at + 16 → is_byte2 first second (get_or text k 0) ≡ false
none_set first second text at marks room is empty = none_from_empty_mask (is_byte2 first second) text at 16 0 room (sym is ∙ empty)

-- else the lowest bit tells how many stand before the first that is
pub lowest_set : (first second : ℕ) (text : List ℕ) (at marks : ℕ) → at + 16 ≤ length text → marks ≡ mask_l (map (is_byte2 first second) (chunk at 16 text)) → (marks ≡ 0 → ⊥)
    → count_trailing_zeros 64 marks ≡ prefix_len (λ x. not (is_byte2 first second x)) (chunk at 16 text)
lowest_set first second text at marks room is some =
    let test = is_byte2 first second in
    let long : length (chunk at 16 text) ≡ 16 = length-chunk at 16 text room in
    ap (count_trailing_zeros 64) is ∙ trailing_mask_l test 64 (chunk at 16 text) (omega arith) (omega (arith, is, some))
