-- What a source and a clock in memory tell after a call.
use Rattle.std.proofs.Common.{◌≡◌, ℕ, ◌+◌, ◌-◌, ◌^◌, ◌<◌, min, Bool, true, false, List, [], ◌∷◌, ◌++◌, length, take, drop, Some, refl, sym, ap, ◌∙◌, arith, add-one}
use Rattle.std.proofs.lemmas.List.{take-append-drop, drop-drop, nil_from_length}
use Rattle.std.proofs.lemmas.Bool.{ltb-true, lt-ltb}
use Rattle.std.specs.Io.KnownBytes.{Consumes, IsAtEnd}
use Rattle.kt_base.specs.Causes.{Grows}
use Rattle.kt_base.specs.Readings.{reading, first_readings, told_if, counted_readings}

-- the bytes after the first n of those from a place on
pub source_gives : (bytes into : List ℕ) (at n : ℕ) → n ≡ min (length (drop at bytes)) (length into) → take n into ≡ take n (drop at bytes)
    → Consumes (Some (drop at bytes)) (Some (drop (at + n) bytes)) (take n into) × (n ≡ 0 → 0 < length into → IsAtEnd (Some (drop (at + n) bytes)))
source_gives bytes into at n count front = (
  sym (take-append-drop n (drop at bytes)) ∙ ap (λ xs. take n (drop at bytes) ++ xs) (drop-drop n at bytes) ∙ ap (λ xs. xs ++ drop (at + n) bytes) (sym front),
  λ none some. sym (drop-drop n at bytes) ∙ ap (λ k. drop k (drop at bytes)) none ∙ nil_from_length (drop at bytes) (omega (arith, count, none, some)),
)

told_more : (was is : Bool) (olds news : List ℕ) (reading : ℕ) → (is ≡ true → (was ≡ true) × (news ≡ olds ++ reading ∷ [])) → Grows (told_if was olds) (told_if is news) (reading ∷ [])
told_more true true olds news reading more = (more refl).1
told_more true false olds news reading more = tt
told_more false true olds news reading more = let was : false ≡ true = (more refl).0 in absurd cc
told_more false false olds news reading more = tt

first_more : (readings : List ℕ) (n : ℕ) → first_readings readings (n + 1) ≡ first_readings readings n ++ reading readings n ∷ []
first_more readings n = ap (first_readings readings) (add-one n)

-- one reading more is told, until the count ends
pub one_more : (readings : List ℕ) (n next r : ℕ) → next ≡ min (n + 1) (2 ^ 64 - 1) → r ≡ reading readings n → Grows (counted_readings readings n) (counted_readings readings next) (r ∷ [])
one_more readings n next r count given = told_more _ _ _ _ r (λ counted.
    let below : next < 2 ^ 64 - 1 = ltb-true next (2 ^ 64 - 1) counted in
    let is : next ≡ n + 1 = omega (arith, count, below) in
    (lt-ltb n (2 ^ 64 - 1) (omega (arith, below, is)), ap (first_readings readings) is ∙ first_more readings n ∙ ap (λ x. first_readings readings n ++ x ∷ []) (sym given)))
