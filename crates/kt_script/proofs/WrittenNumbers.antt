-- Numbers with a space before each, as they are written from the last to the first.
use Rattle.std.proofs.Common.{◌≡◌, ℕ, ◌+◌, ◌<◌, ◌≤◌, ◌^◌, List, ◌++◌, length, drop, get_or, map, ap, ◌∙◌, arith}
use Rattle.std.specs.Fmt.{decimal}
use Rattle.std.specs.List.{flat_map}
use Rattle.std.proofs.lemmas.Fmt.{length-decimal-le}
use Rattle.std.proofs.lemmas.List.{at_drop_more}
use Rattle.kt_script.specs.Texts.{spaced}

-- a number has no more than twenty digits
pub digits_fit : (n : ℕ) → n < 2 ^ 64 → length (decimal n) ≤ 20
digits_fit n fits = length-decimal-le 20 n (omega arith) (omega (arith, fits)) fits

-- those from one place on are the one there, and those behind it
pub one_before : (numbers : List ℕ) (i left : ℕ) → i + 1 ≡ left → left ≤ length numbers
    → flat_map spaced (map decimal (drop i numbers)) ≡ spaced (decimal (get_or numbers i 0)) ++ flat_map spaced (map decimal (drop left numbers))
one_before numbers i left is within =
    at_drop_more (λ (ns : List ℕ). flat_map spaced (map decimal ns)) numbers i 0 (omega (arith, is, within)) ∙ ap (λ k. spaced (decimal (get_or numbers i 0)) ++ flat_map spaced (map decimal (drop k numbers))) is
