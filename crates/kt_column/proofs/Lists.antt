-- Lists of byte lists, one more at a time.
use Rattle.std.proofs.Common.{◌≡◌, ◌+◌, ℕ, List, [], ◌∷◌, ◌++◌, length, arith, length-append}
use Rattle.std.specs.List.{concat}

pub concat_more : (ts : List (List ℕ)) (t : List ℕ) → length (concat (ts ++ t ∷ [])) ≡ length (concat ts) + length t
concat_more [] t = omega (arith, length-append t [])
concat_more (x ∷ xs) t = omega (arith, concat_more xs t, length-append x (concat xs), length-append x (concat (xs ++ t ∷ [])))
