-- Bytes at the front of others are bytes.
use Rattle.std.proofs.Common.{◌<◌, ℕ, zero, suc, List, [], ◌∷◌, take, get_or, lit<}

pub take_small : (n : ℕ) (xs : List ℕ) → ((i : ℕ) → get_or xs i 0 < 256) → (i : ℕ) → get_or (take n xs) i 0 < 256
take_small zero xs small i = lit< tt
take_small (suc n) [] small i = lit< tt
take_small (suc n) (x ∷ xs) small zero = small zero
take_small (suc n) (x ∷ xs) small (suc i) = take_small n xs (λ k. small (suc k)) i
