-- Lists, as byte strings are, that lie end to end in one, with where each one ends.
use Rattle.std.specs.Prelude.{◌≡◌, ℕ, zero, suc, ◌+◌, ◌-◌, ◌≤◌, List, [], ◌∷◌, length, get_or}
use Rattle.std.specs.List.{between}

-- the pieces from this place on, each up to its end
abbrev pub pieces : {A : Type 0} → ℕ → List ℕ → List A → List (List A)
pieces from [] items = []
pieces from (end ∷ ends) items = between from end items ∷ pieces end ends items

-- the ends never fall, and the last one is where the bytes end
abbrev pub IsCut : ℕ → List ℕ → ℕ → Type 0
IsCut from [] total = from ≡ total
IsCut from (end ∷ ends) total = (from ≤ end) × IsCut end ends total

-- where string number i begins: where the one before it ends
abbrev pub start_at : ℕ → List ℕ → ℕ → ℕ
start_at from ends zero = from
start_at from ends (suc i) = get_or ends i 0

-- where each string ends, the first of them beginning at a place
abbrev pub ends_of : ℕ → List (List ℕ) → List ℕ
ends_of from [] = []
ends_of from (text ∷ texts) = (from + length text) ∷ ends_of (from + length text) texts

-- the last string, or nothing where there is none
abbrev pub last : List (List ℕ) → List ℕ
last texts = get_or texts (length texts - 1) []
