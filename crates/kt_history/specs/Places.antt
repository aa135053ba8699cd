-- Where a key stands among sorted entries, or would stand.
use Rattle.std.specs.Prelude.{◌≡◌, ℕ, suc, ◌<◌, List, [], ◌∷◌, Result, Ok, Err, length, get_or}
use Rattle.std.specs.declared.cmp.Ordering.{Ordering}
use Rattle.std.specs.FinMap.Entries.{by_order}

abbrev pub one_later : Result ℕ ℕ → Result ℕ ℕ
one_later (Ok i) = Ok (suc i)
one_later (Err i) = Err (suc i)

-- the place of the entry of a key, or the place where a new one goes
abbrev pub place_of : {K X : Type 0} → (K → K → Ordering) → K → List (K × X) → Result ℕ ℕ
place_of order key [] = Err 0
place_of order key (e ∷ es) = by_order (order key e.0) (Err 0) (Ok 0) (one_later (place_of order key es))

-- the numbers of the entries before a place are below another
abbrev pub AreBelow : {X : Type 0} → ℕ → ℕ → List (ℕ × X) → Type 0
AreBelow {X} at n entries = (k : ℕ) (d : ℕ × X) → k < at → (get_or entries k d).0 < n

-- the number of the entry at a place, if there is one
abbrev pub HasNumber : {X : Type 0} → ℕ → ℕ → List (ℕ × X) → Type 0
HasNumber {X} at n entries = (d : ℕ × X) → at < length entries → (get_or entries at d).0 ≡ n
