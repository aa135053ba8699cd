-- What becomes of each operation, told by the rows of the stores as they are in the end.
use Rattle.std.specs.Prelude.{◌≡◌, ◌≤◌, ℕ, suc, List, [], ◌∷◌, Some, Ok}
use Rattle.kt_history.specs.Rows.{Row}
use Rattle.kt_content.specs.Places.{Super, Held, Moves, moved, standing}
use Rattle.kt_content.specs.KeyOps.{KeyOp, decided, played}

-- the timestamps rise from low on
abbrev pub OpsRise : ℕ → List KeyOp → Type 0
OpsRise low [] = Unit {0}
OpsRise low (x ∷ xs) = (low ≤ x.ts) × OpsRise (suc x.ts) xs

-- the stores after these moves, those of each operation
abbrev pub all_moved : List KeyOp → List Moves → Held → Held
all_moved [] ms held = held
all_moved (x ∷ xs) [] held = held
all_moved (x ∷ xs) (m ∷ ms) held = all_moved xs ms (moved x.ts m held)

-- on the rows of these stores each operation makes these moves
abbrev pub Agree : Row → Super → Held → List KeyOp → List Moves → Type 0
Agree fill super final [] [] = Unit {0}
Agree fill super final [] (m ∷ ms) = ⊥
Agree fill super final (x ∷ xs) [] = ⊥
Agree fill super final (x ∷ xs) (m ∷ ms) = (decided fill super (standing x.ts final) x.op x.told ≡ Some m) × Agree fill super final xs ms

-- moves that agree with the stores which they make are what the log makes of them
abbrev pub moves_that_agree_are_played : Type 0
moves_that_agree_are_played = (fill : Row) (super : Super) (low : ℕ) (held : Held) (xs : List KeyOp) (ms : List Moves)
    → OpsRise low xs → Agree fill super (all_moved xs ms held) xs ms → played fill super held xs ≡ Ok (all_moved xs ms held)

-- and what the log makes of them is made by moves that agree with it
abbrev pub what_is_played_agrees : Type 0
what_is_played_agrees = (fill : Row) (super : Super) (low : ℕ) (held final : Held) (xs : List KeyOp)
    → OpsRise low xs → played fill super held xs ≡ Ok final → (ms : List Moves) × (final ≡ all_moved xs ms held) × Agree fill super final xs ms
