-- A store's content as what its files have, and the changes of the operations that go there.
use Rattle.std.specs.Prelude.{◌≡◌, ◌<◌, ◌⊎◌, ℕ, Bool, List, [], ◌∷◌, ◌++◌, Some, None, if◌then◌else◌}
use Rattle.kt_history.specs.declared.change.Change.{Change}
use Rattle.kt_history.specs.declared.operation.RowOp.{RowOp}
use Rattle.kt_history.specs.Rows.{Row}
use Rattle.kt_history.specs.Operations.{effect}
use Rattle.kt_history.specs.Stores.{Steps, Hist, step_of}
use Rattle.kt_histlaws.specs.Fitting.{AreSound, Rises, steps_above}
use Rattle.kt_histlaws.specs.Jobs.{push_all}
use Rattle.kt_content.specs.Places.{Place, memory, same_place, Held, held_in, Moves, standing, row_there, row_before, live_in}
use Rattle.kt_content.specs.KeyOps.{KeyOp, may_join, to_live}
use Rattle.kt_content.specs.Content.{Shown}
use Rattle.kt_content.specs.Agreement.{all_moved}
use Rattle.kt_content.specs.MoreOps.{PlacesDiffer}
use Rattle.kt_content.specs.InMemory.{hist_at, HasPlace}
use Rattle.kt_content.specs.Publishing.{kept}
use Rattle.std.specs.List.{filter}

-- the changes among moves that go to one store
abbrev pub moves_to : Place → ℕ → Moves → Steps
moves_to p ts [] = []
moves_to p ts (m ∷ moves) = if same_place p m.0 then (ts, m.1) ∷ moves_to p ts moves else moves_to p ts moves

abbrev pub steps_to : Place → List KeyOp → List Moves → Steps
steps_to p [] ms = []
steps_to p (x ∷ xs) [] = []
steps_to p (x ∷ xs) (m ∷ ms) = moves_to p x.ts m ++ steps_to p xs ms

-- the content of a store is what its files have and, behind that, the changes that go to it
abbrev pub a_store_is_its_files_and_its_changes : Type 0
a_store_is_its_files_and_its_changes = (p : Place) (xs : List KeyOp) (ms : List Moves) (held : Held) → HasPlace p held
    → hist_at p (all_moved xs ms held) ≡ push_all (steps_to p xs ms) (hist_at p held)

-- a duplicated change fits an output that has it: the operation makes it on each row that is there, and there is one
abbrev pub a_duplicated_change_fits : Type 0
a_duplicated_change_fits = (fill : Row) (j ts : ℕ) (p : Place) (op : RowOp) (c : Change) (row : Row) (next : Held) → AreSound j (held_in next) → j < ts
    → HasPlace p next → step_of ts (hist_at p next) ≡ Some c
    → (effect fill op.kind op.cells (Some row)).0 ≡ Some c → may_join p (effect fill op.kind op.cells (row_there p (standing ts next))).0 ≡ Some c

-- where the stores show what an operation did, the store that has its change is the one to which it goes without a COMMIT
abbrev pub the_live_store_has_the_change : Type 0
the_live_store_has_the_change = (fill : Row) (b ts : ℕ) (p : Place) (op : RowOp) (c : Change) (next : Held) (whole : Hist) → Shown b next whole → b < ts
    → PlacesDiffer next → HasPlace p next → step_of ts (hist_at p next) ≡ Some c
    → (effect fill op.kind op.cells (row_before ts whole)).0 ≡ Some c → (row_before ts whole ≡ None → p ≡ memory)
    → to_live fill op (live_in (standing ts next)) ≡ (p, c) ∷ []

-- the moves to stores that a job leaves
abbrev pub kept_moves : (Place → Bool) → Moves → Moves
kept_moves keep moves = filter (λ m. keep m.0) moves

abbrev pub SameKept : (Place → Bool) → List Moves → List Moves → Type 0
SameKept keep [] [] = Unit {0}
SameKept keep [] (n ∷ ns) = ⊥
SameKept keep (m ∷ ms) [] = ⊥
SameKept keep (m ∷ ms) (n ∷ ns) = (kept_moves keep n ≡ kept_moves keep m) × SameKept keep ms ns

-- with the same moves to them, the stores that a job leaves end the same
abbrev pub other_stores_end_the_same : Type 0
other_stores_end_the_same = (keep : Place → Bool) (xs : List KeyOp) (ms ns : List Moves) (held outputs : Held) → kept keep outputs ≡ kept keep held
    → SameKept keep ms ns
    → kept keep (all_moved xs ns outputs) ≡ kept keep (all_moved xs ms held)

-- one of the operations has this move alone
abbrev pub HasMove : List KeyOp → List Moves → ℕ → Place → Change → Type 0
HasMove [] ms ts p c = ⊥
HasMove (x ∷ xs) [] ts p c = ⊥
HasMove (x ∷ xs) (m ∷ ms) ts p c = ((x.ts ≡ ts) × (m ≡ (p, c) ∷ [])) ⊎ HasMove xs ms ts p c

-- a change that goes to a store whose changes rise stands there
abbrev pub a_move_stands : Type 0
a_move_stands = (j ts : ℕ) (p : Place) (c : Change) (xs : List KeyOp) (ms : List Moves) (held : Held) → HasPlace p held → HasMove xs ms ts p c → j < ts
    → Rises j (steps_above j (hist_at p (all_moved xs ms held)).steps)
    → step_of ts (hist_at p (all_moved xs ms held)) ≡ Some c
