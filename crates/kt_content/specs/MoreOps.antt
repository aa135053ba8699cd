-- A log that grows, as one key sees it.
use Rattle.std.specs.Prelude.{◌≡◌, ◌<◌, ℕ, false, List, [], ◌∷◌, ◌++◌, Option, Some, None, Ok}
use Rattle.kt_history.specs.declared.change.Change.{Change}
use Rattle.kt_history.specs.declared.operation.RowOp.{RowOp}
use Rattle.kt_history.specs.declared.target.Target.{Target}
use Rattle.kt_history.specs.Rows.{Row}
use Rattle.kt_history.specs.Operations.{effect}
use Rattle.kt_history.specs.Stores.{Hist, push, Under}
use Rattle.kt_content.specs.Places.{Super, Place, memory, same_place, Held, standing, live_in, row_before, needed_in, OneLive, places_of}
use Rattle.kt_content.specs.KeyOps.{KeyOp, decided, to_live, played}
use Rattle.kt_content.specs.Content.{Shown, UntoldLiveOnce}
use Rattle.kt_content.specs.Agreement.{OpsRise}

-- no store is there twice, and the first is the MemRowSet
abbrev pub LacksPlace : Place → Held → Type 0
LacksPlace p [] = Unit {0}
LacksPlace p (h ∷ held) = (same_place p h.0 ≡ false) × LacksPlace p held

abbrev pub PlacesDiffer : Held → Type 0
PlacesDiffer [] = Unit {0}
PlacesDiffer (h ∷ held) = LacksPlace h.0 held × PlacesDiffer held

abbrev pub BeginsInMemory : Held → Type 0
BeginsInMemory [] = ⊥
BeginsInMemory (h ∷ held) = h.0 ≡ memory

-- the history of a key with what an operation does to it
abbrev pub with_change : ℕ → Option Change → Hist → Hist
with_change ts None h = h
with_change ts (Some c) h = push ts c h

abbrev pub with_op : Row → ℕ → RowOp → Hist → Hist
with_op fill ts op h = with_change ts (effect fill op.kind op.cells (row_before ts h)).0 h

abbrev pub untold : ℕ → RowOp → KeyOp
untold ts op = record { ts = ts; op = op; told = None }

abbrev pub told : ℕ → RowOp → List Target → KeyOp
told ts op targets = record { ts = ts; op = op; told = Some targets }

-- an operation above all that is there adds to the stores what it adds to the history that they show
abbrev pub an_operation_more_is_shown : Type 0
an_operation_more_is_shown = (fill : Row) (super : Super) (a ts : ℕ) (held final : Held) (whole : Hist) (xs : List KeyOp) (op : RowOp)
    → PlacesDiffer held → BeginsInMemory held → played fill super held xs ≡ Ok final → Shown a final whole → Under ts whole.steps → a < ts
    → (next : Held) × (played fill super held (xs ++ untold ts op ∷ []) ≡ Ok next) × Shown a next (with_op fill ts op whole)

-- these names tell, on the rows as they stand in the end, what became of the operation
abbrev pub TellsPlace : Row → Super → Held → ℕ → RowOp → List Target → Type 0
TellsPlace fill super final ts op targets = decided fill super (standing ts final) op (Some targets) ≡ Some (to_live fill op (live_in (standing ts final)))

-- and one store at most had the key live just before it
abbrev pub TellsOne : Row → Super → Held → ℕ → RowOp → List Target → Type 0
TellsOne fill super final ts op targets = TellsPlace fill super final ts op targets × OneLive (standing ts final)

-- as it is above the mark from which the stores show a history
abbrev pub one_store_is_live_above_the_mark : Type 0
one_store_is_live_above_the_mark = (a ts : ℕ) (held : Held) (whole : Hist) → Shown a held whole → a < ts → OneLive (standing ts held)

-- and just before each operation without a COMMIT of a content
abbrev pub one_store_is_live_before_an_operation_without_commit : Type 0
one_store_is_live_before_an_operation_without_commit = (held : Held) (xs : List KeyOp) (ts : ℕ) (op : RowOp) (ys : List KeyOp)
    → UntoldLiveOnce held (xs ++ untold ts op ∷ ys) → OneLive (standing ts held)

-- where names tell what became of an operation, the stores are the same with them and without them, whatever stands before and behind
abbrev pub true_names_change_nothing : Type 0
true_names_change_nothing = (fill : Row) (super : Super) (low : ℕ) (held final : Held) (xs : List KeyOp) (ts : ℕ) (op : RowOp) (targets : List Target)
    (ys : List KeyOp)
    → OpsRise low (xs ++ untold ts op ∷ ys) → TellsPlace fill super final ts op targets
    → (played fill super held (xs ++ untold ts op ∷ ys) ≡ Ok final → played fill super held (xs ++ told ts op targets ∷ ys) ≡ Ok final)
    × (played fill super held (xs ++ told ts op targets ∷ ys) ≡ Ok final → played fill super held (xs ++ untold ts op ∷ ys) ≡ Ok final)

-- names of just the store that has the key live, or of the MemRowSet for an insert, tell what became of the operation
abbrev pub names_of_the_live_store_tell : Type 0
names_of_the_live_store_tell = (fill : Row) (super : Super) (final : Held) (ts : ℕ) (op : RowOp) (targets : List Target)
    → PlacesDiffer final → needed_in super targets ≡ places_of (to_live fill op (live_in (standing ts final))) → TellsPlace fill super final ts op targets
