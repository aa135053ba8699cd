-- What keeps a job's own of a key, until its superblock is lent.
use Rattle.std.specs.Prelude.{◌≡◌, ◌<◌, ◌≤◌, ◌⊎◌, ℕ, suc, length, if◌then◌else◌, Bool, true, false, List, [], ◌∷◌, ◌++◌, map, Some, None}
use Rattle.kt_history.specs.declared.target.Target.{Target}
use Rattle.kt_history.specs.Rows.{Row}
use Rattle.kt_history.specs.declared.change.Change.{Change}
use Rattle.kt_history.specs.declared.operation.RowOp.{RowOp}
use Rattle.kt_history.specs.Operations.{effect}
use Rattle.kt_histlaws.specs.Histories.{on_nth, first_some, Alone}
use Rattle.kt_history.specs.Stores.{Hist, row_of, step_of, push}
use Rattle.kt_histlaws.specs.Flights.{AllUnder}
use Rattle.kt_histlaws.specs.Fitting.{AreSound}
use Rattle.kt_histlaws.specs.Jobs.{AreAlike, push_all}
use Rattle.kt_content.specs.Places.{Super, Place, Held, Moves, at_first, needs, needed_in}
use Rattle.kt_content.specs.KeyOps.{KeyOp}
use Rattle.kt_content.specs.Publishing.{gone, AllKept, AllGone}
use Rattle.kt_content.specs.Successors.{Succeeds, place_named}
use Rattle.kt_content.specs.InMemory.{Name, Stores, stands_for, is_at, group, groups, index_in, hist_of_name, joined_name, HasPlace}
use Rattle.kt_content.specs.MoreOps.{PlacesDiffer, told}
use Rattle.kt_content.specs.StoreChanges.{moves_to, steps_to}
use Rattle.kt_content.specs.Lending.{Fate, AllFates, with_changes, Duplicates}

-- names of stores that the job leaves, and of stores that neither superblock needs
abbrev pub AllAreLeft : (Place → Bool) → Super → Super → List Target → Type 0
AllAreLeft keep old new [] = Unit {0}
AllAreLeft keep old new (t ∷ targets) = ((keep (place_named t) ≡ true) ⊎ ((needs old t ≡ None) × (needs new t ≡ None))) × AllAreLeft keep old new targets

abbrev pub left_names_are_apart : Type 0
left_names_are_apart = (keep : Place → Bool) (old new : Super) (targets : List Target) → Succeeds keep old new → AllAreLeft keep old new targets
    → AllKept keep (needed_in old targets) × (needed_in new targets ≡ needed_in old targets)

-- names of inputs, and of stores that neither superblock needs
abbrev pub IsTaken : (Place → Bool) → Super → Super → Target → Type 0
IsTaken keep old new t = ((keep (place_named t) ≡ false) ⊎ (needs old t ≡ None)) × (needs new t ≡ None)

abbrev pub AllAreTaken : (Place → Bool) → Super → Super → List Target → Type 0
AllAreTaken keep old new [] = Unit {0}
AllAreTaken keep old new (t ∷ targets) = IsTaken keep old new t × AllAreTaken keep old new targets

abbrev pub taken_names_are_covered : Type 0
taken_names_are_covered = (keep : Place → Bool) (old new : Super) (targets : List Target) → AllAreTaken keep old new targets
    → AllGone keep (needed_in old targets) × (needed_in new targets ≡ [])

-- names of an input and an output
abbrev pub names_of_both_are_doubled : Type 0
names_of_both_are_doubled = (keep : Place → Bool) (old new : Super) (i o : Target) (p : Place) → IsTaken keep old new i → needs old o ≡ None
    → needs new o ≡ Some p
    → AllGone keep (needed_in old (i ∷ o ∷ [])) × (needed_in new (i ∷ o ∷ []) ≡ p ∷ [])

-- Stores that stand for none of the job's places come, change and go: a freeze, a job of other stores, a row of another store
abbrev pub other_stores_leave_a_job : Type 0
other_stores_leave_a_job = (fill : Row) (keep : Place → Bool) (old new : Super) (j : ℕ) (stores later : Stores) (q : List ℕ) (xs : List KeyOp) (ms : List Moves)
    → ((p : Place) → keep p ≡ false → (group old p later ≡ group old p stores) × (group new p later ≡ group new p stores))
    → Duplicates fill keep old new j stores q xs ms → Duplicates fill keep old new j later q xs ms

abbrev pub AllUpTo : ℕ → List KeyOp → Type 0
AllUpTo ts [] = Unit {0}
AllUpTo ts (x ∷ xs) = (x.ts ≤ ts) × AllUpTo ts xs

-- A row is applied: each of the job's stores takes the changes that the operation makes there, and both sides are alike and sound as before
abbrev pub an_operation_more_keeps_a_job : Type 0
an_operation_more_keeps_a_job = (fill : Row) (keep : Place → Bool) (old new : Super) (j : ℕ) (stores later : Stores) (q : List ℕ) (xs : List KeyOp)
    (ms : List Moves) (x : KeyOp) (m n : Moves)
    → AllUpTo x.ts xs → (g : Duplicates fill keep old new j stores q xs ms) → Fate fill keep old new j (with_changes q new xs g.moves) x m n
    → ((p : Place) → keep p ≡ false → HasPlace p (at_first q new) → group new p later ≡ map (push_all (moves_to p x.ts n)) (group new p stores))
    → AreAlike j (groups old later (gone keep (at_first q old))) (groups new later (gone keep (at_first q new)))
    → AreSound j (groups new later (gone keep (at_first q new)))
    → Duplicates fill keep old new j later q (xs ++ x ∷ []) (ms ++ m ∷ [])

-- and an operation on a store that the job leaves changes none of its stores
abbrev pub an_operation_apart_keeps_a_job : Type 0
an_operation_apart_keeps_a_job = (fill : Row) (keep : Place → Bool) (old new : Super) (j : ℕ) (stores : Stores) (q : List ℕ) (xs : List KeyOp)
    (ms : List Moves) (x : KeyOp) (m : Moves) (targets : List Target)
    → AllUpTo x.ts xs → x.told ≡ Some targets → AllKept keep (needed_in old targets) → needed_in new targets ≡ needed_in old targets
    → ((p : Place) → keep p ≡ false → moves_to p x.ts m ≡ [])
    → Duplicates fill keep old new j stores q xs ms → Duplicates fill keep old new j stores q (xs ++ x ∷ []) (ms ++ m ∷ [])

-- so many elements further on
abbrev pub further : {A : Type 0} → List A → ℕ → ℕ
further [] i = i
further (x ∷ xs) i = suc (further xs i)

-- the place of a store among those that stand for some places
abbrev pub index_among : Super → Stores → Name → Held → ℕ
index_among super stores n [] = 0
index_among super stores n (h ∷ held) = if is_at h.0 (stands_for super n) then index_in super h.0 n stores else further (group super h.0 stores) (index_among super stores n held)

-- a change that joins a store joins one of the histories of those that stand for the places, or none
abbrev pub a_change_joins_one_of_the_groups : Type 0
a_change_joins_one_of_the_groups = (super : Super) (stores : Stores) (n : Name) (p : Place) (h : Hist) (ts : ℕ) (c : Change) (held : Held) → PlacesDiffer held
    → HasPlace p held → stands_for super n ≡ Some p → hist_of_name n stores ≡ Some h
    → (groups super (joined_name n ts c stores) held ≡ on_nth (index_among super stores n held) (push ts c) (groups super stores held)) × (index_among super stores n held < length (groups super stores held))

-- A row of an input is applied while the job duplicates: input and output take the change. There the output, which has the key live, is alone,
-- and so is the input; and neither side has a change from here on.
abbrev pub a_row_of_both_keeps_a_job : Type 0
a_row_of_both_keeps_a_job = (fill : Row) (keep : Place → Bool) (old new : Super) (j : ℕ) (stores : Stores) (q : List ℕ) (xs : List KeyOp) (ms : List Moves)
    (ts : ℕ) (op : RowOp) (targets : List Target) (c : Change) (row : Row)
    (i o : Name) (from to : Place) (hi ho : Hist)
    → AllUpTo ts xs → PlacesDiffer (at_first q old) → PlacesDiffer (at_first q new) → HasPlace from (at_first q old) → HasPlace to (at_first q new)
    → stands_for old i ≡ Some from → stands_for new i ≡ None → stands_for old o ≡ None → stands_for new o ≡ Some to → hist_of_name i stores ≡ Some hi
    → hist_of_name o (joined_name i ts c stores) ≡ Some ho
    → keep from ≡ false → keep to ≡ false → AllGone keep (needed_in old targets) → needed_in new targets ≡ to ∷ [] → j < ts
    → (effect fill op.kind op.cells (Some row)).0 ≡ Some c
    → ((t : ℕ) → ts ≤ t → Alone (index_among old stores i (gone keep (at_first q old))) (map (row_of t) (groups old stores (gone keep (at_first q old)))))
    → ((t : ℕ) → ts ≤ t → Alone (index_among new (joined_name i ts c stores) o (gone keep (at_first q new))) (map (row_of t) (groups new stores (gone keep (at_first q new)))))
    → first_some (map (step_of ts) (groups old stores (gone keep (at_first q old)))) ≡ None → AllUnder ts (groups new stores (gone keep (at_first q new)))
    → (effect fill op.kind op.cells (first_some (map (row_of ts) (groups new stores (gone keep (at_first q new)))))).0 ≡ Some c
    → Duplicates fill keep old new j stores q xs ms
    → Duplicates fill keep old new j (joined_name o ts c (joined_name i ts c stores)) q (xs ++ told ts op targets ∷ []) (ms ++ ((from, c) ∷ []) ∷ [])

-- Another job publishes: the fates of the operations under both superblocks are what their names tell, and the job's places have the same files and
-- stores as before, and the same changes.
abbrev pub another_superblock_leaves_a_job : Type 0
another_superblock_leaves_a_job = (fill : Row) (keep : Place → Bool) (old new old' new' : Super) (j : ℕ) (stores : Stores) (q : List ℕ) (xs : List KeyOp)
    (ms ms' ns' : List Moves)
    → gone keep (at_first q old') ≡ gone keep (at_first q old) → gone keep (at_first q new') ≡ gone keep (at_first q new)
    → ((p : Place) → keep p ≡ false → (group old' p stores ≡ group old p stores) × (group new' p stores ≡ group new p stores))
    → (g : Duplicates fill keep old new j stores q xs ms) → AllFates fill keep old' new' j (with_changes q new' xs ns') xs ms' ns'
    → ((p : Place) → keep p ≡ false → steps_to p xs ns' ≡ steps_to p xs g.moves)
    → Duplicates fill keep old' new' j stores q xs ms'
