-- The stores that an engine has in memory, and the places that they stand for under a superblock.
use Rattle.std.specs.Prelude.{◌≡◌, ◌<◌, ◌≤◌, ◌⊎◌, ℕ, suc, ◌==◌, Bool, true, false, is_some, List, [], ◌∷◌, ◌++◌, map, Option, Some, None, if◌then◌else◌}
use Rattle.kt_history.specs.declared.change.Change.{Change}
use Rattle.kt_history.specs.Rows.{Row}
use Rattle.kt_histlaws.specs.Histories.{first_some, Alone}
use Rattle.kt_history.specs.Stores.{Hist, row_of, step_of, push, never}
use Rattle.kt_histlaws.specs.Jobs.{AreAlike}
use Rattle.kt_content.specs.Places.{Super, Place, memory, disk, same_place, Held, held_in, newer, last_dms_of, joined_in, standing, row_before, live_in}
use Rattle.kt_content.specs.Content.{Shown}
use Rattle.kt_content.specs.MoreOps.{PlacesDiffer}
use Rattle.kt_content.specs.Publishing.{kept, gone}

-- a store in memory: a MemRowSet or a disk rowset with its DeltaMemStores, by its number
pub data Name : Type 0 where
  mem_rows : ℕ → Name
  rowset : ℕ → Name

abbrev pub same_name : Name → Name → Bool
same_name (mem_rows n) (mem_rows m) = n == m
same_name (mem_rows n) (rowset r) = false
same_name (rowset r) (mem_rows n) = false
same_name (rowset r) (rowset s) = r == s

-- what they have of a key: those that a scan reads, and the outputs of jobs past their swap
abbrev pub Stores : Type 0
Stores = List (Name × Hist)

abbrev pub if_there : Place → Option ℕ → Option Place
if_there p None = None
if_there p (Some n) = Some p

-- the store of an opening with this superblock that has what the store in memory has
abbrev pub stands_for : Super → Name → Option Place
stands_for super (mem_rows n) = newer memory n (Some super.last_mem)
stands_for super (rowset r) = if_there (disk r) (last_dms_of r super.rowsets)

abbrev pub is_at : Place → Option Place → Bool
is_at p None = false
is_at p (Some q) = same_place p q

-- the stores in memory that stand for this one
abbrev pub group : Super → Place → Stores → List Hist
group super p [] = []
group super p (x ∷ stores) = if is_at p (stands_for super x.0) then x.1 ∷ group super p stores else group super p stores

-- what one store of an opening has
abbrev pub hist_at : Place → Held → Hist
hist_at p [] = never
hist_at p (h ∷ held) = if same_place p h.0 then h.1 else hist_at p held

abbrev pub HasPlace : Place → Held → Type 0
HasPlace p [] = ⊥
HasPlace p (h ∷ held) = (same_place p h.0 ≡ true) ⊎ HasPlace p held

-- each store of an opening has from a on what those in memory have that stand for it
abbrev pub Mirrors : ℕ → Super → Stores → Held → Type 0
Mirrors a super stores held = (p : Place) → AreAlike a (group super p stores) (hist_at p held ∷ [])

-- a change joins a store in memory
abbrev pub joined_name : Name → ℕ → Change → Stores → Stores
joined_name n ts c [] = []
joined_name n ts c (x ∷ stores) = if same_name n x.0 then (x.0, push ts c x.1) ∷ stores else x ∷ joined_name n ts c stores

abbrev pub hist_of_name : Name → Stores → Option Hist
hist_of_name n [] = None
hist_of_name n (x ∷ stores) = if same_name n x.0 then Some x.1 else hist_of_name n stores

-- the store in memory that has a key live stands for the place that has it live
abbrev pub live_stores_stand_for_live_places : Type 0
live_stores_stand_for_live_places = (a ts : ℕ) (super : Super) (stores : Stores) (held : Held) (whole : Hist) (n : Name) (h : Hist) (p : Place)
    → PlacesDiffer held → Mirrors a super stores held → Shown a held whole → a < ts → hist_of_name n stores ≡ Some h → stands_for super n ≡ Some p
    → is_some (row_before ts h) ≡ true
    → (row : Row) × (live_in (standing ts held) ≡ Some (p, row))

-- the place of a store among those of its group
abbrev pub index_in : Super → Place → Name → Stores → ℕ
index_in super p n [] = 0
index_in super p n (x ∷ stores) = if same_name n x.0 then 0 else (if is_at p (stands_for super x.0) then suc (index_in super p n stores) else index_in super p n stores)

-- a change that joins a store in memory and the place that it stands for: there it is alone from then on, and has no change yet
abbrev pub both_sides_mirror : Type 0
both_sides_mirror = (a ts : ℕ) (super : Super) (stores : Stores) (held : Held) (n : Name) (p : Place) (c : Change) (h : Hist)
    → Mirrors a super stores held → a < ts → stands_for super n ≡ Some p → hist_of_name n stores ≡ Some h → HasPlace p held
    → ((t : ℕ) → ts ≤ t → Alone (index_in super p n stores) (map (row_of t) (group super p stores)))
    → first_some (map (step_of ts) (group super p stores)) ≡ None
    → Mirrors a super (joined_name n ts c stores) (joined_in p ts c held)

-- and one that joins a store that stands for none: an output under the old superblock, an input under the new one
abbrev pub an_unnamed_store_mirrors : Type 0
an_unnamed_store_mirrors = (a ts : ℕ) (super : Super) (stores : Stores) (held : Held) (n : Name) (c : Change)
    → Mirrors a super stores held → stands_for super n ≡ None → Mirrors a super (joined_name n ts c stores) held

-- what stores in memory have that stand for some of the places
abbrev pub groups : Super → Stores → Held → List Hist
groups super stores [] = []
groups super stores (h ∷ held) = group super h.0 stores ++ groups super stores held

-- it is alike to what these places have: so what a job reads in memory is what the content has of its inputs
abbrev pub inputs_in_memory_are_those_of_the_content : Type 0
inputs_in_memory_are_those_of_the_content = (a : ℕ) (super : Super) (stores : Stores) (held : Held) (whole : Hist) (keep : Place → Bool)
    → PlacesDiffer held → Mirrors a super stores held → Shown a held whole → AreAlike a (groups super stores (gone keep held)) (held_in (gone keep held))

-- two lists that are alike to one are alike
abbrev pub alike_to_one_are_alike : Type 0
alike_to_one_are_alike = (a j b : ℕ) (ins held outs : List Hist) → AreAlike a ins held → AreAlike j ins outs → a ≤ b → j ≤ b → AreAlike b held outs

-- another superblock, other stores in memory: where the places that a job leaves have the same stores, and each other place is alike to its own
abbrev pub another_superblock_mirrors : Type 0
another_superblock_mirrors = (keep : Place → Bool) (a b : ℕ) (old new : Super) (stores later : Stores) (held next : Held) → Mirrors a old stores held → a ≤ b
    → kept keep next ≡ kept keep held
    → ((p : Place) → keep p ≡ true → group new p later ≡ group old p stores)
    → ((p : Place) → keep p ≡ false → AreAlike b (group new p later) (hist_at p next ∷ [])) → Mirrors b new later next
