-- What jobs do to a tablet.
use Rattle.std.specs.Prelude.{◌≡◌, ◌+◌, ◌==◌, ℕ, suc, List, [], ◌∷◌, ◌++◌, length, map, take, drop, Option, Some, None, if◌then◌else◌}
use Rattle.std.specs.List.{sum_by}
use Rattle.kt_history.specs.declared.target.Target.{Target}
use Rattle.kt_history.specs.declared.target.Target.TheVariants.{Mem, Delta}
use Rattle.kt_history.specs.History.{Past}
use Rattle.kt_history.specs.declared.changes.KeyChange.{KeyChange}
use Rattle.kt_history.specs.Rows.{Row}
use Rattle.kt_history.specs.Stores.{Store, Hist, changes_upto}
use Rattle.kt_histlaws.specs.Fitting.{AreSound}
use Rattle.kt_histlaws.specs.Histories.{hists}
use Rattle.kt_histlaws.specs.Jobs.{AreAlike}
use Rattle.kt_diskrowset.specs.Rowset.{HeldFiles}
use Rattle.kt_stores.specs.Takes.{Takes, rowsets, of_taken, of_left, files_left, over_to}
use Rattle.kt_tablet.specs.Filling.{filled_change}
use Rattle.kt_tablet.specs.Views.{View, Opens}

-- what the frozen MemRowSets hold, the newest first, and their names
abbrev pub frozen_stores : {C : Type 0} → View C → List Store
frozen_stores v = take v.frozen (drop 1 v.core.stores)

abbrev pub frozen_names : {C : Type 0} → View C → List Target
frozen_names v = take v.frozen (drop 1 v.names)

-- the changes up to a time of each store in memory, the one that takes inserts first
abbrev pub changes_in_memory : {C : Type 0} → ℕ → View C → List (List KeyChange)
changes_in_memory upto v = map (changes_upto upto) (take (suc v.frozen) v.core.stores)

-- a change with its insert filled
abbrev pub filled_of : Row → KeyChange → KeyChange
filled_of fill c = record c { change = filled_change fill c.change }

-- what the store that takes inserts holds
abbrev pub rows_in_first : List Store → Store
rows_in_first [] = []
rows_in_first (store ∷ stores) = store

-- The store that takes inserts is frozen, and an empty one of the next number takes its place.
pub record HasFrozen {C : Type 0} (old new : View C) : Type 0 where
  pub number : ℕ
  pub others : List Target
  pub was : old.names ≡ Mem number ∷ others
  pub is : new ≡ record old { core = record old.core { stores = [] ∷ old.core.stores }; names = Mem (number + 1) ∷ old.names; frozen = old.frozen + 1 }

-- ---- a job that changes over

-- what the stores hold that it takes: the one that takes inserts is none of them
abbrev pub taken_stores : {C : Type 0} → Takes → View C → List Store
taken_stores t v = of_taken t (drop 1 v.names) (drop 1 v.core.stores)

-- and those of disk rowsets of some numbers, which stand behind the stores in memory
abbrev pub taken_rowsets : {C : Type 0} → List ℕ → View C → List Store
taken_rowsets numbers v = of_taken (rowsets numbers) (drop (suc v.frozen) v.names) (drop (suc v.frozen) v.core.stores)

-- how many rows stores have, and changes of these
abbrev pub entries : Store → ℕ
entries store = length store + sum_by (λ (r : List ℕ × Hist). length r.1.steps) store

abbrev pub entries_in : List Store → ℕ
entries_in stores = sum_by entries stores

-- The outputs show from the mark on what these show, for each past that opening found
pub record MayChangeOver {C : Type 0} (v : View C) (t : Takes) (outputs : List Store) : Type 0 where
  pub alike : (first : Past) → Opens v.opening v.mark v.core.opened first → (q : List ℕ) → AreAlike v.core.a (hists q (taken_stores t v)) (hists q outputs)
  pub sound : (first : Past) → Opens v.opening v.mark v.core.opened first → (q : List ℕ) → AreSound v.core.a (hists q outputs)

-- These have left, and the outputs stand behind the others, with their files.
pub record HasChangedOver {C : Type 0} (old new : View C) (t : Takes) (outputs : List Store) (names : List Target) (files : List HeldFiles) : Type 0 where
  pub stores : new.core ≡ record old.core { stores = over_to t outputs old.names old.core.stores }
  pub names_are : new.names ≡ over_to t names old.names old.names
  pub frozen : new.frozen ≡ length (of_left t (frozen_names old) (frozen_names old))
  pub files_are : new.files ≡ files_left t old.files ++ files
  pub beside : new ≡ record old { core = new.core; names = new.names; frozen = new.frozen; pool = new.pool; files = new.files }

-- ---- one disk rowset, by its number: where several have it, the first

-- the number of the DeltaMemStore that takes its changes, where it is there
abbrev pub dms_in : ℕ → List Target → Option ℕ
dms_in number [] = None
dms_in number (Mem n ∷ names) = dms_in number names
dms_in number (Delta r dms ∷ names) = if r == number then Some dms else dms_in number names

-- and what it holds
abbrev pub store_in_names : ℕ → List Target → List Store → Store
store_in_names number [] stores = []
store_in_names number (name ∷ names) [] = []
store_in_names number (Mem n ∷ names) (store ∷ stores) = store_in_names number names stores
store_in_names number (Delta r dms ∷ names) (store ∷ stores) = if r == number then store else store_in_names number names stores

-- the next DeltaMemStore takes its changes
abbrev pub next_dms : ℕ → List Target → List Target
next_dms number [] = []
next_dms number (Mem n ∷ names) = Mem n ∷ next_dms number names
next_dms number (Delta r dms ∷ names) = if r == number then Delta r (dms + 1) ∷ names else Delta r dms ∷ next_dms number names

-- its files
abbrev pub files_of : ℕ → List HeldFiles → Option HeldFiles
files_of number [] = None
files_of number (h ∷ files) = if h.number == number then Some h else files_of number files

-- others have come in the place of those of their number
abbrev pub with_files : HeldFiles → List HeldFiles → List HeldFiles
with_files h [] = []
with_files h (x ∷ files) = if x.number == h.number then h ∷ files else x ∷ with_files h files
