-- What the stores of a tablet are to their callers.
use Rattle.std.specs.Prelude.{◌≡◌, ℕ, ◌+◌, ◌==◌, Bool, true, false, is_some, List, [], ◌∷◌, map, Option, unwrap_or, slice_get}
use Rattle.std.specs.List.{position, sum_by}
use Rattle.std.specs.Option.{option_map}
use Rattle.kt_history.specs.declared.target.Target.{Target}
use Rattle.kt_history.specs.declared.target.Target.TheVariants.{Mem, Delta}
use Rattle.kt_history.specs.Rows.{Row}
use Rattle.kt_history.specs.Stores.{Store, hist_in, last_row, TakesUpTo}
use Rattle.kt_histlaws.specs.Histories.{hists, first_some, on_nth}
use Rattle.kt_pool.specs.Contents.{Contents}
use Rattle.kt_diskrowset.specs.Rowset.{HeldFiles}

-- a store as it stands: its name, what it holds, whether it takes no inserts, and how many cells it has
pub record Shelved : Type 0 where
  pub name : Target
  pub store : Store
  pub closed : Bool
  pub cells : ℕ

-- the stores of a tablet and their pool: first the one that takes inserts, then so many frozen ones, the newest first, and then the disk rowsets, of each
-- of which the files are told
pub record StoresView : Type 0 where
  pub pool : Contents
  pub shelf : List Shelved
  pub frozen : ℕ
  pub files : List HeldFiles

-- what each store holds
abbrev pub stores_of : StoresView → List Store
stores_of view = map (λ (s : Shelved). s.store) view.shelf

-- the store has the row of the key after all changes
abbrev pub has_live : List ℕ → Store → Bool
has_live q store = is_some (last_row (hist_in q store))

-- the row of a key after all changes, in the first store that has it
abbrev pub last_live : List ℕ → List Store → Option Row
last_live q stores = first_some (map last_row (hists q stores))

-- where a change of the key goes: to the first store that has its row, or else to the first of all
abbrev pub place_of : List ℕ → List Store → ℕ
place_of q stores = unwrap_or (position (has_live q) stores) 0

-- the name of each
abbrev pub names_of : List Shelved → List Target
names_of shelf = map (λ (s : Shelved). s.name) shelf

-- the name of store i
abbrev pub name_at : ℕ → List Shelved → Option Target
name_at i shelf = option_map (λ (s : Shelved). s.name) (slice_get shelf i)

-- a store that holds this instead, in so many cells more
abbrev pub holding : Store → ℕ → Shelved → Shelved
holding store more s = record s { store = store; cells = s.cells + more }

-- So many reserved cells at most are taken, by store i, which may hold something else now. Its name, and whether it takes inserts, are as
-- before, and so is every other store
pub record TakesAt (i most : ℕ) (old new : StoresView) : Type 0 where
  pub takes : TakesUpTo most old.pool new.pool
  pub holds : Store
  pub shelf : new.shelf ≡ on_nth i (holding holds takes.cells) old.shelf
  pub frozen : new.frozen ≡ old.frozen
  pub files : new.files ≡ old.files

-- a store in memory with no row, which takes inserts
abbrev pub empty_mem : ℕ → Shelved
empty_mem number = record { name = Mem number; store = []; closed = false; cells = 0 }

-- the first store takes no more inserts, and an empty one of this number comes before it
abbrev pub frozen_behind : ℕ → List Shelved → List Shelved
frozen_behind number [] = []
frozen_behind number (s ∷ shelf) = empty_mem number ∷ (record s { closed = true }) ∷ shelf

-- what the first store holds
abbrev pub rows_in_first : List Shelved → Store
rows_in_first [] = []
rows_in_first (s ∷ shelf) = s.store

-- none takes inserts
abbrev pub AreClosed : List Shelved → Type 0
AreClosed [] = Unit {0}
AreClosed (s ∷ shelf) = (s.closed ≡ true) × AreClosed shelf

-- the first takes inserts, and no other does
abbrev pub FirstIsOpen : List Shelved → Type 0
FirstIsOpen [] = ⊥
FirstIsOpen (s ∷ shelf) = (s.closed ≡ false) × AreClosed shelf

-- a store without a row has no cell
abbrev pub AreExact : List Shelved → Type 0
AreExact [] = Unit {0}
AreExact (s ∷ shelf) = (s.store ≡ [] → s.cells ≡ 0) × AreExact shelf

-- the cells of all
abbrev pub cells_in : List Shelved → ℕ
cells_in shelf = sum_by (λ (s : Shelved). s.cells) shelf

-- the name is that of a disk rowset of this number
abbrev pub is_rowset : ℕ → Target → Bool
is_rowset number (Mem n) = false
is_rowset number (Delta r dms) = r == number

-- the DeltaMemStore of this number takes the changes of a disk rowset
abbrev pub taken_by : ℕ → Target → Target
taken_by dms (Mem n) = Mem n
taken_by dms (Delta r n) = Delta r dms

abbrev pub renamed : ℕ → Shelved → Shelved
renamed dms s = record s { name = taken_by dms s.name }
