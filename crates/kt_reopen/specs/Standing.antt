-- The stores of a tablet that is opened, as they stand in their pool.
use Rattle.std.specs.Prelude.{◌≡◌, ◌≢◌, ◌≤◌, ◌<◌, ◌+◌, ℕ, zero, suc, true, List, [], ◌∷◌, map, length, Some, slice_get}
use Rattle.std.specs.List.{AllByRecursion}
use Rattle.std.specs.FinMap.Entries.{put}
use Rattle.kt_history.specs.declared.change.Change.{Change}
use Rattle.kt_history.specs.declared.operation.RowOp.{RowOp}
use Rattle.kt_history.specs.declared.target.Kindly.{Kindly}
use Rattle.kt_history.specs.declared.target.Target.{Target}
use Rattle.kt_history.specs.declared.target.Target.TheVariants.{Mem}
use Rattle.kt_history.specs.Rows.{Row, key_cmp}
use Rattle.kt_history.specs.Stores.{Store, Under, hist_in, push, change_of}
use Rattle.kt_histlaws.specs.Histories.{on_nth}
use Rattle.kt_pool.specs.Contents.{used}
use Rattle.kt_memrowset.specs.Stores as mem
use Rattle.kt_diskrowset.specs.declared.rowset.DiskRowSet.{DiskRowSet}
use Rattle.kt_diskrowset.specs.Rowset as rowset
use Rattle.kt_diskrowset.specs.Joining.{KeyUnder}
use Rattle.kt_stores.specs.Parts.{kept, shelved, stands_by, owns_by, read_by, AreKept}
use Rattle.kt_tablet.specs.Filling.{filled, filled_change}
use Rattle.kt_content.specs.Places.{Place, memory, disk}
use Rattle.kt_content.specs.Opening.{Placed}
use Rattle.kt_reopen.specs.declared.stores.Opening.{Opening}

-- they stand beside each other, the MemRowSet alone takes inserts, and all cells that are used are theirs
abbrev pub AreKeptIn : Opening → Type 0
AreKeptIn o = AreKept (stands_by rowset.IsStore) (owns_by rowset.Owns) (read_by (shelved rowset.name_of rowset.store_of (λ s. true) rowset.cells_had)) (kept o.mem [] o.rowsets.items) o.pool

-- what each holds, with its place. Inserts, which the MemRowSet alone has, are filled
abbrev pub placed : Row → Opening → Placed
placed fill o = (memory, filled fill (mem.store_of o.mem o.pool)) ∷ map (λ (d : DiskRowSet). (disk (rowset.held_of d).number, rowset.store_of d o.pool)) o.rowsets.items

-- the place of each, and its name
abbrev pub places_in : Opening → List Place
places_in o = memory ∷ map (λ (d : DiskRowSet). disk (rowset.held_of d).number) o.rowsets.items

abbrev pub names_in : Opening → List Target
names_in o = Mem (mem.number_of o.mem) ∷ map rowset.name_of o.rowsets.items

-- the files of each disk rowset
abbrev pub files_in : Opening → List rowset.HeldFiles
files_in o = map rowset.held_of o.rowsets.items

-- all that they have in memory of a key lies below a time
pub record KeyUnderIn (ts : ℕ) (q : List ℕ) (o : Opening) : Type 0 where
  pub mem : Under ts (hist_in q (mem.store_of o.mem o.pool)).steps
  pub rowsets : AllByRecursion (λ (d : DiskRowSet). KeyUnder ts q d o.pool) o.rowsets.items

-- the same of the store at a place, counted from 0
abbrev pub KeyUnderAt : ℕ → List ℕ → ℕ → Opening → Type 0
KeyUnderAt ts q zero o = Under ts (hist_in q (mem.store_of o.mem o.pool)).steps
KeyUnderAt ts q (suc i) o = (d : DiskRowSet) → slice_get o.rowsets.items i ≡ Some d → KeyUnder ts q d o.pool

abbrev pub AllUnder : ℕ → Opening → Type 0
AllUnder ts o = (q : List ℕ) → KeyUnderIn ts q o

-- the change of a key joins the store at a place, counted from 0
abbrev pub joined_nth : ℕ → ℕ → List ℕ → Change → Placed → Placed
joined_nth at ts q c stores = on_nth at (λ (s : Place × Store). (s.0, put key_cmp q (push ts c (hist_in q s.1)) s.1)) stores

-- the change of an operation of this kind, filled where it is an insert
abbrev pub change_by : Row → Kindly → RowOp → Change
change_by fill kind op = filled_change fill (change_of kind op.cells)

-- a key is none of these
abbrev pub IsNone : List ℕ → List (List ℕ) → Type 0
IsNone q [] = Unit {0}
IsNone q (k ∷ keys) = (q ≢ k) × IsNone q keys

-- They stand, in their order, under their names and with their files, and no cell has been lost
pub record Ends (o n : Opening) : Type 0 where
  pub kept : AreKeptIn n
  pub places : places_in n ≡ places_in o
  pub names : names_in n ≡ names_in o
  pub files : files_in n ≡ files_in o
  pub open_ : mem.is_frozen n.mem ≡ mem.is_frozen o.mem
  pub even : used n.pool + n.pool.reserved ≡ used o.pool + o.pool.reserved
  pub size : length n.pool.places ≡ length o.pool.places

-- The stores have become these by changes of these keys, in so many reserved cells at most
pub record Goes (o n : Opening) (ts most : ℕ) (keys : List (List ℕ)) : Type 0 where
  pub ends : Ends o n
  pub apart : (q : List ℕ) → IsNone q keys → KeyUnderIn ts q o → KeyUnderIn ts q n
  pub later : (later : ℕ) → ts < later → AllUnder later o → AllUnder later n
  pub room : (k : ℕ) → most + k ≤ o.pool.reserved → k ≤ n.pool.reserved

-- one change has joined the store at a place
pub record JoinsAt (o n : Opening) (at ts : ℕ) (op : RowOp) (kind : Kindly) (most : ℕ) : Type 0 where
  pub goes : Goes o n ts most (op.key ∷ [])
  pub beside : (other : ℕ) → other ≢ at → KeyUnderAt ts op.key other o → KeyUnderAt ts op.key other n
  pub joined : (fill : Row) → placed fill n ≡ joined_nth at ts op.key (change_by fill kind op) (placed fill o)
