-- The stores of a tablet one by one, as they stand beside each other in their pool.
use Rattle.std.specs.Prelude.{◌≡◌, ◌+◌, ℕ, Bool, false, List, [], ◌∷◌, ◌++◌, map, Some, None, slice_get, ◌⊎◌}
use Rattle.std.specs.Option.{option_map}
use Rattle.std.proofs.Common.{inl, inr}
use Rattle.kt_history.specs.Beside.{AllStand, AreApart}
use Rattle.kt_history.specs.declared.operation.RowOp.{RowOp}
use Rattle.kt_history.specs.declared.row_store.Taken.{Taken}
use Rattle.kt_history.specs.declared.target.Target.{Target}
use Rattle.kt_history.specs.declared.target.Target.TheVariants.{Mem}
use Rattle.kt_history.specs.Stores.{Store, Under, hist_in, kind_made, change_by, is_there, with_change, share, TakesUpTo}
use Rattle.kt_histlaws.specs.Histories.{on_nth}
use Rattle.kt_memrowset.specs.declared.store.MemRowSet.{MemRowSet}
use Rattle.kt_memrowset.specs.Stores.{IsStore, store_of, number_of, is_frozen, Owns, cells_had}
use Rattle.kt_pool.specs.Contents.{Contents, at_cell, used}
use Rattle.kt_stores.specs.Shelf.{Shelved, FirstIsOpen, AreExact, cells_in}

-- a store as it stands in a pool
abbrev pub shelved : {R : Type 0} → (R → Target) → (R → Contents → Store) → (R → Bool) → (R → Contents → ℕ) → R → Contents → Shelved
shelved target store closed cells s pool = record { name = target s; store = store s pool; closed = closed s; cells = cells s pool }

abbrev pub shelved_mem : MemRowSet → Contents → Shelved
shelved_mem s pool = shelved (λ s. Mem (number_of s)) store_of is_frozen cells_had s pool

-- the stores of a tablet in their order
abbrev pub kept : {R : Type 0} → MemRowSet → List MemRowSet → List R → List (MemRowSet ⊎ R)
kept active frozen rowsets = inl active ∷ map inl frozen ++ map inr rowsets

-- what is said of a MemRowSet and of a disk rowset, said of either
abbrev pub stands_by : {R : Type 0} → (R → Contents → Type 0) → MemRowSet ⊎ R → Contents → Type 0
stands_by stands (inl s) pool = IsStore s pool
stands_by stands (inr s) pool = stands s pool

abbrev pub owns_by : {R : Type 0} → (R → Contents → ℕ → Type 0) → MemRowSet ⊎ R → Contents → ℕ → Type 0
owns_by owns (inl s) pool k = Owns s pool k
owns_by owns (inr s) pool k = owns s pool k

abbrev pub read_by : {R : Type 0} → (R → Contents → Shelved) → MemRowSet ⊎ R → Contents → Shelved
read_by read (inl s) pool = shelved_mem s pool
read_by read (inr s) pool = read s pool

-- stores as they stand in a pool
abbrev pub shelf_of : {X : Type 0} → (X → Contents → Shelved) → Contents → List X → List Shelved
shelf_of read pool xs = map (λ x. read x pool) xs

-- the stores stand, no cell is owned by two, all cells that are used are theirs, the first alone takes inserts, and one without a row has no cell
pub record AreKept {X : Type 0} (stands : X → Contents → Type 0) (owns : X → Contents → ℕ → Type 0) (read : X → Contents → Shelved) (xs : List X) (pool : Contents) : Type 0 where
  pub stand : AllStand stands pool xs
  pub apart : AreApart owns pool xs
  pub counted : used pool ≡ cells_in (shelf_of read pool xs)
  pub first : FirstIsOpen (shelf_of read pool xs)
  pub exact : AreExact (shelf_of read pool xs)

-- a store, which stands, owns places that were vacant beside its own, and no place of another has changed
pub record HasGrown {X : Type 0} (stands : X → Contents → Type 0) (owns : X → Contents → ℕ → Type 0) (x y : X) (old new : Contents) : Type 0 where
  pub here : stands y new
  pub grows : (k : ℕ) → owns y new k → owns x old k ⊎ (at_cell old k ≡ None)
  pub frame : (k : ℕ) → ¬ owns y new k → at_cell new k ≡ at_cell old k

-- it has taken the change of an operation, if that makes one, and tells so
pub record HasTaken {X : Type 0} (stands : X → Contents → Type 0) (owns : X → Contents → ℕ → Type 0) (read : X → Contents → Shelved) (x y : X) (old new : Contents) (ts : ℕ) (op : RowOp) (taken : Taken) : Type 0 where
  pub grown : HasGrown stands owns x y old new
  pub there : taken.there ≡ is_there op (read x old).store
  pub changed : Under ts (hist_in op.key (read x old).store).steps → (read y new).store ≡ with_change op.key ts (change_by op taken.there) (read x old).store
  pub named : taken.target ≡ option_map (λ _. (read x old).name) (kind_made op.kind taken.there)
  pub name : (read y new).name ≡ (read x old).name
  pub closed : (read y new).closed ≡ (read x old).closed
  pub takes : TakesUpTo (share op) old new
  pub more : (read y new).cells + used old ≡ (read x old).cells + used new
  pub has_row : (read y new).store ≡ [] → taken.target ≡ None
  pub idle : taken.target ≡ None → (read y new ≡ read x old) × (new ≡ old)

-- store i has, and the others are the same stores
pub record HasTakenAt {X : Type 0} (stands : X → Contents → Type 0) (owns : X → Contents → ℕ → Type 0) (read : X → Contents → Shelved) (i : ℕ) (xs ys : List X) (old new : Contents) (ts : ℕ) (op : RowOp) (taken : Taken) : Type 0 where
  pub before : X
  pub after : X
  pub at : slice_get xs i ≡ Some before
  pub is : ys ≡ on_nth i (λ _. after) xs
  pub one : HasTaken stands owns read before after old new ts op taken

-- store i takes inserts, or it has the row of the operation
abbrev pub MayTakeAt : {X : Type 0} → (X → Contents → Shelved) → ℕ → List X → Contents → RowOp → Type 0
MayTakeAt {X} read i xs pool op = (x : X) → slice_get xs i ≡ Some x → is_there op (read x pool).store ≡ false → (read x pool).closed ≡ false
