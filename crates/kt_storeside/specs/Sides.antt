-- What a contract sees of the store of an engine.
use Rattle.std.specs.Prelude.{◌≡◌, ◌⊎◌, ℕ, ◌+◌, ◌^◌, ◌≤◌, max, Bool, true, false, IsTrue, List, [], ◌∷◌, Option, Some, None, Ok}
use Rattle.std.specs.List.{AllByRecursion}
use Rattle.kt_base.specs.Causes.{Rose}
use Rattle.kt_disk.specs.Disk.{Files, held, LeavesOnly}
use Rattle.kt_super.specs.declared.meta.Meta.{Meta}
use Rattle.kt_super.specs.declared.meta.MetaRowset.{MetaRowset}
use Rattle.kt_super.specs.Body.{IsMeta}
use Rattle.kt_super.specs.Slots.{slot_at, IsSlot}
use Rattle.kt_storeside.specs.Supers.{FilesStand, Publishes, HasSuper, IsSuccessor, NamedStand}
use Rattle.kt_storeside.specs.Published.{WasPublished, published_last}

-- ---- how great the numbers of a superblock may grow

-- bounds on the number of a superblock, on that of the last MemRowSet in files, and on those of the last DeltaMemStores in files
pub record Most : Type 0 where
  pub number : ℕ
  pub last_mem : ℕ
  pub last_dms : ℕ

-- the superblock lies within them
pub record IsWithin (most : Most) (m : Meta) : Type 0 where
  pub number : m.number ≤ most.number
  pub last_mem : m.last_mem ≤ most.last_mem
  pub last_dms : AllByRecursion (λ (r : MetaRowset). r.last_dms ≤ most.last_dms) m.rowsets

-- the greatest number of a DeltaMemStore in files, or this one
abbrev pub greatest_dms : ℕ → List MetaRowset → ℕ
greatest_dms least [] = least
greatest_dms least (r ∷ rowsets) = max r.last_dms (greatest_dms least rowsets)

-- what lies 2^44 above this number, and otherwise above what a superblock has, 2^24 above this MemRowSet and 2^44 above this rowset number
abbrev pub most_above : ℕ → Meta → ℕ → ℕ → Most
most_above number m mem rowset = record { number = number + 2 ^ 44; last_mem = max m.last_mem (mem + 2 ^ 24); last_dms = greatest_dms (rowset + 2 ^ 44) m.rowsets }

-- those of a store that begins with this superblock, where this MemRowSet takes inserts and this rowset number comes next
abbrev pub most_from : Meta → ℕ → ℕ → Most
most_from m mem rowset = most_above m.number m mem rowset

-- how a store began: its device, and the bounds on the superblocks that it publishes
pub record Beginning (D : Type 0) : Type 0 where
  pub device : D
  pub most : Most

-- ---- the store

-- known is the device as it is, or as it last went out; home is the device where it is at home; holder is the pass that has it out. meta is the
-- superblock that is published, and lent the one that went out to be. The next numbers have not been given yet. After a fault it is no longer whole. first is
-- how the side began.
pub record StoreView (D : Type 0) : Type 0 where
  pub home : Option D
  pub known : D
  pub holder : Option ℕ
  pub meta : Meta
  pub lent : Option Meta
  pub next_rowset : ℕ
  pub next_file : ℕ
  pub whole : Bool
  pub first : Beginning D

-- the device as it is, where it is at home and whole, and else as it went out
abbrev pub known_in : {D : Type 0} → Option D → Bool → D → D
known_in None whole went = went
known_in (Some disk) true went = disk
known_in (Some disk) false went = went

-- the superblock that went out, unless the device is at home and whole
abbrev pub lent_in : {D : Type 0} → Option D → Bool → Option Meta → Option Meta
lent_in None whole lent = lent
lent_in (Some disk) true lent = None
lent_in (Some disk) false lent = lent

abbrev pub holder_in : {D : Type 0} → Option D → ℕ → Option ℕ
holder_in None by = Some by
holder_in (Some disk) by = None

-- the store as its parts are: the device where it is at home, the pass that has it out otherwise, and the device and the superblock as they last went out
abbrev pub side_of : {D : Type 0} → Option D → Bool → D → ℕ → Meta → Option Meta → ℕ → ℕ → Beginning D → StoreView D
side_of home whole went by meta lent next_rowset next_file first = record { home = home; known = known_in home whole went; holder = holder_in home by; meta = meta; lent = lent_in home whole lent; next_rowset = next_rowset; next_file = next_file; whole = whole; first = first }

-- the superblock that is published once the device is home
abbrev pub published_in : Bool → Option Meta → Meta → Meta
published_in true (Some lent) meta = lent
published_in true None meta = meta
published_in false lent meta = meta

-- An image has the published superblock or the one that was lent, and the data files that it names as the known device reads
abbrev pub HasEither : {D : Type 0} → (D → Files) → StoreView D → Files → Type 0
HasEither seen v c = HasSuper (seen v.known) v.meta c ⊎ ((m : Meta) × (v.lent ≡ Some m) × HasSuper (seen v.known) m c)

-- so does each image of a device
abbrev pub LeavesEither : {D : Type 0} → (D → Files) → (D → ℕ) → (D → ℕ → Files → Type 0) → StoreView D → D → Type 0
LeavesEither seen now leaves v disk = (c : Files) → leaves disk (now disk) c → HasEither seen v c

-- each open slot of an image spells what it spells in these files, or the superblock that was lent
abbrev pub SpellLent : Files → Option Meta → Files → Type 0
SpellLent files lent c = (slot : ℕ) → IsSlot slot → (m : Meta) → slot_at slot (held c slot) ≡ Ok (Some m) → (slot_at slot (held files slot) ≡ Ok (Some m)) ⊎ (lent ≡ Some m)

-- so does each image of a device
abbrev pub LeavesSpelled : {D : Type 0} → (D → ℕ) → (D → ℕ → Files → Type 0) → Files → Option Meta → D → Type 0
LeavesSpelled now leaves files lent disk = (c : Files) → leaves disk (now disk) c → SpellLent files lent c

-- a superblock may be lent: it is a successor within the bounds, and the data files that it names stand
pub record MayBeLent {D : Type 0} (tells : Bool) (seen : D → Files) (now : D → ℕ) (leaves : D → ℕ → Files → Type 0) (v : StoreView D) (m : Meta) : Type 0 where
  pub next : IsSuccessor v.meta v.next_rowset v.next_file m
  pub within : IsWithin v.first.most m
  pub files : IsTrue tells → FilesStand seen now leaves m v.known

-- A superblock that was made: it keeps the rules, lies within the bounds, and has no number that is still to be given
pub record IsMade (most : Most) (published next_rowset next_file : ℕ) (m : Meta) : Type 0 where
  pub rules : IsMeta m
  pub within : IsWithin most m
  pub number : m.number ≤ published + 1
  pub rowsets : m.next_rowset ≤ next_rowset
  pub files : m.next_file ≤ next_file

-- each open slot of these files spells what it spelled when the side began, or a superblock that was made since
abbrev pub SpellMade : {D : Type 0} → (D → Files) → StoreView D → Files → Type 0
SpellMade seen v c = (slot : ℕ) → IsSlot slot → (m : Meta) → slot_at slot (held c slot) ≡ Ok (Some m) → (slot_at slot (held (seen v.first.device) slot) ≡ Ok (Some m)) ⊎ IsMade v.first.most v.meta.number v.next_rowset v.next_file m

-- The store stands: the known device publishes its superblock, which lies within the bounds, no file has a number that is still to be given, and what was lent may be. After
-- a fault each image has one of both superblocks. At home nothing is pending of the data files that the superblock of an image names, and no slot of one
-- spells another superblock than it spelled as the known device reads, or than the lent one; as that reads, none than when the side began, or than were made
-- since. Since it began nothing was done to the store but turns, up to the known device, and from there to one that came home after a fault a crash left the
-- published superblock or the lent one.
pub record IsSide {D : Type 0} (tells : Bool) (seen : D → Files) (now : D → ℕ) (leaves : D → ℕ → Files → Type 0) (faults : D → ℕ) (v : StoreView D) : Type 0 where
  pub rules : IsMeta v.meta
  pub within : IsWithin v.first.most v.meta
  pub rowsets : v.meta.next_rowset ≤ v.next_rowset
  pub files : v.meta.next_file ≤ v.next_file
  pub publishes : IsTrue tells → Publishes seen now leaves v.meta v.known
  pub vacant : IsTrue tells → (n : ℕ) → v.next_file ≤ n → seen v.known n ≡ None
  pub lent_is : (m : Meta) → v.lent ≡ Some m → MayBeLent tells seen now leaves v m
  pub broken : v.whole ≡ false → (disk : D) → v.home ≡ Some disk → IsTrue tells → LeavesEither seen now leaves v disk
  pub rose : v.whole ≡ false → (disk : D) → v.home ≡ Some disk → Rose (faults v.known) (faults disk)
  pub stand : (disk : D) → v.home ≡ Some disk → IsTrue tells → NamedStand seen now leaves disk
  pub slots : IsTrue tells → SpellMade seen v (seen v.known)
  pub spells : (disk : D) → v.home ≡ Some disk → IsTrue tells → LeavesSpelled now leaves (seen v.known) v.lent disk
  pub was : IsTrue tells → (was : WasPublished seen now leaves v.first.device v.known) × (published_last was ≡ record { meta = v.meta; files = seen v.known })
  pub last : v.whole ≡ false → (disk : D) → v.home ≡ Some disk → IsTrue tells → LeavesOnly now leaves (HasEither seen v) v.known disk
