-- A store with its superblock: which one a crash leaves, and the data files that it names.
use Rattle.std.specs.Prelude.{◌≡◌, ◌⊎◌, ℕ, ◌+◌, ◌≤◌, List, [], ◌∷◌, Some, Ok}
use Rattle.kt_disk.specs.Disk.{Files, held, ButFiles}
use Rattle.kt_super.specs.declared.meta.Meta.{Meta}
use Rattle.kt_super.specs.Body.{IsMeta}
use Rattle.kt_super.specs.Slots.{super_of, slot_at, IsSlot, AreStable}
use Rattle.kt_files.specs.Named.{named_in, HasNamed}

-- the numbers of the data files that a superblock names
abbrev pub named : Meta → List ℕ
named m = named_in m.rowsets

-- nothing is pending of them: each image has them as the disk reads
abbrev pub FilesStand : {D : Type 0} → (D → Files) → (D → ℕ) → (D → ℕ → Files → Type 0) → Meta → D → Type 0
FilesStand seen now leaves m disk = (c : Files) → leaves disk (now disk) c → HasNamed m.rowsets (seen disk) c

-- It is the superblock of the disk, nothing of a slot is pending, and nothing of the data files that it names.
pub record Publishes {D : Type 0} (seen : D → Files) (now : D → ℕ) (leaves : D → ℕ → Files → Type 0) (m : Meta) (disk : D) : Type 0 where
  pub superblock : super_of (seen disk) ≡ Ok (Some m)
  pub slots : AreStable seen now leaves disk
  pub files : FilesStand seen now leaves m disk

-- an image with this superblock, and with the data files that it names as these files have them
pub record HasSuper (files : Files) (m : Meta) (c : Files) : Type 0 where
  pub superblock : super_of c ≡ Ok (Some m)
  pub named_are : HasNamed m.rowsets files c

-- A superblock that may come behind another: it keeps the rules, has the next number, and names no number that is still to be given.
pub record IsSuccessor (m : Meta) (next_rowset next_file : ℕ) (later : Meta) : Type 0 where
  pub rules : IsMeta later
  pub number : later.number ≡ m.number + 1
  pub rowsets : later.next_rowset ≤ next_rowset
  pub files : later.next_file ≤ next_file

-- each open slot of an image spells what it spells in these files, or this superblock
abbrev pub SpellNoOther : Files → Meta → Files → Type 0
SpellNoOther files later c = (slot : ℕ) → IsSlot slot → (m : Meta) → slot_at slot (held c slot) ≡ Ok (Some m) → (slot_at slot (held files slot) ≡ Ok (Some m)) ⊎ (m ≡ later)

-- an image has the superblock of the disk or this one, no slot of it spells another that is new, and all files but the slots are as an image of the disk has them
pub record BetweenBoth {D : Type 0} (seen : D → Files) (now : D → ℕ) (leaves : D → ℕ → Files → Type 0) (later : Meta) (disk : D) (c : Files) : Type 0 where
  pub superblock : (super_of c ≡ super_of (seen disk)) ⊎ (super_of c ≡ Ok (Some later))
  pub slots : SpellNoOther (seen disk) later c
  pub others : ButFiles now leaves disk (1 ∷ 2 ∷ []) c

-- nothing is pending of the data files that the superblock of an image names
abbrev pub NamedStand : {D : Type 0} → (D → Files) → (D → ℕ) → (D → ℕ → Files → Type 0) → D → Type 0
NamedStand seen now leaves disk = (files : Files) → leaves disk (now disk) files → (m : Meta) → super_of files ≡ Ok (Some m) → FilesStand seen now leaves m disk
