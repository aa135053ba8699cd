-- What a crash leaves of both devices, and what the images before a call and those after it have in common.
use Rattle.std.specs.Prelude.{◌≡◌, ◌≢◌, ◌⊎◌, ℕ, ◌+◌, ◌^◌, ◌<◌, ◌≤◌, Bool, IsTrue, true, List, ◌∷◌, ◌++◌, Some, None, Ok}
use Rattle.std.specs.List.{Contains, flat_map}
use Rattle.kt_disk.specs.Disk.{Files, held}
use Rattle.kt_journal.specs.Frames.{frames_of}
use Rattle.kt_journal.specs.Numbers as journal
use Rattle.kt_schema.specs.declared.column.Column.{Column}
use Rattle.kt_super.specs.declared.meta.Meta.{Meta}
use Rattle.kt_super.specs.declared.meta.MetaRowset.{MetaRowset}
use Rattle.kt_super.specs.Body.{IsMeta}
use Rattle.kt_super.specs.Rowsets.{has, numbers_of}
use Rattle.kt_super.specs.Slots.{super_of, slot_at, IsSlot}
use Rattle.kt_files.specs.Named.{named_in}
use Rattle.kt_storeside.specs.Sides.{Most, IsWithin}
use Rattle.kt_reopen.specs.Holding.{AreAlikePairs}
use Rattle.kt_reopen.specs.Opened.{first_meta}
use Rattle.kt_engine.specs.Near.{most_rowsets, most_files}

-- the files of the log's device, and those of the store
pub record Image : Type 0 where
  pub log : Files
  pub store : Files

-- the images that a crash now may leave of a device, where it tells them
abbrev pub CrashLeaves : {D : Type 0} → Bool → (D → ℕ) → (D → ℕ → Files → Type 0) → D → Files → Type 0
CrashLeaves tells now leaves disk files = IsTrue tells × leaves disk (now disk) files

-- the files that a read of a device gives, where it tells them
abbrev pub IsRead : {D : Type 0} → Bool → (D → Files) → D → Files → Type 0
IsRead tells seen disk files = IsTrue tells × (files ≡ seen disk)

-- an image of both devices has one of each: a crash stops both, and no clock joins theirs
abbrev pub Both : (Files → Type 0) → (Files → Type 0) → Image → Type 0
Both logs stores image = logs image.log × stores image.store

-- ---- devices that hold what they held

-- each image after has the frames of the log, and all other files, of one before
abbrev pub KeepsFrames : (Files → Type 0) → (Files → Type 0) → Type 0
KeepsFrames before after = (files : Files) → after files → (old : Files) × before old × (frames_of 1 files ≡ frames_of 1 old) × ((n : ℕ) → n ≢ 1 → files n ≡ old n)

-- each image after has all files but the log's of one before
abbrev pub KeepsFiles : (Files → Type 0) → (Files → Type 0) → Type 0
KeepsFiles before after = (files : Files) → after files → (old : Files) × before old × ((n : ℕ) → n ≢ 1 → files n ≡ old n)

-- a store has the superblock of another and the data files that it names, or the first superblock of a table where the other has none
pub record HasSuperOf (columns : List Column) (old files : Files) : Type 0 where
  pub superblock : (super_of files ≡ super_of old) ⊎ ((super_of old ≡ Ok None) × (super_of files ≡ Ok (Some (first_meta columns))))
  pub named : (m : Meta) → super_of old ≡ Ok (Some m) → (n : ℕ) → has (named_in m.rowsets) n ≡ true → files n ≡ old n

abbrev pub KeepsSuper : List Column → (Files → Type 0) → (Files → Type 0) → Type 0
KeepsSuper columns before after = (files : Files) → after files → (old : Files) × before old × HasSuperOf columns old files

-- Each image of both devices after holds, by any rules of the table, just the pasts of one before, and opening answers both the same. The log has the
-- frames of one before, and the store its superblock with the files that it names.
pub record LeavesAsBefore (columns : List Column) (logs logs' stores stores' : Files → Type 0) : Type 0 where
  pub frames : KeepsFrames logs logs'
  pub superblock : KeepsSuper columns stores stores'
  pub both : (image : Image) → Both logs' stores' image → (old : Image) × Both logs stores old × AreAlikePairs columns image.log image.store old.log old.store

-- ---- numbers

abbrev pub numbers_by : MetaRowset → List ℕ
numbers_by r = r.rowset ∷ r.last_dms ∷ r.base.file ∷ (numbers_of r.undo ++ numbers_of r.redo)

-- the numbers of rowsets, files, stores and superblocks that a superblock spells, with those that it gives next
abbrev pub numbers_in : Meta → List ℕ
numbers_in m = m.number ∷ m.last_mem ∷ m.next_rowset ∷ m.next_file ∷ flat_map numbers_by m.rowsets

-- a number that an open slot spells
pub record IsSlotNumber (files : Files) (n : ℕ) : Type 0 where
  pub slot : ℕ
  pub is_slot : IsSlot slot
  pub superblock : Meta
  pub spells : slot_at slot (held files slot) ≡ Ok (Some superblock)
  pub has : Contains (numbers_in superblock) n

-- a number that the log names, or that of a file beside it, or one that an open slot of the store spells
abbrev pub IsNumberOf : Image → ℕ → Type 0
IsNumberOf image n = journal.IsNumberOf image.log n ⊎ IsSlotNumber image.store n

-- no number of these images is greater
abbrev pub AreUpTo : ℕ → (Image → Type 0) → Type 0
AreUpTo bound images = (image : Image) → images image → (n : ℕ) → IsNumberOf image n → n ≤ bound

-- Every number that a log after names, that of each file beside it, and each that an open slot of a store after spells, is less than 2^45 above the greater
-- of 3 and the greatest number of the images before.
abbrev pub NumbersAreNear : (Image → Type 0) → (Image → Type 0) → Type 0
NumbersAreNear before after = (bound : ℕ) → 3 ≤ bound → AreUpTo bound before → (image : Image) → after image → (n : ℕ) → IsNumberOf image n → n < bound + 2 ^ 45

-- ---- superblocks that a run makes

-- its numbers of rowsets and files are near those that the run gave first, and the others lie within the bounds of the store
pub record IsMadeNear (first_rowset first_file : ℕ) (most : Most) (m : Meta) : Type 0 where
  pub rules : IsMeta m
  pub within : IsWithin most m
  pub rowsets : m.next_rowset ≤ first_rowset + most_rowsets
  pub files : m.next_file ≤ first_file + most_files

-- each open slot of these files spells what it spells in the old ones, or such a superblock
abbrev pub SpellNear : ℕ → ℕ → Most → Files → Files → Type 0
SpellNear first_rowset first_file most old files = (slot : ℕ) → IsSlot slot → (m : Meta) → slot_at slot (held files slot) ≡ Ok (Some m) → (slot_at slot (held old slot) ≡ Ok (Some m)) ⊎ IsMadeNear first_rowset first_file most m
