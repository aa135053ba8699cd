-- What the files of a superblock hold, and which of them is the first at fault.
use Rattle.std.specs.Prelude.{◌≡◌, ℕ, ◌-◌, ◌==◌, ◌&&◌, Bool, true, false, List, [], ◌∷◌, ◌++◌, length}
use Rattle.std.specs.Int.{w32, to_le_bytes}
use Rattle.kt_disk.specs.Disk.{Files}
use Rattle.kt_files.specs.Bytes.{bytes_of, IsThere, IsFileFault}
use Rattle.kt_bytes.specs.Places as fields
use Rattle.kt_super.specs.declared.meta.FileRef.{FileRef}
use Rattle.kt_super.specs.declared.meta.MetaRowset.{MetaRowset}
use Rattle.kt_baseset.specs.Tables.{BaseValue}
use Rattle.kt_baseset.specs.Spelling.{SpellsBase}
use Rattle.kt_baseset.specs.Reading as base
use Rattle.kt_deltafile.specs.declared.file.Way.{Way}
use Rattle.kt_deltafile.specs.declared.file.Way.TheVariants.{Redo, Undo}
use Rattle.kt_deltafile.specs.File.{FileView}
use Rattle.kt_deltafile.specs.Rules.{FileFits}
use Rattle.kt_deltafile.specs.Spelling.{ktd1, way_byte, spelling}
use Rattle.kt_deltafile.specs.Fields.{Spelled}
use Rattle.kt_diskrowset.specs.Rowset.{HeldFiles}

-- ---- base files

-- the file and its length are these, and its bytes are those of a base file with this schema and these rows
pub record HoldsBase (files : Files) (f : FileRef) (held_base : ℕ × ℕ × BaseValue) : Type 0 where
  pub file : held_base.0 ≡ f.file
  pub len : held_base.1 ≡ f.len
  pub there : IsThere files f
  pub spelled : SpellsBase held_base.2.schema held_base.2.rows (bytes_of files f)

-- the first fault of bytes that are no base file
pub record IsNoBase (bytes : List ℕ) (offset : ℕ) : Type 0 where
  pub left : ℕ
  pub fault : base.IsFault bytes left
  pub at : offset ≡ length bytes - left

-- the file is shorter than its length, or no base file
abbrev pub IsBaseFault : Files → FileRef → ℕ → Type 0
IsBaseFault files f offset = IsFileFault files f IsNoBase offset

-- ---- delta files

-- whether bytes begin with these
abbrev pub begins : List ℕ → List ℕ → Bool
begins [] bytes = true
begins (x ∷ xs) [] = false
begins (x ∷ xs) (b ∷ bytes) = (b == x) && begins xs bytes

-- whether they begin as those of a delta file of this way
abbrev pub leads : Way → List ℕ → Bool
leads way bytes = begins (to_le_bytes w32 ktd1 ++ way_byte way ∷ []) bytes

abbrev pub other_way : Way → Way
other_way Redo = Undo
other_way Undo = Redo

-- the first fault of bytes that are no delta file of this way over so many rows: the byte of the way where they lead the
-- other way, and else where they are no delta file at all
pub data IsNoDeltas (way : Way) (rows : ℕ) (bytes : List ℕ) (offset : ℕ) : Type 0 where
  turned : leads (other_way way) bytes ≡ true → offset ≡ 4 → IsNoDeltas way rows bytes offset
  no_file : leads (other_way way) bytes ≡ false → fields.IsFault (Spelled rows) bytes offset → IsNoDeltas way rows bytes offset

-- the file and its length are these, and its bytes are those of a delta file of this way with these records, whose ordinals
-- lie below so many rows
pub record HoldsDeltas (files : Files) (way : Way) (rows : ℕ) (f : FileRef) (held_file : ℕ × ℕ × FileView) : Type 0 where
  pub file : held_file.0 ≡ f.file
  pub len : held_file.1 ≡ f.len
  pub there : IsThere files f
  pub way_is : held_file.2.way ≡ way
  pub fits : FileFits way rows held_file.2.list
  pub spelled : bytes_of files f ≡ spelling way held_file.2.list

-- the file is shorter than its length, or no delta file of this way
abbrev pub IsDeltasFault : Files → Way → ℕ → FileRef → ℕ → Type 0
IsDeltasFault files way rows f offset = IsFileFault files f (IsNoDeltas way rows) offset

-- files in order, each with what it holds
abbrev pub HoldEach : Files → Way → ℕ → List FileRef → List (ℕ × ℕ × FileView) → Type 0
HoldEach files way rows [] [] = Unit {0}
HoldEach files way rows [] (h ∷ hs) = ⊥
HoldEach files way rows (f ∷ fs) [] = ⊥
HoldEach files way rows (f ∷ fs) (h ∷ hs) = HoldsDeltas files way rows f h × HoldEach files way rows fs hs

-- the first of some files at fault: those before it hold records
pub record IsListFault (files : Files) (way : Way) (rows : ℕ) (list : List FileRef) (file offset : ℕ) : Type 0 where
  pub front : List FileRef
  pub next : FileRef
  pub behind : List FileRef
  pub parts : list ≡ front ++ next ∷ behind
  pub records : List (ℕ × ℕ × FileView)
  pub stand : HoldEach files way rows front records
  pub fault : IsDeltasFault files way rows next offset
  pub file_is : file ≡ next.file

-- ---- disk rowsets

-- what the files of a disk rowset hold: its base file, its UNDO files and its REDO files
pub record HoldsRowset (files : Files) (r : MetaRowset) (held_files : HeldFiles) : Type 0 where
  pub number : held_files.number ≡ r.rowset
  pub base : HoldsBase files r.base held_files.base
  pub undos : HoldEach files Undo (length held_files.base.2.rows) r.undo held_files.undos
  pub redos : HoldEach files Redo (length held_files.base.2.rows) r.redo held_files.redos

-- the first of its files at fault: the base file, or one of the UNDO files where the base file stands, or one of the REDO
-- files where all of these stand
pub data IsRowsetFault (files : Files) (r : MetaRowset) (file offset : ℕ) : Type 0 where
  in_base : file ≡ r.base.file → IsBaseFault files r.base offset → IsRowsetFault files r file offset
  in_undo : (held_base : ℕ × ℕ × BaseValue) → HoldsBase files r.base held_base → IsListFault files Undo (length held_base.2.rows) r.undo file offset → IsRowsetFault files r file offset
  in_redo : (held_base : ℕ × ℕ × BaseValue) → HoldsBase files r.base held_base → (undos : List (ℕ × ℕ × FileView)) → HoldEach files Undo (length held_base.2.rows) r.undo undos
      → IsListFault files Redo (length held_base.2.rows) r.redo file offset → IsRowsetFault files r file offset

-- disk rowsets in order, each with what its files hold
abbrev pub HoldAll : Files → List MetaRowset → List HeldFiles → Type 0
HoldAll files [] [] = Unit {0}
HoldAll files [] (h ∷ hs) = ⊥
HoldAll files (r ∷ rs) [] = ⊥
HoldAll files (r ∷ rs) (h ∷ hs) = HoldsRowset files r h × HoldAll files rs hs

-- the first file of some disk rowsets at fault: those before its own stand
pub record IsFirstFault (files : Files) (rowsets : List MetaRowset) (file offset : ℕ) : Type 0 where
  pub front : List MetaRowset
  pub next : MetaRowset
  pub behind : List MetaRowset
  pub parts : rowsets ≡ front ++ next ∷ behind
  pub before : List HeldFiles
  pub stand : HoldAll files front before
  pub fault : IsRowsetFault files next file offset
