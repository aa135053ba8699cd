-- The fields of a superblock's body, which tell the place of a fault.
use Rattle.std.specs.Prelude.{◌≡◌, ◌<◌, ◌^◌, ℕ, List, [], ◌∷◌, ◌++◌, length, Option, Some, None}
use Rattle.std.specs.List.{flat_map}
use Rattle.std.specs.Int.{w8, w16, w32, w64, to_le_bytes, cast_unsigned}
use Rattle.kt_base.specs.declared.cell.Cell.{Cell}
use Rattle.kt_base.specs.declared.cell.Cell.TheVariants as cell
use Rattle.kt_schema.specs.declared.column.Column.{Column}
use Rattle.kt_bytes.specs.Places.{IsSpelled}
use Rattle.kt_super.specs.declared.meta.Meta.{Meta}
use Rattle.kt_super.specs.declared.meta.MetaRowset.{MetaRowset}
use Rattle.kt_super.specs.declared.meta.FileRef.{FileRef}
use Rattle.kt_super.specs.declared.body.Head.{Head}
use Rattle.kt_super.specs.Columns.{bit, kind_number, flags_of}
use Rattle.kt_super.specs.Body.{slot_for, format, head_of, IsMeta}

-- a cell: its tag, and what it stands for
abbrev pub cell_fields : Cell → List (List ℕ)
cell_fields cell.Null = to_le_bytes w8 0 ∷ []
cell_fields (cell.Bool b) = to_le_bytes w8 1 ∷ to_le_bytes w8 (bit b) ∷ []
cell_fields (cell.Int z) = to_le_bytes w8 2 ∷ to_le_bytes w64 (cast_unsigned w64 z) ∷ []
cell_fields (cell.Bytes text) = to_le_bytes w8 3 ∷ to_le_bytes w32 (length text) ∷ text ∷ []

abbrev pub default_fields : Option Cell → List (List ℕ)
default_fields None = []
default_fields (Some c) = cell_fields c

-- a column: its id, the length of its name, its name, its kind, its flags, and its default
abbrev pub column_fields : Column → List (List ℕ)
column_fields c = to_le_bytes w16 c.id ∷ to_le_bytes w8 (length c.name) ∷ c.name ∷ to_le_bytes w8 (kind_number c.kind) ∷ to_le_bytes w8 (flags_of c) ∷ default_fields c.default

abbrev pub columns_fields : List Column → List (List ℕ)
columns_fields columns = to_le_bytes w16 (length columns) ∷ flat_map column_fields columns

abbrev pub file_fields : FileRef → List (List ℕ)
file_fields f = to_le_bytes w64 f.file ∷ to_le_bytes w64 f.len ∷ []

abbrev pub files_fields : List FileRef → List (List ℕ)
files_fields files = to_le_bytes w32 (length files) ∷ flat_map file_fields files

abbrev pub rowset_fields : MetaRowset → List (List ℕ)
rowset_fields r = to_le_bytes w64 r.rowset ∷ to_le_bytes w64 r.last_dms ∷ file_fields r.base ++ (files_fields r.undo ++ files_fields r.redo)

abbrev pub rowsets_fields : List MetaRowset → List (List ℕ)
rowsets_fields rowsets = to_le_bytes w32 (length rowsets) ∷ flat_map rowset_fields rowsets

abbrev pub head_fields : Head → List (List ℕ)
head_fields h = to_le_bytes w16 format ∷ to_le_bytes w64 h.number ∷ to_le_bytes w64 h.a ∷ to_le_bytes w64 h.c ∷ to_le_bytes w64 h.need ∷ to_le_bytes w64 h.last_mem
    ∷ to_le_bytes w64 h.next_rowset ∷ to_le_bytes w64 h.next_file ∷ to_le_bytes w16 h.next_column ∷ []

-- a body: the numbers at its head, the columns behind their count, and the rowsets behind theirs
abbrev pub body_fields : Meta → List (List ℕ)
body_fields m = head_fields (head_of m) ++ (columns_fields m.schema ++ rowsets_fields m.rowsets)

-- lists of files that are no longer than their counts can say
abbrev pub FilesCount : List MetaRowset → Type 0
FilesCount [] = Unit {0}
FilesCount (r ∷ rowsets) = (length r.undo < 2 ^ 32) × (length r.redo < 2 ^ 32) × FilesCount rowsets

-- a superblock that keeps the rules, in its slot, with lists that are no longer than their counts can say
pub record StandsIn (slot : ℕ) (m : Meta) : Type 0 where
  pub rules : IsMeta m
  pub slot_is : slot_for m.number ≡ slot
  pub rowsets : length m.rowsets < 2 ^ 32
  pub files : FilesCount m.rowsets

-- the fields are those of a body in this slot
abbrev pub Spelled : ℕ → List (List ℕ) → Type 0
Spelled slot all = IsSpelled body_fields (StandsIn slot) all
