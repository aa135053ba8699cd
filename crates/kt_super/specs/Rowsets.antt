-- The disk rowsets of a superblock: their rules, their spelling, and how they are read.
use Rattle.std.specs.Prelude.{◌≡◌, ℕ, ◌+◌, ◌-◌, ◌^◌, Bool, true, not, ◌&&◌, ◌==◌, List, [], ◌∷◌, ◌++◌, length, map, Result, Ok, nat_lt, nat_le}
use Rattle.std.specs.List.{flat_map, list_any}
use Rattle.std.specs.Int.{w32, w64, to_le_bytes}
use Rattle.kt_super.specs.declared.meta.FileRef.{FileRef}
use Rattle.kt_super.specs.declared.meta.MetaRowset.{MetaRowset}
use Rattle.kt_bytes.specs.Reading.{◌>>=◌, checked_at, many_at}

-- numbers and lengths lie below this
abbrev pub is_small : ℕ → Bool
is_small n = nat_lt n (2 ^ 62)

abbrev pub has : List ℕ → ℕ → Bool
has numbers n = list_any (λ k. k == n) numbers

-- the same numbers stand in both
abbrev pub HaveTheSame : List ℕ → List ℕ → Type 0
HaveTheSame some others = (n : ℕ) → has some n ≡ has others n

abbrev pub numbers_of : List FileRef → List ℕ
numbers_of files = map (λ f. f.file) files

-- ---- rules

-- the number of a data file that is not taken
abbrev pub is_free : ℕ → List ℕ → ℕ → Bool
is_free next taken n = nat_le 3 n && nat_lt n next && not (has taken n)

abbrev pub IsFile : ℕ → List ℕ → FileRef → Type 0
IsFile next taken f = (is_free next taken f.file ≡ true) × (is_small f.len ≡ true)

-- the files have different numbers, none of which is taken
abbrev pub AreFiles : ℕ → List ℕ → List FileRef → Type 0
AreFiles next taken [] = Unit {0}
AreFiles next taken (f ∷ files) = IsFile next taken f × AreFiles next (taken ++ f.file ∷ []) files

-- the numbers that are taken behind a rowset
abbrev pub taken_by : List ℕ → MetaRowset → List ℕ
taken_by taken r = taken ++ r.base.file ∷ [] ++ numbers_of r.undo ++ numbers_of r.redo

abbrev pub is_rowset : ℕ → ℕ → ℕ → Bool
is_rowset least next n = nat_le least n && nat_lt n next

pub record IsRowset (next_rowset next_file least : ℕ) (taken : List ℕ) (r : MetaRowset) : Type 0 where
  pub rowset : is_rowset least next_rowset r.rowset ≡ true
  pub last_dms : is_small r.last_dms ≡ true
  pub base : IsFile next_file taken r.base
  pub undo : AreFiles next_file (taken ++ r.base.file ∷ []) r.undo
  pub redo : AreFiles next_file (taken ++ r.base.file ∷ [] ++ numbers_of r.undo) r.redo

-- rowsets by rising number, from the least on, and with files of different numbers
abbrev pub AreRowsets : ℕ → ℕ → ℕ → List ℕ → List MetaRowset → Type 0
AreRowsets next_rowset next_file least taken [] = Unit {0}
AreRowsets next_rowset next_file least taken (r ∷ rowsets) =
    IsRowset next_rowset next_file least taken r × AreRowsets next_rowset next_file (r.rowset + 1) (taken_by taken r) rowsets

-- ---- spelling

abbrev pub spelled_file : FileRef → List ℕ
spelled_file f = to_le_bytes w64 f.file ++ to_le_bytes w64 f.len

abbrev pub spelled_files : List FileRef → List ℕ
spelled_files files = to_le_bytes w32 (length files) ++ flat_map spelled_file files

abbrev pub spelled_rowset : MetaRowset → List ℕ
spelled_rowset r = to_le_bytes w64 r.rowset ++ (to_le_bytes w64 r.last_dms ++ (spelled_file r.base ++ (spelled_files r.undo ++ spelled_files r.redo)))

abbrev pub spelled_rowsets : List MetaRowset → List ℕ
spelled_rowsets rowsets = to_le_bytes w32 (length rowsets) ++ flat_map spelled_rowset rowsets

-- ---- what can stand where

-- how many numbers of data files are free
abbrev pub free_numbers : ℕ → List ℕ → ℕ
free_numbers next taken = next - 3 - length taken

-- so many files more have numbers, and beside them a base file of each rowset that is to come
abbrev pub has_room : ℕ → List ℕ → ℕ → ℕ → Bool
has_room next taken behind n = nat_le (n + behind) (free_numbers next taken)

-- the number of a rowset, with numbers above it for so many more
abbrev pub is_next_rowset : ℕ → ℕ → ℕ → ℕ → Bool
is_next_rowset least next behind n = nat_le least n && nat_lt behind (next - n)

-- so many rowsets, and their base files, have numbers
abbrev pub may_have : ℕ → ℕ → ℕ → Bool
may_have next_rowset next_file n = nat_le n next_rowset && nat_le n (next_file - 3)

-- the least number that may come behind these rowsets, which come behind those below a number
abbrev pub least_after : ℕ → List MetaRowset → ℕ
least_after least [] = least
least_after least (r ∷ rowsets) = least_after (r.rowset + 1) rowsets

-- the numbers of files that are taken behind these rowsets
abbrev pub taken_after : List ℕ → List MetaRowset → List ℕ
taken_after taken [] = taken
taken_after taken (r ∷ rowsets) = taken_after (taken_by taken r) rowsets

-- ---- reading

unfoldable pub file_at : ℕ → List ℕ → List ℕ → Result (FileRef × List ℕ) ℕ
file_at next taken bytes = do
  file ← checked_at w64 (is_free next taken) bytes
  len ← checked_at w64 is_small file.1
  Ok (record { file = file.0; len = len.0 }, len.1)

-- a file behind those that were read
abbrev pub next_file_at : ℕ → List ℕ → List FileRef → List ℕ → Result (FileRef × List ℕ) ℕ
next_file_at next taken files bytes = file_at next (taken ++ numbers_of files) bytes

-- files with so many rowsets behind
unfoldable pub counted_files_at : ℕ → List ℕ → ℕ → List ℕ → Result (List FileRef × List ℕ) ℕ
counted_files_at next taken behind bytes = do
  n ← checked_at w32 (has_room next taken behind) bytes
  many_at (next_file_at next taken) n.0 [] n.1

-- a rowset with so many behind
unfoldable pub rowset_at : ℕ → ℕ → ℕ → ℕ → List ℕ → List ℕ → Result (MetaRowset × List ℕ) ℕ
rowset_at next_rowset next_file behind least taken bytes = do
  rowset ← checked_at w64 (is_next_rowset least next_rowset behind) bytes
  last_dms ← checked_at w64 is_small rowset.1
  base ← file_at next_file taken last_dms.1
  undo ← counted_files_at next_file (taken ++ base.0.file ∷ []) behind base.1
  redo ← counted_files_at next_file (taken ++ base.0.file ∷ [] ++ numbers_of undo.0) behind undo.1
  Ok (record { rowset = rowset.0; last_dms = last_dms.0; base = base.0; undo = undo.0; redo = redo.0 }, redo.1)

-- a rowset of so many, behind those that were read
abbrev pub next_rowset_at : ℕ → ℕ → ℕ → List MetaRowset → List ℕ → Result (MetaRowset × List ℕ) ℕ
next_rowset_at next_rowset next_file n rowsets bytes = rowset_at next_rowset next_file (n - length rowsets - 1) (least_after 0 rowsets) (taken_after [] rowsets) bytes

unfoldable pub counted_rowsets_at : ℕ → ℕ → List ℕ → Result (List MetaRowset × List ℕ) ℕ
counted_rowsets_at next_rowset next_file bytes = do
  n ← checked_at w32 (may_have next_rowset next_file) bytes
  many_at (next_rowset_at next_rowset next_file n.0) n.0 [] n.1
