-- The body of a superblock: its rules, its spelling, and how it is read.
use Rattle.std.specs.Prelude.{◌≡◌, ℕ, ◌%◌, ◌^◌, ◌<◌, Bool, true, ◌&&◌, ◌==◌, List, [], ◌++◌, length, is_none, Result, Ok, nat_le, if◌then◌else◌}
use Rattle.std.specs.Int.{w16, w64, to_le_bytes}
use Rattle.kt_schema.specs.declared.column.Column.{Column}
use Rattle.kt_schema.specs.Columns.{columns_no}
use Rattle.kt_super.specs.declared.meta.Meta.{Meta}
use Rattle.kt_super.specs.declared.meta.MetaRowset.{MetaRowset}
use Rattle.kt_super.specs.declared.body.Head.{Head}
use Rattle.kt_bytes.specs.Reading.{◌>>=◌, number_at, checked_at}
use Rattle.kt_super.specs.Columns.{AreColumns, is_count, spelled_columns, counted_columns_at}
use Rattle.kt_super.specs.Rowsets.{is_small, AreRowsets, spelled_rowsets, counted_rowsets_at}

-- the slot of a number: the first for odd ones
abbrev pub slot_for : ℕ → ℕ
slot_for n = if n % 2 == 1 then 1 else 2

-- ---- rules

abbrev pub is_number : ℕ → ℕ → Bool
is_number slot n = nat_le 1 n && is_small n && (slot_for n == slot)

abbrev pub is_next_file : ℕ → Bool
is_next_file n = nat_le 3 n && is_small n

-- the columns make a schema
abbrev pub makes_schema : List Column → Bool
makes_schema columns = is_none (columns_no columns)

-- a superblock keeps the rules of the body
pub record IsMeta (m : Meta) : Type 0 where
  pub number : is_number (slot_for m.number) m.number ≡ true
  pub a : m.a < 2 ^ 64
  pub c : m.c < 2 ^ 64
  pub need : is_small m.need ≡ true
  pub last_mem : is_small m.last_mem ≡ true
  pub next_rowset : is_small m.next_rowset ≡ true
  pub next_file : is_next_file m.next_file ≡ true
  pub next_column : m.next_column < 2 ^ 16
  pub count : is_count (length m.schema) ≡ true
  pub columns : AreColumns m.next_column [] m.schema
  pub schema : makes_schema m.schema ≡ true
  pub rowsets : AreRowsets m.next_rowset m.next_file 0 [] m.rowsets

-- ---- spelling

abbrev pub format : ℕ
format = 1

abbrev pub head_of : Meta → Head
head_of m = record { number = m.number; a = m.a; c = m.c; need = m.need; last_mem = m.last_mem; next_rowset = m.next_rowset; next_file = m.next_file; next_column = m.next_column }

abbrev pub spelled_head : Head → List ℕ
spelled_head h = to_le_bytes w16 format ++ (to_le_bytes w64 h.number ++ (to_le_bytes w64 h.a ++ (to_le_bytes w64 h.c ++ (to_le_bytes w64 h.need ++ (to_le_bytes w64 h.last_mem
    ++ (to_le_bytes w64 h.next_rowset ++ (to_le_bytes w64 h.next_file ++ to_le_bytes w16 h.next_column)))))))

abbrev pub spelled_body : Meta → List ℕ
spelled_body m = spelled_head (head_of m) ++ (spelled_columns m.schema ++ spelled_rowsets m.rowsets)

-- ---- reading

abbrev pub is_format : ℕ → Bool
is_format n = n == format

-- a schema has a column with an id below this
abbrev pub is_next_column : ℕ → Bool
is_next_column n = nat_le 1 n

unfoldable pub head_at : ℕ → List ℕ → Result (Head × List ℕ) ℕ
head_at slot bytes = do
  start ← checked_at w16 is_format bytes
  number ← checked_at w64 (is_number slot) start.1
  a ← number_at w64 number.1
  c ← number_at w64 a.1
  need ← checked_at w64 is_small c.1
  last_mem ← checked_at w64 is_small need.1
  next_rowset ← checked_at w64 is_small last_mem.1
  next_file ← checked_at w64 is_next_file next_rowset.1
  next_column ← checked_at w16 is_next_column next_file.1
  Ok (record { number = number.0; a = a.0; c = c.0; need = need.0; last_mem = last_mem.0; next_rowset = next_rowset.0; next_file = next_file.0; next_column = next_column.0 }, next_column.1)

abbrev pub meta_of : Head → List Column → List MetaRowset → Meta
meta_of h columns rowsets = record { number = h.number; a = h.a; c = h.c; need = h.need; last_mem = h.last_mem; next_rowset = h.next_rowset; next_file = h.next_file; next_column = h.next_column; schema = columns; rowsets = rowsets }

unfoldable pub body_at : ℕ → List ℕ → Result (Meta × List ℕ) ℕ
body_at slot bytes = do
  head ← head_at slot bytes
  schema ← counted_columns_at head.0.next_column head.1
  rowsets ← counted_rowsets_at head.0.next_rowset head.0.next_file schema.1
  Ok (meta_of head.0 schema.0 rowsets.0, rowsets.1)
