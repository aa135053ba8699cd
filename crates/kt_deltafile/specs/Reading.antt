-- How the reader goes over a delta file, from left to right, up to the first fault. The fields of a file tell the place of
-- a fault by themselves; these are the steps that find it. A fault is told by how many bytes stand from its place to the
-- end: none where bytes are missing, and all from its first byte on where a field is wrong.
use Rattle.std.specs.Prelude.{ℕ, zero, suc, ◌+◌, ◌-◌, ◌^◌, Bool, not, ◌&&◌, ◌||◌, List, [], ◌∷◌, length, Result, Ok, Err, nat_lt, nat_le, ◌==◌, if◌then◌else◌}
use Rattle.std.specs.Int.{w32, w64}
use Rattle.kt_history.specs.declared.change.Change.{Change}
use Rattle.kt_history.specs.declared.change.Change.TheVariants.{Ins, Upd, Del}
use Rattle.kt_history.specs.declared.changes.Delta.{Delta}
use Rattle.kt_bytes.specs.Reading.{◌>>=◌, checked_at, many_at, with_offset}
use Rattle.kt_cells.specs.Reading.{cells_at}
use Rattle.kt_deltafile.specs.declared.file.Way.{Way}
use Rattle.kt_deltafile.specs.declared.file.Way.TheVariants.{Redo, Undo}
use Rattle.kt_deltafile.specs.File.{FileView}
use Rattle.kt_deltafile.specs.Order.{last_ordinal, last_ts, may_come, may_follow}
use Rattle.kt_deltafile.specs.Rules.{may_insert}
use Rattle.kt_deltafile.specs.Spelling.{ktd1}

-- ---- what can stand where

-- how many records of n come behind the one that follows these
abbrev pub behind : ℕ → List Delta → ℕ
behind n front = n - length front - 1

-- how many timestamps come after this one in the order of the way
abbrev pub later : Way → ℕ → ℕ
later Redo ts = 2 ^ 64 - 1 - ts
later Undo ts = ts

-- a greater ordinal is that of a row
abbrev pub has_next_row : ℕ → ℕ → Bool
has_next_row rows ordinal = nat_lt (ordinal + 1) rows && nat_lt (ordinal + 1) (2 ^ 32)

-- so many records can stand behind one of this ordinal with so many later timestamps
abbrev pub has_room : ℕ → ℕ → ℕ → ℕ → Bool
has_room rows ordinal left n = has_next_row rows ordinal || nat_le n left

-- a record of the same row can follow one of this timestamp, with room for so many behind it
abbrev pub may_go_on : Way → ℕ → ℕ → ℕ → ℕ → Bool
may_go_on way rows ordinal ts n = nat_le 1 (later way ts) && has_room rows ordinal (later way ts) (n + 1)

-- some timestamp can stand behind this ordinal
abbrev pub has_ts : Way → ℕ → ℕ → List Delta → ℕ → Bool
has_ts way rows n front ordinal = (length front == 0) || (not (last_ordinal front == ordinal) || may_go_on way rows ordinal (last_ts front) (behind n front))

-- an ordinal that can stand here
abbrev pub is_ordinal : Way → ℕ → ℕ → List Delta → ℕ → Bool
is_ordinal way rows n front ordinal = may_come rows front ordinal && has_ts way rows n front ordinal

-- a timestamp that can stand here
abbrev pub is_ts : Way → ℕ → ℕ → List Delta → ℕ → ℕ → Bool
is_ts way rows n front ordinal ts = may_follow way front ordinal ts && has_room rows ordinal (later way ts) (behind n front)

-- a file over so many rows can have so many records: none over no row
abbrev pub may_hold : ℕ → ℕ → Bool
may_hold rows n = (n == 0) || nat_lt 0 rows

abbrev pub is_ktd1 : ℕ → Bool
is_ktd1 word = word == ktd1

-- ---- the steps

-- a change that a record of this way may be
unfoldable pub change_at : Way → List ℕ → Result (Change × List ℕ) ℕ
change_at way [] = Err 0
change_at way (zero ∷ rest) = Err (suc (length rest))
change_at way (suc zero ∷ rest) = if may_insert way then (do
  cells ← cells_at rest
  Ok (Ins cells.0, cells.1)) else Err (suc (length rest))
change_at way (suc (suc zero) ∷ rest) = do
  cells ← cells_at rest
  Ok (Upd cells.0, cells.1)
change_at way (suc (suc (suc zero)) ∷ rest) = Ok (Del, rest)
change_at way (suc (suc (suc (suc b))) ∷ rest) = Err (suc (length rest))

-- a record of n that follows those before it
unfoldable pub record_at : Way → ℕ → ℕ → List Delta → List ℕ → Result (Delta × List ℕ) ℕ
record_at way rows n front bytes = do
  ordinal ← checked_at w32 (is_ordinal way rows n front) bytes
  ts ← checked_at w64 (is_ts way rows n front ordinal.0) ordinal.1
  change ← change_at way ts.1
  Ok (record { ordinal = ordinal.0; ts = ts.0; change = change.0 }, change.1)

unfoldable pub way_at : List ℕ → Result (Way × List ℕ) ℕ
way_at [] = Err 0
way_at (zero ∷ rest) = Err (suc (length rest))
way_at (suc zero ∷ rest) = Ok (Redo, rest)
way_at (suc (suc zero) ∷ rest) = Ok (Undo, rest)
way_at (suc (suc (suc b)) ∷ rest) = Err (suc (length rest))

-- the way, and the records behind their count
unfoldable pub body_at : ℕ → List ℕ → Result (FileView × List ℕ) ℕ
body_at rows bytes = do
  way ← way_at bytes
  n ← checked_at w32 (may_hold rows) way.1
  list ← many_at (record_at way.0 rows n.0) n.0 [] n.1
  Ok (record { way = way.0; list = list.0 }, list.1)

-- behind the letters KTD1
unfoldable pub file_at : ℕ → List ℕ → Result (FileView × List ℕ) ℕ
file_at rows bytes = do
  word ← checked_at w32 is_ktd1 bytes
  body_at rows word.1

-- nothing stands behind it
unfoldable pub whole_at : ℕ → List ℕ → Result FileView ℕ
whole_at rows bytes = do
  file ← file_at rows bytes
  if length file.1 == 0 then Ok file.0 else Err (length file.1)

-- the file over so many rows that all of the bytes spell, or the offset of the first fault
abbrev pub file_of : ℕ → List ℕ → Result FileView ℕ
file_of rows bytes = with_offset (length bytes) (whole_at rows bytes)
