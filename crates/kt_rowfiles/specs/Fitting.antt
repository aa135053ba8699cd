-- Whether the UNDO records of a rowset fit: each leads back from a row that is there as it says, and those of a row fall.
use Rattle.std.specs.Prelude.{◌≡◌, ℕ, suc, ◌^◌, Bool, true, ◌&&◌, List, [], ◌∷◌, nat_lt, Option, Some, None, if◌then◌else◌}
use Rattle.std.specs.Ordering.{nat_cmp}
use Rattle.std.specs.FinMap.Entries.{is_sorted}
use Rattle.kt_history.specs.declared.change.Change.{Change}
use Rattle.kt_history.specs.Rows.{Row, Rows, apply, fits, has_columns}
use Rattle.kt_history.specs.Stores.{Steps}
use Rattle.kt_rowfiles.specs.Files.{DiskRowset, row_under, records_in, falling}
use Rattle.kt_rowfiles.specs.Reading.{UndosFit}

-- each column of the row once, by rising id
abbrev pub is_row : Option Row → Bool
is_row None = true
is_row (Some row) = is_sorted nat_cmp row

-- an UNDO record below a time fits the row from which it leads back, which has its columns
abbrev pub step_fits : ℕ → ℕ × Change → Option Row → Bool
step_fits top u row = nat_lt u.0 top && (is_row row && (fits u.1 row && has_columns u.1 row))

-- and so do those behind it
abbrev pub steps_fit : ℕ → Steps → Option Row → Bool
steps_fit top [] row = true
steps_fit top (u ∷ undos) row = step_fits top u row && steps_fit u.0 undos (apply u.1 row)

-- those of rows whose places are counted from n
abbrev pub rows_fit : DiskRowset → ℕ → Rows → Bool
rows_fit d n [] = true
rows_fit d n (r ∷ rows) = steps_fit (2 ^ 64) (falling (records_in n d.undos)) (Some r.1) && rows_fit d (suc n) rows

-- those of a rowset
abbrev pub undos_fit : DiskRowset → Bool
undos_fit d = rows_fit d 0 d.base

-- A rowset as it is opened: without its UNDO records where one of them does not fit. No image that holds a past has such a one.
abbrev pub readable : DiskRowset → DiskRowset
readable d = if undos_fit d then d else record d { undos = [] }

-- where they fit, they fit row by row
abbrev pub undos_fit_by_row : Type 0
undos_fit_by_row = (d : DiskRowset) (q : List ℕ) (found : ℕ × Row) → undos_fit d ≡ true → row_under q 0 d.base ≡ Some found
    → UndosFit (2 ^ 64) (falling (records_in found.0 d.undos)) (Some found.1)
