-- When a row changed first above a time.
use Rattle.std.specs.Prelude.{◌≡◌, ℕ, Option, Some, map, nat_lt}
use Rattle.std.specs.List.{find, flat_map}
use Rattle.std.specs.Option.{option_map}
use Rattle.kt_history.specs.declared.change.Change.{Change}
use Rattle.kt_history.specs.Rows.{Row}
use Rattle.kt_history.specs.Stores.{Steps, key_change}
use Rattle.kt_histlaws.specs.Fitting.{steps_above}
use Rattle.kt_histlaws.specs.Flights.{UpTo}
use Rattle.kt_pool.specs.Contents.{Contents}
use Rattle.kt_rowfiles.specs.Files.{row_with}
use Rattle.kt_diskrowset.specs.declared.rowset.DiskRowSet.{DiskRowSet}
use Rattle.kt_diskrowset.specs.Missed.{changes_above}
use Rattle.kt_diskrowset.specs.Rowset.{files_of, store_of}

-- of changes in their order, the time of the first one above another
abbrev pub first_above : ℕ → Steps → Option ℕ
first_above above steps = option_map (λ (c : ℕ × Change). c.0) (find (λ (c : ℕ × Change). nat_lt above c.0) steps)

-- no record of the files lies above the time
abbrev pub FilesAreUpTo : DiskRowSet → ℕ → Type 0
FilesAreUpTo s above = (found : ℕ × Row) → UpTo above (row_with (files_of s) (Some found)).steps

-- the changes above such a time are those in memory
abbrev pub changes_are_in_memory : Type 0
changes_are_in_memory = (above : ℕ) (s : DiskRowSet) (pool : Contents) → FilesAreUpTo s above
    → changes_above above s pool ≡ flat_map (λ row. map (key_change row.0) (steps_above above row.1.steps)) (store_of s pool)
