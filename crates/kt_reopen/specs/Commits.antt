-- The rows of a COMMIT by its place among the records.
use Rattle.std.specs.Prelude.{◌≡◌, ℕ, ◌==◌, Bool, false, List, length, Option, Some, None, slice_get, get_or}
use Rattle.kt_history.specs.declared.operation.RowOp.{RowOp}
use Rattle.kt_records.specs.declared.entry.Entry.{Entry}
use Rattle.kt_records.specs.declared.entry.Entry.TheVariants.{Replicate, Commit}
use Rattle.kt_records.specs.declared.entry.CommitRow.{CommitRow}
use Rattle.kt_loglaws.specs.Replay.{commit_of}

abbrev pub rows_in : Option Entry → Option (List CommitRow)
rows_in None = None
rows_in (Some (Replicate ts ops)) = None
rows_in (Some (Commit ts rows)) = Some rows

-- the rows of the COMMIT at this place
abbrev pub commit_at : List Entry → Option ℕ → Option (List CommitRow)
commit_at records None = None
commit_at records (Some at) = rows_in (slice_get records at)

-- at the place of each write's REPLICATE stands where its COMMIT is, if it has one
pub record HasPlaces (records : List Entry) (places : List (Option ℕ)) : Type 0 where
  pub long : length places ≡ length records
  pub each : (i ts : ℕ) (ops : List RowOp) → slice_get records i ≡ Some (Replicate ts ops) → commit_at records (get_or places i None) ≡ commit_of ts records

-- whether it is the COMMIT of this timestamp
abbrev pub is_commit_of : ℕ → Entry → Bool
is_commit_of ts (Replicate t ops) = false
is_commit_of ts (Commit t rows) = t == ts
