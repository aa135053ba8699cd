-- The row that is written of one history as of a mark.
use Rattle.std.specs.Prelude.{ℕ, ◌-◌, take, length, slice_get, Option, Some, None, nat_lt, if◌then◌else◌, [], ◌∷◌}
use Rattle.std.specs.Option.{option_map}
use Rattle.kt_history.specs.declared.change.Change.{Change}
use Rattle.kt_history.specs.declared.change.Change.TheVariants.{Del}
use Rattle.kt_history.specs.Stores.{Steps, Hist}
use Rattle.kt_histlaws.specs.Disks.{DiskRow}
use Rattle.kt_rowfiles.specs.Reading.{steps_in}
use Rattle.kt_rowfiles.specs.Flushing.{after_all, written, written_deleted}
use Rattle.kt_merge.specs.declared.row.RowWritten.{RowWritten}

-- the timestamp of a change that deletes
abbrev pub deleted_by : Option (ℕ × Change) → Option ℕ
deleted_by (Some (ts, Del)) = Some ts
deleted_by _ = None

-- the timestamp of the last change, where that deletes the row
abbrev pub deleted_at : Steps → Option ℕ
deleted_at steps = deleted_by (slice_get steps (length steps - 1))

-- the history without its last change
abbrev pub but_last : Steps → Steps
but_last steps = take (length steps - 1) steps

abbrev pub before_last : Hist → Hist
before_last h = record h { steps = but_last h.steps }

-- a row that a last change deletes stays with its last cells, if that change lies above the mark
abbrev pub written_by : ℕ → Hist → Option ℕ → Option DiskRow
written_by j h None = option_map (written j h) (after_all h.steps h.first)
written_by j h (Some ts) = if nat_lt j ts then option_map (written_deleted j (before_last h) ts) (after_all (but_last h.steps) h.first) else None

-- what is written of a history: nothing where there is no row from the mark on
abbrev pub row_written : ℕ → Hist → Option DiskRow
row_written j h = written_by j h (deleted_at h.steps)

-- the REDO records of a row that is deleted, or is not
abbrev pub redos_of : Option ℕ → Steps
redos_of None = []
redos_of (Some ts) = (ts, Del) ∷ []

-- the row as its files are going to tell it
abbrev pub disk_row_of : RowWritten → DiskRow
disk_row_of w = record { base = w.base; undos = steps_in w.undos.items; redos = redos_of w.deleted }
