-- The row that a flush or a compaction writes of one history, as of a bound that no change is above.
use Rattle.std.specs.Prelude.{◌≡◌, ◌<◌, ℕ, true, IsTrue, [], ◌∷◌, ◌++◌, Option, Some, None, nat_lt, if◌then◌else◌}
use Rattle.std.specs.Ordering.{nat_cmp}
use Rattle.std.specs.FinMap.Entries.{is_sorted}
use Rattle.kt_history.specs.declared.change.Change.{Change}
use Rattle.kt_history.specs.declared.change.Change.TheVariants.{Ins, Upd, Del}
use Rattle.kt_history.specs.Rows.{Row, IsRow, apply, undo, fits, has_columns}
use Rattle.kt_history.specs.Stores.{Steps, Hist, Under, row_of, never}
use Rattle.kt_histlaws.specs.Disks.{DiskRow, AreUndos, hist_of}
use Rattle.kt_histlaws.specs.Fitting.{Rises, steps_above}
use Rattle.kt_histlaws.specs.Jobs.{AreAlike}

-- the row after all changes
abbrev pub after_all : Steps → Option Row → Option Row
after_all [] row = row
after_all (c ∷ steps) row = after_all steps (apply c.1 row)

-- the changes above j as UNDO records from the newest on, before those already made
abbrev pub undone : ℕ → Steps → Option Row → Steps → Steps
undone j [] row made = made
undone j (c ∷ steps) row made = undone j steps (apply c.1 row) (if nat_lt j c.0 then (c.0, undo c.1 row) ∷ made else made)

-- what is written of a row that is there after all changes; and of one that a last change deletes, with its last cells
abbrev pub written : ℕ → Hist → Row → DiskRow
written j h base = record { base = base; undos = undone j h.steps h.first []; redos = [] }

abbrev pub written_deleted : ℕ → Hist → ℕ → Row → DiskRow
written_deleted j h ts base = record { base = base; undos = undone j h.steps h.first []; redos = (ts, Del) ∷ [] }

-- the history as it is told from j on
abbrev pub cut : ℕ → Hist → Hist
cut j h = record { first = row_of j h; steps = steps_above j h.steps }

-- behind a change above j all are
abbrev pub EachAbove : ℕ → Steps → Type 0
EachAbove j [] = Unit {0}
EachAbove j (c ∷ steps) = (j < c.0) × EachAbove j steps

abbrev pub InOrderAt : ℕ → Steps → Type 0
InOrderAt j [] = Unit {0}
InOrderAt j (c ∷ steps) = (nat_lt j c.0 ≡ true → EachAbove j steps) × InOrderAt j steps

-- a change leads back over its row, and its undo over the change
pub record IsUndone (c : Change) (row : Option Row) : Type 0 where
  pub back : apply (undo c row) (apply c row) ≡ row
  pub over : undo (undo c row) (apply c row) ≡ c

abbrev pub AllUndone : Steps → Option Row → Type 0
AllUndone [] row = Unit {0}
AllUndone (c ∷ steps) row = IsUndone c.1 row × AllUndone steps (apply c.1 row)

-- the cells of an update stand by rising id
abbrev pub IsChange : Change → Type 0
IsChange (Ins row) = Unit {0}
IsChange (Upd cells) = IsTrue (is_sorted nat_cmp cells)
IsChange Del = Unit {0}

abbrev pub a_change_that_fits_is_undone : Type 0
a_change_that_fits_is_undone = (c : Change) (row : Option Row) → IsRow row → IsTrue (fits c row) → IsTrue (has_columns c row) → IsChange c → IsUndone c row

-- a row that is written has the changes above j and no others, on the row at j
abbrev pub a_written_row_keeps_its_changes : Type 0
a_written_row_keeps_its_changes = (j : ℕ) (h : Hist) (base : Row) → InOrderAt j h.steps → AllUndone h.steps h.first → after_all h.steps h.first ≡ Some base
    → hist_of (written j h base) ≡ cut j h

-- and so has one that a last change above j deletes
abbrev pub a_deleted_row_keeps_its_changes : Type 0
a_deleted_row_keeps_its_changes = (j ts : ℕ) (h : Hist) (base : Row) → InOrderAt j h.steps → AllUndone h.steps h.first → after_all h.steps h.first ≡ Some base
    → j < ts
    → hist_of (written_deleted j h ts base) ≡ record { first = row_of j h; steps = steps_above j (h.steps ++ (ts, Del) ∷ []) }

-- its UNDO records lead back and their timestamps fall, below any time that no change reaches
abbrev pub a_written_row_leads_back : Type 0
a_written_row_leads_back = (j top : ℕ) (h : Hist) (base : Row) → InOrderAt j h.steps → Rises j (steps_above j h.steps) → AllUndone h.steps h.first → after_all h.steps h.first ≡ Some base
    → j < top → Under top h.steps → AreUndos top (written j h base).undos (Some base)

-- it is alike from j on
abbrev pub a_cut_history_is_alike : Type 0
a_cut_history_is_alike = (j : ℕ) (h : Hist) → InOrderAt j h.steps → AreAlike j (h ∷ []) (cut j h ∷ [])

-- a row that is not there at j, and has no change above it, may be left out
abbrev pub a_dropped_row_is_alike : Type 0
a_dropped_row_is_alike = (j : ℕ) (h : Hist) → InOrderAt j h.steps → row_of j h ≡ None → steps_above j h.steps ≡ [] → AreAlike j (h ∷ []) (never ∷ [])
