-- What a row that is written keeps of its history.
use Rattle.std.specs.Prelude.{◌≡◌, ◌<◌, ℕ, true, [], ◌∷◌, Option, Some, None}
use Rattle.kt_history.specs.Rows.{Row, apply, fits}
use Rattle.kt_history.specs.Stores.{Steps, Hist, Under, row_of}
use Rattle.kt_histlaws.specs.Disks.{DiskRow, AreUndos, hist_of}
use Rattle.kt_histlaws.specs.Fitting.{Rises, steps_above}
use Rattle.kt_rowfiles.specs.Flushing.{InOrderAt, AllUndone, cut}
use Rattle.kt_merge.specs.Rows.{row_written}

-- each change fits the row before it
abbrev pub EachFits : Steps → Option Row → Type 0
EachFits [] row = Unit {0}
EachFits (c ∷ steps) row = (fits c.1 row ≡ true) × EachFits steps (apply c.1 row)

-- a row that is written has the row at the mark and the changes above it
abbrev pub a_row_written_is_the_history : Type 0
a_row_written_is_the_history = (j : ℕ) (h : Hist) (d : DiskRow) → InOrderAt j h.steps → AllUndone h.steps h.first → row_written j h ≡ Some d → hist_of d ≡ cut j h

-- the timestamp of the first REDO record, or the time where there is none
abbrev pub before_redos : ℕ → Steps → ℕ
before_redos top [] = top
before_redos top (c ∷ redos) = c.0

-- its UNDO records lead back, and their timestamps fall from below those of its REDO records on
abbrev pub a_row_written_leads_back : Type 0
a_row_written_leads_back = (j top : ℕ) (h : Hist) (d : DiskRow) → InOrderAt j h.steps → Rises j (steps_above j h.steps) → AllUndone h.steps h.first → j < top → Under top h.steps → row_written j h ≡ Some d
    → AreUndos (before_redos top d.redos) d.undos (Some d.base)

-- and of a history of which nothing is written there is no row at the mark and no change above it
abbrev pub a_row_not_written_is_not_there : Type 0
a_row_not_written_is_not_there = (j : ℕ) (h : Hist) → InOrderAt j h.steps → EachFits h.steps h.first → row_written j h ≡ None → (row_of j h ≡ None) × (steps_above j h.steps ≡ [])
