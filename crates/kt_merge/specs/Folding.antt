-- The row that a base row and its REDO records are folded to, as of a mark.
use Rattle.std.specs.Prelude.{◌≡◌, ◌≢◌, ◌<◌, ℕ, Option, Some, None, [], ◌∷◌, ◌++◌}
use Rattle.std.specs.Option.{option_map}
use Rattle.kt_history.specs.Rows.{Row}
use Rattle.kt_history.specs.Stores.{Steps, Hist, Under}
use Rattle.kt_histlaws.specs.Disks.{DiskRow, AreUndos, hist_of}
use Rattle.kt_histlaws.specs.Fitting.{Rises}
use Rattle.kt_histlaws.specs.Jobs.{AreAlike}
use Rattle.kt_rowfiles.specs.Flushing.{InOrderAt, EachAbove, AllUndone, after_all, written, written_deleted}
use Rattle.kt_merge.specs.Rows.{deleted_at, before_last}
use Rattle.kt_merge.specs.Laws.{EachFits, before_redos}

-- the history of the REDO records alone
abbrev pub on_base : Row → Steps → Hist
on_base base redos = record { first = Some base; steps = redos }

-- a row that a last change deletes stays with its last cells, wherever that change lies
abbrev pub folded_by : ℕ → Hist → Option ℕ → Option DiskRow
folded_by j h None = option_map (written j h) (after_all h.steps h.first)
folded_by j h (Some ts) = option_map (written_deleted j (before_last h) ts) (after_all (before_last h).steps h.first)

-- the row that is left, where the changes leave one
abbrev pub row_folded : ℕ → Row → Steps → Option DiskRow
row_folded j base redos = folded_by j (on_base base redos) (deleted_at redos)

-- it has the same row at each time from the mark on, and the same changes above it
abbrev pub a_row_folded_is_alike : Type 0
a_row_folded_is_alike = (j : ℕ) (base : Row) (redos : Steps) (d : DiskRow) → InOrderAt j redos → AllUndone redos (Some base) → row_folded j base redos ≡ Some d → AreAlike j (on_base base redos ∷ []) (hist_of d ∷ [])

-- the row with older UNDO records behind its own
abbrev pub with_older : Steps → DiskRow → DiskRow
with_older undos d = record d { undos = d.undos ++ undos }

-- where all REDO records lie above the mark, the row with its older UNDO records has the very same history
abbrev pub a_row_folded_whole_is_the_same : Type 0
a_row_folded_whole_is_the_same = (j : ℕ) (d e : DiskRow) → EachAbove j d.redos → AllUndone d.redos (Some d.base) → row_folded j d.base d.redos ≡ Some e → hist_of (with_older d.undos e) ≡ hist_of d

-- and all its UNDO records lead back and fall from below its REDO records on, as they did
abbrev pub a_row_folded_whole_leads_back : Type 0
a_row_folded_whole_leads_back = (j top : ℕ) (d e : DiskRow) → EachAbove j d.redos → Rises j d.redos → AllUndone d.redos (Some d.base) → j < top → Under top d.redos → AreUndos (before_redos top d.redos) d.undos (Some d.base)
    → row_folded j d.base d.redos ≡ Some e → AreUndos (before_redos top e.redos) (with_older d.undos e).undos (Some e.base)

-- and changes that fit leave one
abbrev pub changes_that_fit_leave_a_row : Type 0
changes_that_fit_leave_a_row = (j : ℕ) (base : Row) (redos : Steps) → EachFits redos (Some base) → row_folded j base redos ≢ None
