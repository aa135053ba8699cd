-- What keeps the split of a job, and what it tells, as laws over histories.
use Rattle.std.specs.Prelude.{◌≡◌, ◌<◌, ◌≤◌, ℕ, suc, true, is_some, List, [], ◌∷◌, ◌++◌, map, length}
use Rattle.kt_history.specs.declared.change.Change.{Change}
use Rattle.kt_history.specs.Stores.{Steps, Hist, row_of, push}
use Rattle.kt_histlaws.specs.Fitting.{AreSound}
use Rattle.kt_histlaws.specs.Flights.{AllUnder}
use Rattle.kt_histlaws.specs.Histories.{on_nth, first_some, Alone}
use Rattle.kt_histlaws.specs.Jobs.{AreAlike}
use Rattle.kt_dup.specs.Missed.{missed_of}
use Rattle.kt_dup.specs.Split.{IsOfRow, IsSplit, none_missed}

-- outputs that are written as of the bound, from inputs that have nothing above it, are split from them, and nothing is missed
abbrev pub what_is_written_is_split : Type 0
what_is_written_is_split = (j bound : ℕ) (ins outs : List Hist) → AreAlike j ins outs → AreSound j outs → AllUnder (suc bound) ins → AllUnder (suc bound) outs
    → IsSplit j bound (none_missed outs) ins outs

-- until the swap a change of a row goes to its input alone: it is the next one that the output of its key misses
abbrev pub a_change_to_the_input_is_missed : Type 0
a_change_to_the_input_is_missed = (j bound ts i k : ℕ) (c : Change) (missed : List Steps) (ins outs : List Hist) (s : IsSplit j bound missed ins outs)
    → j ≤ bound → bound < ts → IsOfRow c → i < length ins → k < length outs → AllUnder ts ins → AllUnder (suc bound) outs
    → ((t : ℕ) → ts ≤ t → Alone i (map (row_of t) ins)) → ((t : ℕ) → ts ≤ t → Alone k (map (row_of t) s.full))
    → is_some (first_some (map (row_of ts) ins)) ≡ true
    → IsSplit j bound (on_nth k (λ m. m ++ (ts, c) ∷ []) missed) (on_nth i (push ts c) ins) outs

-- From the swap on a change of a row, above the bound and above all that the inputs have of its key, goes to the input and to the output that have
-- the row: they stay split, and what is missed stays the same.
abbrev pub a_change_to_both_keeps_the_split : Type 0
a_change_to_both_keeps_the_split = (j bound ts i k : ℕ) (c : Change) (missed : List Steps) (ins outs : List Hist) (s : IsSplit j bound missed ins outs)
    → j ≤ bound → bound < ts → IsOfRow c → i < length ins → k < length outs → AllUnder ts ins
    → ((t : ℕ) → ts ≤ t → Alone i (map (row_of t) ins)) → ((t : ℕ) → ts ≤ t → Alone k (map (row_of t) s.full))
    → is_some (first_some (map (row_of ts) ins)) ≡ true
    → IsSplit j bound missed (on_nth i (push ts c) ins) (on_nth k (push ts c) outs)

-- the missed changes of a key are those of its input above the bound, up to the first one that its output has there
abbrev pub a_split_tells_what_is_missed : Type 0
a_split_tells_what_is_missed = (j bound : ℕ) (missed : Steps) (into out : Hist) → j ≤ bound → IsSplit j bound (missed ∷ []) (into ∷ []) (out ∷ [])
    → missed_of bound into.steps out.steps ≡ missed

-- once the missed changes are put in, nothing is missed
abbrev pub what_is_put_in_is_missed_no_more : Type 0
what_is_put_in_is_missed_no_more = (j bound : ℕ) (missed : List Steps) (ins outs : List Hist) (s : IsSplit j bound missed ins outs) → IsSplit j bound (none_missed s.full) ins s.full

-- and where nothing is missed, the outputs are alike to the inputs, and sound
abbrev pub where_nothing_is_missed_both_are_alike : Type 0
where_nothing_is_missed_both_are_alike = (j bound : ℕ) (ins outs : List Hist) → IsSplit j bound (none_missed outs) ins outs → AreAlike j ins outs × AreSound j outs
