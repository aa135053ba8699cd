-- What stores took since a job read them, above its bound: changes of their rows. And its outputs, with these behind what they have.
use Rattle.std.specs.Prelude.{◌≡◌, ◌≤◌, ◌<◌, ℕ, suc, true, false, is_some, List, [], ◌∷◌, map}
use Rattle.std.specs.List.{AllByRecursion}
use Rattle.kt_history.specs.declared.change.Change.{Change}
use Rattle.kt_history.specs.Stores.{Steps, Hist, last_row, push, hist_in}
use Rattle.kt_histlaws.specs.Fitting.{AreSound, Rises}
use Rattle.kt_histlaws.specs.Flights.{AllUnder}
use Rattle.kt_histlaws.specs.Histories.{on_nth, nth_option, AtMostOne}
use Rattle.kt_histlaws.specs.Jobs.{AreAlike, push_all}
use Rattle.kt_rowfiles.specs.Files.{DiskRowset, row_under, hist_in_files}
use Rattle.kt_rowfiles.specs.Merging.{joined_history}
use Rattle.kt_content.specs.MissedChanges.{is_insert, FitInTurn}
use Rattle.kt_content.specs.Rules.{Rules, HistPasses}
use Rattle.kt_baseset.specs.declared.schema.ColumnShape.{ColumnShape}
use Rattle.kt_diskrowset.specs.declared.data.RowSetData.{RowSetData}
use Rattle.kt_diskrowset.specs.Data.{files_in, store_in}
use Rattle.kt_merge.specs.Late.{late_of, hist_with, TellsLate, AllTellLate, HasNoneAbove}
use Rattle.kt_merge.specs.Told.{AreOutputs}
use Rattle.kt_joblaws.specs.Apart.{AreApart}

-- a history as it was read, and behind it what came later: changes above the bound, of a row that is there
pub record HasLater (bound : ℕ) (was now : Hist) : Type 0 where
  pub late : Steps
  pub is : now ≡ push_all late was
  pub above : Rises bound late
  pub fit : FitInTurn late (last_row was)

abbrev pub AllHaveLater : ℕ → List Hist → List Hist → Type 0
AllHaveLater bound [] [] = Unit {0}
AllHaveLater bound (w ∷ was) (n ∷ now) = HasLater bound w n × AllHaveLater bound was now
AllHaveLater bound _ _ = ⊥

-- one of several disk rowsets at most has the key
abbrev pub HasOnce : List ℕ → List DiskRowset → Type 0
HasOnce q ds = AtMostOne (map (λ (d : DiskRowset). row_under q 0 d.base) ds)

-- As it is read, nothing came later
abbrev pub what_was_read_has_nothing_later : Type 0
what_was_read_has_nothing_later = (bound : ℕ) (hs : List Hist) → AllHaveLater bound hs hs

-- and a change of a row that is there, no insert and above all that the stores have of the key, comes behind
abbrev pub a_change_comes_later : Type 0
a_change_comes_later = (bound ts i : ℕ) (c : Change) (was now : List Hist) → bound < ts → AllUnder ts now → is_insert c ≡ false → is_some (nth_option i (map last_row now)) ≡ true
    → AllHaveLater bound was now → AllHaveLater bound was (on_nth i (push ts c) now)

-- Stores that were apart as they were read, with nothing above the bound, are apart with what came later.
abbrev pub late_changes_are_apart : Type 0
late_changes_are_apart = (j bound : ℕ) (was now : List Hist) → j ≤ bound → AreApart j was → AllUnder (suc bound) was → AllHaveLater bound was now → AreApart j now

-- And outputs that were written of what was read show with it, from the job's mark on, what the stores show now.
abbrev pub late_changes_make_alike : Type 0
late_changes_make_alike = (j bound : ℕ) (q : List ℕ) (was now : List Hist) (outputs : List DiskRowset) → j ≤ bound → AreApart j was → AllUnder (suc bound) was → AllHaveLater bound was now
    → HasOnce q outputs → AreAlike j was (map (hist_in_files q) outputs) → AreSound j (map (hist_in_files q) outputs)
    → AreAlike j now (map (hist_with q (late_of bound now)) outputs) × AreSound j (map (hist_with q (late_of bound now)) outputs)

-- It passes the rules of a table where what the stores have from the mark on does.
abbrev pub late_changes_pass : Type 0
late_changes_pass = (rules : Rules) (j bound : ℕ) (q : List ℕ) (now : List Hist) (h : Hist) → j ≤ bound → HistPasses rules q (joined_history j now) → HistPasses rules q h
    → HistPasses rules q (push_all (late_of bound now) h)

-- what disk rowsets as plain data have of a key now, with their changes in memory, and what the files of others have
abbrev pub hists_now : List ℕ → List RowSetData → List Hist
hists_now q inputs = map (λ (d : RowSetData). hist_in q (store_in d)) inputs

abbrev pub hists_written : List ℕ → List RowSetData → List Hist
hists_written q outputs = map (hist_in_files q) (map files_in outputs)

-- Where the inputs' files have nothing above the bound, outputs that tell their late changes show what the inputs show now,
abbrev pub late_outputs_are_alike : Type 0
late_outputs_are_alike = (j bound : ℕ) (q : List ℕ) (was : List Hist) (inputs outputs lates : List RowSetData) → j ≤ bound → AreApart j was → AllUnder (suc bound) was → AllHaveLater bound was (hists_now q inputs)
    → AllByRecursion (HasNoneAbove bound) inputs → HasOnce q (map files_in outputs) → AreAlike j was (hists_written q outputs) → AreSound j (hists_written q outputs)
    → AllTellLate bound inputs outputs lates → AreAlike j (hists_now q inputs) (hists_written q lates) × AreSound j (hists_written q lates)

-- and each passes the rules where the inputs do, and it did before.
abbrev pub a_late_output_passes : Type 0
a_late_output_passes = (rules : Rules) (j bound : ℕ) (q : List ℕ) (inputs : List RowSetData) (output late : RowSetData) → j ≤ bound → AllByRecursion (HasNoneAbove bound) inputs
    → HistPasses rules q (joined_history j (hists_now q inputs)) → HistPasses rules q (hist_in_files q (files_in output)) → TellsLate bound inputs output late → HistPasses rules q (hist_in_files q (files_in late))

-- The keys of a job's outputs rise from one to the next, so one of them at most has a key.
abbrev pub outputs_have_a_key_once : Type 0
outputs_have_a_key_once = (columns : List ColumnShape) (outputs : List RowSetData) (q : List ℕ) → AreOutputs columns outputs → HasOnce q (map files_in outputs)
