-- What a merge writes, by the rules of a table; and what is listed of stores in memory.
use Rattle.std.specs.Prelude.{◌≡◌, ◌≤◌, ◌<◌, ◌^◌, ℕ, suc, true, List, map}
use Rattle.std.specs.List.{AllByRecursion}
use Rattle.kt_history.specs.declared.changes.KeyChange.{KeyChange}
use Rattle.kt_history.specs.Grown.{AllGrown}
use Rattle.kt_history.specs.Stores.{Hist, Store, changes_upto}
use Rattle.kt_histlaws.specs.Fitting.{AreSound}
use Rattle.kt_histlaws.specs.Flights.{AllUnder}
use Rattle.kt_histlaws.specs.Histories.{hists}
use Rattle.kt_histlaws.specs.Jobs.{AreAlike}
use Rattle.kt_rowfiles.specs.Merging.{joined_history}
use Rattle.kt_rowfiles.specs.declared.taking.Span.{Span}
use Rattle.kt_content.specs.Rules.{Rules, AreRules, HistPasses, RowsetsPass}
use Rattle.kt_diskrowset.specs.declared.data.RowSetData.{RowSetData}
use Rattle.kt_diskrowset.specs.declared.inputs.Inputs.{Inputs}
use Rattle.kt_diskrowset.specs.Data.{files_in}
use Rattle.kt_merge.specs.Changes.{rises, hist_in_changes}
use Rattle.kt_merge.specs.Heads.{hist_upto}
use Rattle.kt_merge.specs.Merge.{hists_upto, AreFaultless, HaveEach}
use Rattle.kt_merge.specs.Told.{AreOutputs, told_by_all}

-- Where what the inputs have of each key from the mark on passes, so does what is written of them.
abbrev pub outputs_pass : Type 0
outputs_pass = (rules : Rules) (span : Span) (inputs : Inputs) (rowsets : List RowSetData) → AreRules rules → span.mark < 2 ^ 64 → AreFaultless span inputs
    → AreOutputs inputs.columns rowsets → HaveEach span inputs (told_by_all rowsets) → ((q : List ℕ) → HistPasses rules q (joined_history span.mark (hists_upto span.bound q inputs)))
    → RowsetsPass rules (map files_in rowsets)

-- The changes of stores of changes alone up to a time that none is above are all that they have.
abbrev pub lists_tell_all : Type 0
lists_tell_all = (bound : ℕ) (q : List ℕ) (stores : List Store) → AllGrown stores → AllUnder (suc bound) (hists q stores)
    → map (λ (list : List KeyChange). hist_upto bound (hist_in_changes q list)) (map (changes_upto bound) stores) ≡ hists q stores

-- And they stand by rising key.
abbrev pub lists_rise : Type 0
lists_rise = (bound : ℕ) (stores : List Store) → AllGrown stores → AllByRecursion (λ (list : List KeyChange). rises list ≡ true) (map (changes_upto bound) stores)

-- What is alike or sound from a mark on is so from a later one on.
abbrev pub marks_may_rise : Type 0
marks_may_rise = (j a : ℕ) (xs ys : List Hist) → j ≤ a → (AreAlike j xs ys → AreAlike a xs ys) × (AreSound j ys → AreSound a ys)
