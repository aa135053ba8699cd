-- Disk rowsets with what lists of changes have of their rows, and others behind them.
use Rattle.std.proofs.Common.{◌≡◌, ◌≤◌, ◌++◌, ℕ, List, [], ◌∷◌, map, Option, Some, None, refl, sym, ap, subst, ◌∙◌, arith}
use Rattle.std.specs.List.{AllByRecursion}
use Rattle.kt_disk.specs.Disk.{Files}
use Rattle.kt_history.specs.declared.changes.KeyChange.{KeyChange}
use Rattle.kt_history.specs.Rows.{Row}
use Rattle.kt_history.specs.Stores.{Hist, never}
use Rattle.kt_histlaws.specs.Jobs.{AreAlike}
use Rattle.kt_rowfiles.specs.Files.{DiskRowset, row_under, hist_in_files}
use Rattle.kt_rowfiles.specs.Merging.{joined_history}
use Rattle.kt_content.specs.Flushes.{AreFrom, before}
use Rattle.kt_content.specs.Rules.{Rules, AreRules, HistPasses, RowsetsPass}
use Rattle.kt_content.specs.RunEvents.{Numbers, RowsetsBelow}
use Rattle.kt_super.specs.declared.meta.MetaRowset.{MetaRowset}
use Rattle.kt_diskrowset.specs.declared.data.RowSetData.{RowSetData}
use Rattle.kt_diskrowset.specs.Data.{files_in}
use Rattle.kt_diskrowset.specs.Rowset.{HeldFiles}
use Rattle.kt_files.specs.Reading.{HoldAll}
use Rattle.kt_merge.specs.Late.{late_of, push_there, hist_with, TellsChanges, AllTellChanges}
use Rattle.kt_outputs.specs.Again.{AllAddLate}
use Rattle.kt_outputs.specs.Outputs.{AreWhole}
use Rattle.kt_joblaws.specs.DeltaJobs.{a_rowset_of_passing_histories_passes, histories_of_passing_rowsets_pass}
use Rattle.kt_joblaws.specs.Late.{late_changes_pass}
use Rattle.kt_engine.specs.Returning.{hists_in}
use Rattle.kt_maint.proofs.LateLists.{AllRise, one_again}

-- ---- one by one as it came

module _ (bound : ℕ) (lists : List (List KeyChange)) where
  pub change_more : (outputs late : List RowSetData) (o d : RowSetData) → AllTellChanges bound lists outputs late → TellsChanges bound lists o d → AllTellChanges bound lists (outputs ++ o ∷ []) (late ++ d ∷ [])
  change_more [] [] o d all one = (one, tt)
  change_more [] (l ∷ late) o d all one = absurd all
  change_more (x ∷ outputs) [] o d all one = absurd all
  change_more (x ∷ outputs) (l ∷ late) o d all one = (all.0, change_more outputs late o d all.1 one)

  -- what they tell of a key
  pub changes_told : (q : List ℕ) (outputs late : List RowSetData) → AllTellChanges bound lists outputs late → map (hist_in_files q) (map files_in late) ≡ map (hist_with q (late_of bound (hists_in q lists))) (map files_in outputs)
  changes_told q [] [] all = refl
  changes_told q [] (l ∷ late) all = absurd all
  changes_told q (x ∷ outputs) [] all = absurd all
  changes_told q (x ∷ outputs) (l ∷ late) all =
      ap (λ (h : Hist). h ∷ map (hist_in_files q) (map files_in late)) (all.0 q) ∙ ap (λ (hs : List Hist). hist_with q (late_of bound (hists_in q lists)) (files_in x) ∷ hs) (changes_told q outputs late all.1)

  -- each passes as its histories do
  module _ (rules : Rules) (are : AreRules rules) (j : ℕ) (le : j ≤ bound) (joined : (q : List ℕ) → HistPasses rules q (joined_history j (hists_in q lists))) (changes_pass : late_changes_pass) (passes : a_rowset_of_passing_histories_passes) (back : histories_of_passing_rowsets_pass) where
    hist_passes : (o l : RowSetData) → TellsChanges bound lists o l → (q : List ℕ) → HistPasses rules q (hist_in_files q (files_in o)) → HistPasses rules q (hist_in_files q (files_in l))
    hist_passes o l tells q own = subst (HistPasses rules q) (sym (tells q)) (by (row_under q 0 (files_in o).base))
      where
        by : (x : Option (ℕ × Row)) → HistPasses rules q (push_there (late_of bound (hists_in q lists)) x (hist_in_files q (files_in o)))
        by None = own
        by (Some found) = changes_pass rules j bound q (hists_in q lists) (hist_in_files q (files_in o)) le (joined q) own

    pub changed_pass : (outputs late : List RowSetData) → AllRise (map files_in outputs) → RowsetsPass rules (map files_in outputs) → AllTellChanges bound lists outputs late → AllAddLate outputs late → AreWhole late → RowsetsPass rules (map files_in late)
    changed_pass [] [] rise pass tells adds whole = tt
    changed_pass [] (l ∷ late) rise pass tells adds whole = absurd adds
    changed_pass (o ∷ outputs) [] rise pass tells adds whole = absurd adds
    changed_pass (o ∷ outputs) (l ∷ late) rise pass tells adds whole =
        (one_again rules are passes back o l (hist_passes o l tells.0) rise.0 pass.0 adds.0 whole.0, changed_pass outputs late rise.1 pass.1 tells.1 adds.1 whole.1)

-- ---- disk rowsets, and others behind them

pub all_both : {A : Type 0} (P : A → Type 0) (xs ys : List A) → AllByRecursion P xs → AllByRecursion P ys → AllByRecursion P (xs ++ ys)
all_both P [] ys front back = back
all_both P (x ∷ xs) ys front back = (front.0, all_both P xs ys front.1 back)

pub hold_both : (files : Files) (rs ss : List MetaRowset) (hs ks : List HeldFiles) → HoldAll files rs hs → HoldAll files ss ks → HoldAll files (rs ++ ss) (hs ++ ks)
hold_both files [] ss [] ks front back = back
hold_both files [] ss (h ∷ hs) ks front back = absurd front
hold_both files (r ∷ rs) ss [] ks front back = absurd front
hold_both files (r ∷ rs) ss (h ∷ hs) ks front back = (front.0, hold_both files rs ss hs ks front.1 back)

pub from_both : (next : ℕ) (xs ys : List DiskRowset) → AreFrom next xs → AreFrom next ys → AreFrom next (xs ++ ys)
from_both next [] ys front back = back
from_both next (x ∷ xs) ys front back = (front.0, from_both next xs ys front.1 back)

pub below_both : (numbers : Numbers) (xs ys : List DiskRowset) → RowsetsBelow numbers xs → RowsetsBelow numbers ys → RowsetsBelow numbers (xs ++ ys)
below_both numbers [] ys front back = back
below_both numbers (x ∷ xs) ys front back = (front.0, below_both numbers xs ys front.1 back)

pub below_later : (next later last : ℕ) (xs : List DiskRowset) → next ≤ later → RowsetsBelow (before next last) xs → RowsetsBelow (before later last) xs
below_later next later last [] le below = tt
below_later next later last (x ∷ xs) le below = ((let lt = below.0 in omega arith), below_later next later last xs le below.1)

-- ---- without a history that has nothing

pub without_never : (a : ℕ) (xs zs : List Hist) → AreAlike a (never ∷ xs) zs → AreAlike a xs zs
without_never a xs zs h = record { rows = h.rows; steps = h.steps; one_row = h.one_row; one_step = h.one_step }
