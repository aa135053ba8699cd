-- A job from its swap to its missed changes, for one key.
use Rattle.std.specs.Prelude.{◌≡◌, ◌<◌, ◌≤◌, ℕ, suc, Bool, true, false, is_some, List, [], ◌∷◌, ◌++◌, length, map, Option, Some, None}
use Rattle.kt_history.specs.declared.change.Change.{Change}
use Rattle.kt_history.specs.declared.change.Change.TheVariants.{Ins, Upd, Del}
use Rattle.kt_history.specs.declared.changes.Delta.{Delta}
use Rattle.kt_history.specs.Rows.{Row, apply}
use Rattle.kt_histlaws.specs.Histories.{on_nth, first_some, Alone}
use Rattle.kt_history.specs.Stores.{Steps, Hist, row_of, step_of}
use Rattle.kt_histlaws.specs.Flights.{UpTo, AllUnder}
use Rattle.kt_histlaws.specs.Fitting.{AreSound, Rises}
use Rattle.kt_histlaws.specs.Jobs.{AreAlike, IsFilled, push_all}
use Rattle.kt_rowfiles.specs.Files.{DiskRowset, row_under, records_for, records_in, hist_in_files}
use Rattle.kt_content.specs.Places.{Super, Place, Moves, at_first}
use Rattle.kt_content.specs.KeyOps.{KeyOp}
use Rattle.kt_content.specs.Publishing.{gone}
use Rattle.kt_content.specs.InMemory.{Name, Stores, group, groups, joined_name, HasPlace}
use Rattle.kt_content.specs.Lending.{AllFates, with_changes, Duplicates}

-- changes of a row that is there, of which none is an insert, as the inputs of a job take them
abbrev pub is_insert : Change → Bool
is_insert (Ins row) = true
is_insert (Upd cells) = false
is_insert Del = false

abbrev pub FitInTurn : Steps → Option Row → Type 0
FitInTurn [] row = Unit {0}
FitInTurn (c ∷ steps) row = (is_insert c.1 ≡ false) × (is_some row ≡ true) × FitInTurn steps (apply c.1 row)

-- What went to the inputs alone since the bound is put into the outputs: into the one that has the key live. As of the bound both sides have no change
-- above it.
pub data PutIn (bound : ℕ) (ins outs ins_now outs_now : List Hist) : Type 0 where
  nothing : ins_now ≡ ins → outs_now ≡ outs → PutIn bound ins outs ins_now outs_now
  changes : (missed : Steps) (i k : ℕ) → Rises bound missed → i < length ins → k < length outs
      → ((t : ℕ) → bound < t → Alone i (map (row_of t) ins)) → ((t : ℕ) → bound < t → Alone k (map (row_of t) outs))
      → ((t : ℕ) → bound < t → first_some (map (step_of t) ins) ≡ None) → AllUnder (suc bound) outs
      → FitInTurn missed (first_some (map (row_of bound) outs))
      → ins_now ≡ on_nth i (push_all missed) ins → outs_now ≡ on_nth k (push_all missed) outs → PutIn bound ins outs ins_now outs_now

-- then both are alike, and the outputs are sound, from the job's mark on, where they were so as of the bound
abbrev pub missed_changes_are_put_in : Type 0
missed_changes_are_put_in = (j bound : ℕ) (ins outs ins_now outs_now : List Hist) → j ≤ bound → AreAlike j ins outs → AreSound j outs → PutIn bound ins outs ins_now outs_now
    → AreAlike j ins_now outs_now × AreSound j outs_now

-- So from the swap on the job duplicates, with its outputs as they are once they have the missed changes.
abbrev pub a_swap_makes_a_job_that_duplicates : Type 0
a_swap_makes_a_job_that_duplicates = (fill : Row) (keep : Place → Bool) (old new : Super) (j bound : ℕ) (full : Stores) (q : List ℕ) (xs : List KeyOp)
    (ms moves : List Moves) (ins outs : List Hist)
    → AllFates fill keep old new j (with_changes q new xs moves) xs ms moves
    → ((p : Place) → keep p ≡ false → HasPlace p (at_first q new) → group new p full ≡ with_changes q new xs moves p ∷ [])
    → j ≤ bound → AreAlike j ins outs → AreSound j outs
    → PutIn bound ins outs (groups old full (gone keep (at_first q old))) (groups new full (gone keep (at_first q new)))
    → Duplicates fill keep old new j full q xs ms

-- until then the stores in memory lack them: of each store they lie between what was written first and what was duplicated since
abbrev pub AreFilled : (Name → Steps) → Stores → Stores → Type 0
AreFilled missed [] [] = Unit {0}
AreFilled missed (x ∷ stores) (y ∷ full) = (x.0 ≡ y.0) × IsFilled (missed x.0) x.1 y.1 × AreFilled missed stores full
AreFilled missed _ _ = ⊥

-- and a change that goes to a store leaves them there
abbrev pub a_change_leaves_what_is_missed : Type 0
a_change_leaves_what_is_missed = (missed : Name → Steps) (stores full : Stores) (n : Name) (ts : ℕ) (c : Change) → AreFilled missed stores full
    → AreFilled missed (joined_name n ts c stores) (joined_name n ts c full)

-- a REDO file of the missed changes, which lie above all others, puts them into the history that the files have
abbrev pub a_file_has_the_missed_changes : Type 0
a_file_has_the_missed_changes = (q : List ℕ) (d : DiskRowset) (file : List Delta) (bound n : ℕ) (row : Row) → row_under q 0 d.base ≡ Some (n, row)
    → UpTo bound (records_in n d.redos) → Rises bound (records_for n file)
    → hist_in_files q (record d { redos = d.redos ++ file ∷ [] }) ≡ push_all (records_for n file) (hist_in_files q d)
