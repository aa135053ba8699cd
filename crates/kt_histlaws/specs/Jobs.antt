-- A job's outputs beside its inputs, for one key.
use Rattle.std.specs.Prelude.{◌≡◌, ◌<◌, ◌≤◌, ℕ, List, ◌++◌, map}
use Rattle.kt_histlaws.specs.Histories.{first_some, AtMostOne}
use Rattle.kt_history.specs.Stores.{Steps, Hist, row_of, step_of}

-- two lists of histories show the same from a on
pub record AreAlike (a : ℕ) (xs ys : List Hist) : Type 0 where
  pub rows : (t : ℕ) → a ≤ t → first_some (map (row_of t) xs) ≡ first_some (map (row_of t) ys)
  pub steps : (t : ℕ) → a < t → first_some (map (step_of t) xs) ≡ first_some (map (step_of t) ys)
  pub one_row : (t : ℕ) → a ≤ t → AtMostOne (map (row_of t) ys)
  pub one_step : (t : ℕ) → a < t → AtMostOne (map (step_of t) ys)

-- an output and what it becomes once the missed changes are put in: they lie between what was written first and what was duplicated
pub record IsFilled (missed : Steps) (out full : Hist) : Type 0 where
  pub written : Steps
  pub doubled : Steps
  pub first : full.first ≡ out.first
  pub out_is : out.steps ≡ written ++ doubled
  pub full_is : full.steps ≡ (written ++ missed) ++ doubled

-- these changes are put in at the end
abbrev pub push_all : Steps → Hist → Hist
push_all steps h = record h { steps = h.steps ++ steps }
