-- The histories of one key in several stores, joined to one.
use Rattle.std.specs.Prelude.{ℕ, List, [], ◌∷◌, ◌++◌, map}
use Rattle.kt_histlaws.specs.Histories.{first_some, ShowsKey}
use Rattle.kt_history.specs.Stores.{Steps, Hist, row_of}
use Rattle.kt_histlaws.specs.Fitting.{RiseAbove, steps_above}
use Rattle.kt_histlaws.specs.Jobs.{AreAlike}
use Rattle.kt_rowfiles.specs.Files.{rising}
use Rattle.kt_rowfiles.specs.Flushing.{InOrderAt}

-- all changes above j
abbrev pub all_above : ℕ → List Hist → Steps
all_above j [] = []
all_above j (h ∷ hs) = steps_above j h.steps ++ all_above j hs

-- the row at j, of the store that has it, and all changes above j by rising timestamp
abbrev pub joined_history : ℕ → List Hist → Hist
joined_history j hs = record { first = first_some (map (row_of j) hs); steps = rising (all_above j hs) }

-- where the stores show one history from j on, the joined one is alike to them
abbrev pub a_joined_history_is_alike : Type 0
a_joined_history_is_alike = (j : ℕ) (hs : List Hist) (whole : Hist) → ShowsKey j hs whole → RiseAbove j hs → RiseAbove j (whole ∷ []) → InOrderAt j whole.steps
    → AreAlike j hs (joined_history j hs ∷ [])
