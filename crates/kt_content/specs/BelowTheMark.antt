-- Outputs below a job's mark.
use Rattle.std.specs.Prelude.{◌<◌, ◌≤◌, ◌⊎◌, ℕ, List, [], ◌∷◌}
use Rattle.kt_history.specs.Stores.{Steps, Hist}
use Rattle.kt_histlaws.specs.Fitting.{AreSound}
use Rattle.kt_histlaws.specs.Jobs.{AreAlike}

-- no change above u and at or below j
abbrev pub LacksBetween : ℕ → ℕ → Steps → Type 0
LacksBetween u j [] = Unit {0}
LacksBetween u j (c ∷ steps) = ((c.0 ≤ u) ⊎ (j < c.0)) × LacksBetween u j steps

abbrev pub EachLacksBetween : ℕ → ℕ → List Hist → Type 0
EachLacksBetween u j [] = Unit {0}
EachLacksBetween u j (h ∷ hs) = LacksBetween u j h.steps × EachLacksBetween u j hs

-- what is alike from a mark on is alike from the last change below it on
abbrev pub alike_from_the_last_change : Type 0
alike_from_the_last_change = (u j : ℕ) (xs ys : List Hist) → AreAlike j xs ys → EachLacksBetween u j xs → EachLacksBetween u j ys → u ≤ j → AreAlike u xs ys

-- and what is sound from a mark on is sound from there on
abbrev pub sound_from_the_last_change : Type 0
sound_from_the_last_change = (u j : ℕ) (hs : List Hist) → AreSound j hs → EachLacksBetween u j hs → u ≤ j → AreSound u hs
