-- What else each history keeps above the mark: its changes stand by rising timestamp, and each fits the row before it.
use Rattle.std.specs.Prelude.{◌≡◌, ◌<◌, ◌-◌, ℕ, true, List, [], ◌∷◌, Option, Some, None, nat_lt}
use Rattle.std.specs.List.{filter}
use Rattle.kt_history.specs.declared.change.Change.{Change}
use Rattle.kt_history.specs.Rows.{Row, fits}
use Rattle.kt_history.specs.Stores.{Steps, Hist, row_of, step_of}

abbrev pub IfFits : Option Change → Option Row → Type 0
IfFits None row = Unit {0}
IfFits (Some c) row = fits c row ≡ true

abbrev pub AllFit : ℕ → List Hist → Type 0
AllFit t [] = Unit {0}
AllFit t (h ∷ hs) = IfFits (step_of t h) (row_of (t - 1) h) × AllFit t hs

-- each change above a fits the row before it, in the history that has it
abbrev pub FitAbove : ℕ → List Hist → Type 0
FitAbove a hs = (t : ℕ) → a < t → AllFit t hs

abbrev pub steps_above : ℕ → Steps → Steps
steps_above a steps = filter (λ c. nat_lt a c.0) steps

-- the timestamps rise from low on
abbrev pub Rises : ℕ → Steps → Type 0
Rises low [] = Unit {0}
Rises low (c ∷ steps) = (low < c.0) × Rises c.0 steps

-- each history has its changes above a by rising timestamp, so never two at one
abbrev pub RiseAbove : ℕ → List Hist → Type 0
RiseAbove a [] = Unit {0}
RiseAbove a (h ∷ hs) = Rises a (steps_above a h.steps) × RiseAbove a hs

pub record AreSound (a : ℕ) (hs : List Hist) : Type 0 where
  pub fit : FitAbove a hs
  pub rise : RiseAbove a hs
