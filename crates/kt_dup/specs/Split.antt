-- What a job's stores have of one key between its swap and its end.
use Rattle.std.specs.Prelude.{◌≡◌, ℕ, false, List, [], ◌∷◌, ◌++◌, map, None}
use Rattle.kt_history.specs.declared.change.Change.{Change}
use Rattle.kt_history.specs.Rows.{fits}
use Rattle.kt_history.specs.Stores.{Steps, Hist, Store, hist_in}
use Rattle.kt_histlaws.specs.Fitting.{AreSound, RiseAbove, Rises, steps_above}
use Rattle.kt_histlaws.specs.Flights.{UpTo}
use Rattle.kt_histlaws.specs.Jobs.{AreAlike, IsFilled}

-- An output lacks these missed changes, and is full once they are put in. What its files have lies up to the bound; the missed changes lie above
-- it, and below every change that went to both sides.
pub record Lacks (bound : ℕ) (missed : Steps) (out full : Hist) : Type 0 where
  pub filled : IsFilled missed out full
  pub written : UpTo bound filled.written
  pub later : Rises bound (missed ++ filled.doubled)

-- each output its own
abbrev pub AllLack : ℕ → List Steps → List Hist → List Hist → Type 0
AllLack bound [] [] [] = Unit {0}
AllLack bound (m ∷ missed) (out ∷ outs) (h ∷ full) = Lacks bound m out h × AllLack bound missed outs full
AllLack bound _ _ _ = ⊥

-- nothing is missed
abbrev pub none_missed : List Hist → List Steps
none_missed outs = map (λ _. []) outs

-- a change of a row that is there, so no insert
abbrev pub IsOfRow : Change → Type 0
IsOfRow c = fits c None ≡ false

abbrev pub AllOfRows : Steps → Type 0
AllOfRows [] = Unit {0}
AllOfRows (c ∷ steps) = IsOfRow c.1 × AllOfRows steps

-- no insert lies above the bound
abbrev pub TakeNoInsert : ℕ → List Hist → Type 0
TakeNoInsert bound [] = Unit {0}
TakeNoInsert bound (h ∷ hs) = AllOfRows (steps_above bound h.steps) × TakeNoInsert bound hs

-- The split of a job with this mark and this bound, for one key. Once the missed changes are put in, the outputs show from the mark on what the
-- inputs show, and have no change twice.
pub record IsSplit (j bound : ℕ) (missed : List Steps) (ins outs : List Hist) : Type 0 where
  pub full : List Hist
  pub lack : AllLack bound missed outs full
  pub alike : AreAlike j ins full
  pub sound : AreSound j full
  pub rise : RiseAbove bound ins
  pub no_insert : TakeNoInsert bound ins

-- that of one input and one output, for each key
abbrev pub AreSplit : ℕ → ℕ → (List ℕ → Steps) → Store → Store → Type 0
AreSplit j bound missed ins outs = (q : List ℕ) → IsSplit j bound (missed q ∷ []) (hist_in q ins ∷ []) (hist_in q outs ∷ [])
