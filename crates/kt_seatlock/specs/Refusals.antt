-- What a visit's condition refuses, and what a trail's growth means for a number's own entries.
use Rattle.std.specs.Prelude.{◌≡◌, ◌≢◌, ℕ, List, [], ◌∷◌, ◌++◌, Option, Some}
use Rattle.kt_seatlock.specs.Trails.{own, Follows, Adds, KeepsParts}

module _ {E : Type 0} (owner : E → Option ℕ) where
  -- a trail that was begun anew, as the opening value has it
  abbrev pub RefusesAnew : Type 0
  RefusesAnew = (n : ℕ) (before after : List E) → ((more : List E) → after ≢ before ++ more) → ¬ Adds owner n before after

  -- an entry with another's number
  abbrev pub RefusesForeign : Type 0
  RefusesForeign = (n m : ℕ) (before : List E) (e : E) → owner e ≡ Some m → m ≢ n → ¬ Adds owner n before (before ++ e ∷ [])

  -- two entries in one visit
  abbrev pub RefusesTwo : Type 0
  RefusesTwo = (n : ℕ) (before : List E) (e d : E) → ¬ Adds owner n before (before ++ e ∷ d ∷ [])

  -- where a trail goes on from what was seen by entries of others, the number's own entries are those seen
  abbrev pub KeepsOwn : Type 0
  KeepsOwn = (n : ℕ) (seen trail : List E) → Follows owner n seen trail → own owner n trail ≡ own owner n seen

-- another pass's part changed
abbrev pub RefusesOtherPart : {T P : Type 0} → (T → ℕ → P) → Type 0
RefusesOtherPart {T} part = (n k : ℕ) (before after : T) → k ≢ n → part after k ≢ part before k → ¬ KeepsParts part n before after
