-- Trails of entries, and what one visit may do to a value.
use Rattle.std.specs.Prelude.{◌≡◌, ◌≢◌, ℕ, ◌⊎◌, List, [], ◌∷◌, ◌++◌, length, Option, Some, None, Bool, false, eqb, cond, leb, filter}

-- P holds of each element
abbrev pub Each : {A : Type 0} → (A → Type 0) → List A → Type 0
Each P [] = Unit {0}
Each P (x ∷ xs) = P x × Each P xs

-- the longer of two lists
abbrev pub longer : {A : Type 0} → List A → List A → List A
longer xs ys = cond (leb (length xs) (length ys)) ys xs

-- whether an entry of this owner bears the number
abbrev pub bears : Option ℕ → ℕ → Bool
bears None n = false
bears (Some m) n = eqb m n

module _ {E : Type 0} (owner : E → Option ℕ) where
  -- the entries that bear the number, in order
  abbrev pub own : ℕ → List E → List E
  own n trail = filter (λ e. bears (owner e) n) trail

  -- the trail begins with what was seen, and no later entry bears the number
  abbrev pub Follows : ℕ → List E → List E → Type 0
  Follows n seen trail = (more : List E) × (trail ≡ seen ++ more) × Each (λ e. owner e ≢ Some n) more

  -- at most one entry was added, and it bears the number or none
  abbrev pub Adds : ℕ → List E → List E → Type 0
  Adds n before after = (after ≡ before) ⊎ ((e : E) × (after ≡ before ++ e ∷ []) × ((owner e ≡ Some n) ⊎ (owner e ≡ None)))

-- only the number's own part may differ
abbrev pub KeepsParts : {T P : Type 0} → (T → ℕ → P) → ℕ → T → T → Type 0
KeepsParts part n before after = (k : ℕ) → k ≢ n → part after k ≡ part before k
