-- Items that rise, and where the items of a block stop doing so.
use Rattle.std.specs.Prelude.{◌≡◌, ◌<◌, ◌≤◌, ℕ, Bool, true, false, List, [], ◌∷◌, ◌++◌, length, Option, None, Some}
use Rattle.std.specs.declared.cmp.Ordering.TheVariants.{Less}
use Rattle.kt_front.specs.Spelling.{spelling, FitsWithin}
use Rattle.kt_front.specs.Walking.{order}

-- the item is above this one, where there is one
abbrev pub IsAbove : Option (List ℕ) → List ℕ → Type 0
IsAbove None item = Unit {0}
IsAbove (Some before) item = order before item ≡ Less

-- there is a last one, or there is none
abbrev pub bound : Bool → List ℕ → Option (List ℕ)
bound true last = Some last
bound false last = None

-- each item is above the one before it
abbrev pub Rise : Option (List ℕ) → List (List ℕ) → Type 0
Rise before [] = Unit {0}
Rise before (item ∷ items) = IsAbove before item × Rise (Some item) items

-- the last of them, or what was before
abbrev pub last_item : Option (List ℕ) → List (List ℕ) → Option (List ℕ)
last_item before [] = before
last_item before (item ∷ items) = last_item (Some item) items

-- the bytes begin with the cells of these items, none of more bytes
pub record BeginsWith (most : ℕ) (bytes : List ℕ) (items : List (List ℕ)) : Type 0 where
  pub fits : FitsWithin most items
  pub rest : List ℕ
  pub parts : bytes ≡ spelling items ++ rest

-- the first of n items that is not above the one before it, and where its cell begins
pub record IsFall (most n : ℕ) (before : Option (List ℕ)) (bytes : List ℕ) (at : ℕ) : Type 0 where
  pub items : List (List ℕ)
  pub item : List ℕ
  pub begins : BeginsWith most bytes (items ++ item ∷ [])
  pub few : length items < n
  pub rise : Rise before items
  pub falls : ¬ Rise before (items ++ item ∷ [])
  pub place : at ≡ length (spelling items)

-- of the first n items, as many as the bytes begin with rise
abbrev pub NoneFalls : ℕ → ℕ → Option (List ℕ) → List ℕ → Type 0
NoneFalls most n before bytes = (items : List (List ℕ)) → length items ≤ n → BeginsWith most bytes items → Rise before items
