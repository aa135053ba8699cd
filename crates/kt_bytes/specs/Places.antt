-- Where bytes that are no spelling are at fault, told by the spellings alone. A spelling is a list of fields, and a
-- format says which lists of fields are one.
use Rattle.std.specs.Prelude.{◌≡◌, ◌<◌, ◌≤◌, ◌+◌, ◌⊎◌, ℕ, List, [], ◌∷◌, ◌++◌, length, get_or}
use Rattle.std.specs.List.{concat}

-- some spelling begins with these fields
abbrev pub Begins : (List (List ℕ) → Type 0) → List (List ℕ) → Type 0
Begins Spelled front = (more : List (List ℕ)) × Spelled (front ++ more)

-- some spelling goes on with this field behind these
abbrev pub GoesOn : (List (List ℕ) → Type 0) → List (List ℕ) → List ℕ → Type 0
GoesOn Spelled front field = Begins Spelled (front ++ field ∷ [])

-- the field stands at the front of the bytes
abbrev pub Stands : List ℕ → List ℕ → Type 0
Stands field bytes = (more : List ℕ) × (bytes ≡ field ++ more)

-- the end of the bytes where a field that could stand there is longer than what is left, and else the field's first byte
abbrev pub IsPlace : (List (List ℕ) → Type 0) → List (List ℕ) → List ℕ → ℕ → Type 0
IsPlace Spelled front rest place =
    ((field : List ℕ) × GoesOn Spelled front field × (length rest < length field) × (place ≡ length (concat front) + length rest))
    ⊎ (((field : List ℕ) → GoesOn Spelled front field → length field ≤ length rest) × (place ≡ length (concat front)))

-- the first fault of bytes that are no spelling: some spelling begins with the fields in front of it, and none goes on
-- with a field that stands there
pub record IsFault (Spelled : List (List ℕ) → Type 0) (bytes : List ℕ) (place : ℕ) : Type 0 where
  pub front : List (List ℕ)
  pub rest : List ℕ
  pub parts : bytes ≡ concat front ++ rest
  pub begins : Begins Spelled front
  pub ends : (field : List ℕ) → GoesOn Spelled front field → ¬ Stands field rest
  pub more : Spelled front → 0 < length rest
  pub at : IsPlace Spelled front rest place

-- what stands before a field tells how long it is
abbrev pub Delimited : (List (List ℕ) → Type 0) → Type 0
Delimited Spelled = (front : List (List ℕ)) (a b : List ℕ) → GoesOn Spelled front a → GoesOn Spelled front b → length a ≡ length b

-- ---- spellings of values

-- the numbers are bytes
abbrev pub AreBytes : List ℕ → Type 0
AreBytes bytes = (i : ℕ) → get_or bytes i 0 < 256

-- these are the fields of a value that keeps the rules, in bytes
pub record IsSpelled {X : Type 0} (fields : X → List (List ℕ)) (Keeps : X → Type 0) (all : List (List ℕ)) : Type 0 where
  pub value : X
  pub keeps : Keeps value
  pub bytes : AreBytes (concat all)
  pub is : all ≡ fields value
