-- Where bytes stop being the front of a spelling, told byte by byte.
use Rattle.std.specs.Prelude.{◌<◌, ◌≤◌, suc, ℕ, List, ◌++◌, length, take}

-- some spelling begins with these bytes
abbrev pub CanGoOn : (List ℕ → Type 0) → List ℕ → Type 0
CanGoOn spelled front = (rest : List ℕ) × spelled (front ++ rest)

-- the place of the first fault of a text: some spelling begins with the bytes before it, and none with these and the
-- byte that stands there. It is the length of the text where bytes are missing
pub record IsFault (spelled : List ℕ → Type 0) (text : List ℕ) (place : ℕ) : Type 0 where
  pub within : place ≤ length text
  pub front : CanGoOn spelled (take place text)
  pub ends : place < length text → ¬ CanGoOn spelled (take (suc place) text)
