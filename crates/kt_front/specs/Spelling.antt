-- The one spelling of a list of byte lists.
use Rattle.std.specs.Prelude.{◌≡◌, ℕ, suc, ◌-◌, ◌%◌, ◌<◌, ◌≤◌, List, [], ◌∷◌, ◌++◌, length, drop, get_or, nat_eq, ◌==◌, if◌then◌else◌}
use Rattle.std.specs.List.{AllByRecursion, common_prefix_len}
use Rattle.std.specs.Int.{w32, to_le_bytes}

-- how many bytes two byte lists begin with alike
abbrev pub shared : List ℕ → List ℕ → ℕ
shared xs ys = common_prefix_len nat_eq xs ys

-- What cell number i may share bytes with: the item before it. A stretch begins at each number
-- divisible by 16, with nothing to share.
abbrev pub base : ℕ → List ℕ → List ℕ
base i before = if i % 16 == 0 then [] else before

-- a number in four bytes, the low one first
unfoldable pub number : ℕ → List ℕ
number n = to_le_bytes w32 n

-- a cell: how many bytes it shares, how many follow, and those
unfoldable pub cell : List ℕ → List ℕ → List ℕ
cell with item = number (shared with item) ++ number (length item - shared with item) ++ drop (shared with item) item

-- the cells from number i on, behind this item
abbrev pub cells : ℕ → List ℕ → List (List ℕ) → List ℕ
cells i before [] = []
cells i before (item ∷ items) = cell (base i before) item ++ cells (suc i) item items

unfoldable pub spelling : List (List ℕ) → List ℕ
spelling items = cells 0 [] items

-- the fields of a cell
abbrev pub cell_fields : List ℕ → List ℕ → List (List ℕ)
cell_fields with item = number (shared with item) ∷ number (length item - shared with item) ∷ drop (shared with item) item ∷ []

abbrev pub fields_from : ℕ → List ℕ → List (List ℕ) → List (List ℕ)
fields_from i before [] = []
fields_from i before (item ∷ items) = cell_fields (base i before) item ++ fields_from (suc i) item items

abbrev pub fields : List (List ℕ) → List (List ℕ)
fields items = fields_from 0 [] items

-- no item has more bytes
pub record FitsWithin (most : ℕ) (items : List (List ℕ)) : Type 0 where
  pub each : AllByRecursion (λ x. length x ≤ most) items

-- the most bytes whose number has room in a length field
abbrev pub longest : ℕ
longest = 4294967295

-- what has a spelling
abbrev pub Fits : List (List ℕ) → Type 0
Fits items = FitsWithin longest items

-- the numbers are bytes
abbrev pub AreBytes : List ℕ → Type 0
AreBytes item = (i : ℕ) → get_or item i 0 < 256

-- the fields are those of a list of n byte strings, none of more bytes
pub record SpelledWithin (most n : ℕ) (all : List (List ℕ)) : Type 0 where
  pub items : List (List ℕ)
  pub count : length items ≡ n
  pub fits : FitsWithin most items
  pub bytes : AllByRecursion AreBytes items
  pub is : all ≡ fields items

-- the fields are those of a list of n byte strings
abbrev pub Spelled : ℕ → List (List ℕ) → Type 0
Spelled n = SpelledWithin longest n
