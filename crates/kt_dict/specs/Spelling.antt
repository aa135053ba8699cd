-- The one spelling of a list of byte strings: its dictionary, and where each item stands in it.
use Rattle.std.specs.Prelude.{◌≡◌, ℕ, suc, ◌<◌, ◌≤◌, List, [], ◌∷◌, ◌++◌, length, map, get_or, nat_eq, Bool, if◌then◌else◌}
use Rattle.std.specs.List.{AllByRecursion, concat, flat_map, list_any}
use Rattle.std.specs.Cmp.Lexicographic.{pointwise}
use Rattle.std.specs.Int.{w16, w32, to_le_bytes}

-- two byte strings are the same
abbrev pub same : List ℕ → List ℕ → Bool
same xs ys = pointwise nat_eq xs ys

-- the item stands among the entries
abbrev pub has : List (List ℕ) → List ℕ → Bool
has entries item = list_any (same item) entries

-- where it first stands, or the number of entries where it does not
abbrev pub place : List (List ℕ) → List ℕ → ℕ
place [] item = 0
place (entry ∷ entries) item = if same item entry then 0 else suc (place entries item)

-- the entries once this item is used too: it goes last where it is not there
abbrev pub with_entry : List (List ℕ) → List ℕ → List (List ℕ)
with_entry entries item = if has entries item then entries else entries ++ item ∷ []

-- the entries once these items are used too, one after the other
abbrev pub entries_after : List (List ℕ) → List (List ℕ) → List (List ℕ)
entries_after entries [] = entries
entries_after entries (item ∷ items) = entries_after (with_entry entries item) items

-- the different items, in the order of their first use
abbrev pub dictionary : List (List ℕ) → List (List ℕ)
dictionary items = entries_after [] items

-- a number in two bytes and one in four, the low byte first
unfoldable pub short : ℕ → List ℕ
short n = to_le_bytes w16 n

unfoldable pub number : ℕ → List ℕ
number n = to_le_bytes w32 n

-- the fields of an entry: its length, and its bytes
abbrev pub entry : List ℕ → List (List ℕ)
entry bytes = number (length bytes) ∷ bytes ∷ []

-- the code of an item: its place among the entries
abbrev pub code : List (List ℕ) → List ℕ → List ℕ
code entries item = short (place entries item)

-- the fields of a block: how many entries there are, the entries, and the code of each item
abbrev pub block : List (List ℕ) → List (List ℕ) → List (List ℕ)
block entries items = short (length entries) ∷ (flat_map entry entries ++ map (code entries) items)

abbrev pub fields : List (List ℕ) → List (List ℕ)
fields items = block (dictionary items) items

unfoldable pub spelling : List (List ℕ) → List ℕ
spelling items = concat (fields items)

-- at most 4,096 different items, and none of more bytes
pub record FitsWithin (most : ℕ) (items : List (List ℕ)) : Type 0 where
  pub few : length (dictionary items) ≤ 4096
  pub each : AllByRecursion (λ x. length x ≤ most) (dictionary items)

-- the most bytes whose number has room in a length field
abbrev pub longest : ℕ
longest = 4294967295

-- what has a spelling
abbrev pub Fits : List (List ℕ) → Type 0
Fits items = FitsWithin longest items

-- the numbers are bytes
abbrev pub AreBytes : List ℕ → Type 0
AreBytes item = (i : ℕ) → get_or item i 0 < 256

-- the fields are those of a list of n byte strings, none of more bytes
pub record SpelledWithin (most n : ℕ) (all : List (List ℕ)) : Type 0 where
  pub items : List (List ℕ)
  pub count : length items ≡ n
  pub fits : FitsWithin most items
  pub bytes : AllByRecursion AreBytes (dictionary items)
  pub is : all ≡ fields items

-- the fields are those of a list of n byte strings
abbrev pub Spelled : ℕ → List (List ℕ) → Type 0
Spelled n = SpelledWithin longest n
