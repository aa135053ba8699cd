-- A list that is held as it stands on disk, and an item where it stands.
use Rattle.std.specs.Prelude.{ℕ, suc, ◌<◌, ◌^◌, List, [], length, get_or, Result, Ok, Err}
use Rattle.kt_front.specs.Spelling.{longest}
use Rattle.kt_front.specs.Reading.{Spells}
use Rattle.kt_front.specs.Walk.{items_at, block_at}
use Rattle.kt_front.specs.Walking.{IsBlock, AreStarts}

abbrev pub list_of : Result (List (List ℕ)) ℕ → List (List ℕ)
list_of (Ok items) = items
list_of (Err left) = []

-- the n items that the bytes are a block of
abbrev pub items_in : ℕ → List ℕ → List (List ℕ)
items_in n bytes = list_of (block_at longest n bytes)

-- the bytes are a block of n items, and its stretches begin there
pub record IsHeld (n : ℕ) (bytes starts : List ℕ) : Type 0 where
  pub few : n < 2 ^ 32
  pub spells : Spells bytes n (items_in n bytes)
  pub starts_are : AreStarts starts (items_in n bytes)

abbrev pub firsts_of : Result (List (List ℕ) × List ℕ) ℕ → List (List ℕ)
firsts_of (Ok read) = read.0
firsts_of (Err left) = []

-- the item at a place of a block
abbrev pub item_in : ℕ → List ℕ → List ℕ
item_in k bytes = get_or (firsts_of (items_at longest (suc k) 0 [] bytes)) k []

-- the bytes are a block with an item at this place
pub record StandsIn (k : ℕ) (bytes : List ℕ) : Type 0 where
  pub items : List (List ℕ)
  pub block : IsBlock bytes items
  pub there : k < length items
