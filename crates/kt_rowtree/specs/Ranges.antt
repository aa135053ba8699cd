-- Which rowsets hold a key.
use Rattle.std.specs.Prelude.{◌≡◌, ℕ, ◌<◌, ◌≤◌, ◌+◌, ◌-◌, ◌==◌, Bool, true, false, not, ◌&&◌, List, [], ◌∷◌, map, length, get_or, nat_lt, if◌then◌else◌}
use Rattle.std.specs.List.{filter, list_any, All, count_by}
use Rattle.std.specs.List.Sorted.{IsPermutation, IsSorted}
use Rattle.std.specs.Ordering.{nat_cmp, is_le}
use Rattle.std.specs.Cmp.Lexicographic.{slice_cmp}
use Rattle.kt_rowtree.specs.declared.links.Link.{Link}
use Rattle.kt_rowtree.specs.declared.lists.Range.{Range}

-- a is b or comes before it
abbrev pub is_upto : List ℕ → List ℕ → Bool
is_upto a b = is_le (slice_cmp nat_cmp a b)

-- the range holds the key
abbrev pub holds : List ℕ → Range → Bool
holds key range = is_upto range.least key && is_upto key range.greatest

-- the rowsets whose range holds the key
abbrev pub holders_of : List ℕ → List Range → List ℕ
holders_of key ranges = map (λ (r : Range). r.rowset) (filter (holds key) ranges)

-- these are the rowsets that hold the key, by number
pub record AreHolders (key : List ℕ) (ranges : List Range) (ids : List ℕ) : Type 0 where
  pub all : IsPermutation (holders_of key ranges) ids
  pub by_number : IsSorted nat_cmp ids

-- these are the rowsets that hold the least of the keys that lie in the most ranges, by number
pub record IsDeepest (ranges : List Range) (ids : List ℕ) : Type 0 where
  pub key : List ℕ
  pub holders : AreHolders key ranges ids
  pub most : (other : List ℕ) → length (holders_of other ranges) ≤ length (holders_of key ranges)
  pub least : (other : List ℕ) → length (holders_of other ranges) ≡ length (holders_of key ranges) → is_upto key other ≡ true

-- no range ends before it begins
abbrev pub IsOrderly : List Range → Type 0
IsOrderly ranges = All (λ (r : Range). is_upto r.least r.greatest ≡ true) ranges

-- the ranges stand by their least keys
abbrev pub IsByLeast : List Range → Type 0
IsByLeast ranges = (j k : ℕ) (d : Range) → j ≤ k → k < length ranges → is_upto (get_or ranges j d).least (get_or ranges k d).least ≡ true

-- from `low` on, up to the range at `k`, none ends after that range does
abbrev pub EndsLast : List Range → ℕ → ℕ → Type 0
EndsLast ranges low k = (j : ℕ) (d : Range) → low ≤ j → j < k → is_upto (get_or ranges j d).greatest (get_or ranges k d).greatest ≡ true

-- the range in front of `low`, if there is one, ends no earlier than any from `low` on of the first `at`
abbrev pub Outlasts : List Range → ℕ → ℕ → Type 0
Outlasts ranges low at = (j : ℕ) (d : Range) → 0 < low → low ≤ j → j < at → is_upto (get_or ranges j d).greatest (get_or ranges (low - 1) d).greatest ≡ true

-- from `low` on none of the first `at` ranges ends at the key or after it
abbrev pub EndEarly : List ℕ → List Range → ℕ → ℕ → Type 0
EndEarly key ranges low at = (j : ℕ) (d : Range) → low ≤ j → j < at → is_upto key (get_or ranges j d).greatest ≡ false

-- these are steps back from the range at `k`: the near one over ranges that it outlasts, the far one over ranges that the one in front of them outlasts
pub record IsLink (ranges : List Range) (k : ℕ) (link : Link) : Type 0 where
  pub back : link.near ≤ k
  pub last : EndsLast ranges link.near k
  pub farther : link.far ≤ link.near
  pub front : Outlasts ranges link.far (k + 1)
  pub fewer : link.far + link.hops ≤ k + 1

-- each of these stands for the steps of the range at its place
abbrev pub AreLinks : List Range → List Link → Type 0
AreLinks ranges links = (k : ℕ) (d : Link) → k < length links → IsLink ranges k (get_or links k d)

-- the greatest key of the range at this place
abbrev pub end_at : List Range → ℕ → List ℕ
end_at ranges place = (get_or ranges place (record { rowset = 0; least = []; greatest = [] })).greatest

-- these are the places of the ranges, by their greatest keys
pub record AreEnds (ranges : List Range) (places : List ℕ) : Type 0 where
  pub all : IsPermutation (map (λ (r : Range). r.greatest) ranges) (map (end_at ranges) places)
  pub by_greatest : (j k : ℕ) → j ≤ k → k < length places → is_upto (end_at ranges (get_or places j 0)) (end_at ranges (get_or places k 0)) ≡ true

-- these ranges but those of the rowsets that are listed
abbrev pub without : List ℕ → List Range → List Range
without out ranges = filter (λ (r : Range). not (list_any (λ n. n == r.rowset) out)) ranges

-- the range of a rowset whose number is less by so many as left in front of it
abbrev pub closed : List ℕ → Range → Range
closed out r = record r { rowset = r.rowset - count_by (λ n. nat_lt n r.rowset) out }

-- the ranges of the rowsets that are left, numbered so
abbrev pub closed_up : List ℕ → List Range → List Range
closed_up out ranges = map (closed out) (without out ranges)

-- the range of a rowset whose number is greater by so much
abbrev pub raised : ℕ → Range → Range
raised more r = record r { rowset = r.rowset + more }

-- ranges from one key to another, each numbered by its place, from one on
abbrev pub placed : ℕ → List (List ℕ × List ℕ) → List Range
placed at [] = []
placed at (ends ∷ rest) = record { rowset = at; least = ends.0; greatest = ends.1 } ∷ placed (at + 1) rest

-- the places, from one on, of what does not pass a test
abbrev pub places_out : {A : Type 0} → (A → Bool) → ℕ → List A → List ℕ
places_out stays at [] = []
places_out stays at (x ∷ xs) = if stays x then places_out stays (at + 1) xs else at ∷ places_out stays (at + 1) xs

-- a row tree as callers see it: its ranges in some order, and how many it can hold without more memory
pub record Tree : Type 0 where
  pub ranges : List Range
  pub room : ℕ

-- what a row tree keeps of its ranges
pub record IsRowTree (ranges : List Range) (links : List Link) (stack : List ℕ) : Type 0 where
  pub orderly : IsOrderly ranges
  pub by_least : IsByLeast ranges
  pub are_links : AreLinks ranges links
  pub all : length links ≡ length ranges
  pub deepest : 0 < length ranges → IsDeepest ranges stack

-- each of its lists has this room, and no more ranges are there
pub record HasRoom (room count ranges links stack : ℕ) : Type 0 where
  pub few : count ≤ room
  pub in_ranges : room ≤ ranges
  pub in_links : room ≤ links
  pub in_stack : room ≤ stack
