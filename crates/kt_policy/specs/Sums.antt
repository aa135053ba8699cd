-- The table of the greatest sums of widths.
use Rattle.std.specs.Prelude.{◌≡◌, ◌<◌, ◌≤◌, ℕ, ◌+◌, Bool, List, [], ◌∷◌, length, take, nat_le, nat_lt, ◌==◌, ◌&&◌, ◌||◌, if◌then◌else◌, slice_index, slice_index_or}
use Rattle.std.specs.List.{filter}
use Rattle.kt_policy.specs.declared.candidate.Candidate.{Candidate}
use Rattle.kt_policy.specs.Gain.{widths, cost, chosen}

-- by greatest rank, then by rowset number
abbrev pub is_before : Candidate → Candidate → Bool
is_before c d = nat_lt c.greatest d.greatest || ((c.greatest == d.greatest) && nat_lt c.rowset d.rowset)

abbrev pub placed : Candidate → List Candidate → List Candidate
placed c [] = c ∷ []
placed c (d ∷ ds) = if is_before c d then c ∷ d ∷ ds else d ∷ placed c ds

abbrev pub in_order : List Candidate → List Candidate
in_order [] = []
in_order (c ∷ cs) = placed c (in_order cs)

-- the candidates that begin at a left bound or to the right of it, in their order
abbrev pub from_bound : Candidate → List Candidate → List Candidate
from_bound bound order = filter (λ c. nat_le bound.least c.least) order

-- the greatest sum of widths of a set of these whose cost is at most this
pub record IsMost (cs : List Candidate) (budget sum : ℕ) : Type 0 where
  pub test : ℕ → Bool
  pub within : cost (chosen test cs) ≤ budget
  pub reached : widths (chosen test cs) ≡ sum
  pub most : (other : ℕ → Bool) → cost (chosen other cs) ≤ budget → widths (chosen other cs) ≤ sum

-- a row has the greatest sum for each cost up to the budget
pub record IsRow (cs : List Candidate) (budget : ℕ) (row : List ℕ) : Type 0 where
  pub count : length row ≡ budget + 1
  pub sums : (b : ℕ) → b ≤ budget → IsMost cs b (slice_index row b)

-- a part has a row for the first of its candidates, for each number of them
pub record IsPart (cs : List Candidate) (budget : ℕ) (rows : List (List ℕ)) : Type 0 where
  pub count : length rows ≡ length cs + 1
  pub each : (k : ℕ) → k ≤ length cs → IsRow (take k cs) budget (slice_index_or rows k [])

-- a table has a part for each candidate, taken as the left bound
pub record IsTable (list : List Candidate) (budget : ℕ) (table : List (List (List ℕ))) : Type 0 where
  pub count : length table ≡ length list
  pub parts : (l : ℕ) (d : Candidate) → l < length list → IsPart (from_bound (slice_index_or list l d) (in_order list)) budget (slice_index_or table l [])
