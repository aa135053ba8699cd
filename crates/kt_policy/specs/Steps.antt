-- How the sums are found and read: what private calls promise.
use Rattle.std.specs.Prelude.{◌≡◌, ◌<◌, ◌≤◌, ℕ, ◌+◌, ◌-◌, max, true, List, [], ◌∷◌, length, nat_le, nat_lt, if◌then◌else◌, slice_index, slice_index_or}
use Rattle.std.specs.List.{AllPairs}
use Rattle.kt_policy.specs.declared.candidate.Candidate.{Candidate}
use Rattle.kt_policy.specs.Gain.{width, widths, cost, chosen, is_in, is_known}
use Rattle.kt_policy.specs.Sums.{in_order, from_bound}

-- the sum at b with one candidate more
abbrev pub with_more : Candidate → List ℕ → ℕ → ℕ
with_more c row b = if nat_le c.units b then max (slice_index row b) (slice_index row (b - c.units) + width c) else slice_index row b

pub record IsNext (c : Candidate) (row next : List ℕ) : Type 0 where
  pub count : length next ≡ length row
  pub sums : (b : ℕ) → b < length row → slice_index next b ≡ with_more c row b

-- what the sum behind a left bound and a last candidate gains at least: the ranks from the one to the other are the widest hull
abbrev pub offer : Candidate → List Candidate → ℕ → List (List ℕ) → ℕ → Candidate → ℕ
offer bound part budget rows k d = slice_index (slice_index_or rows (k + 1) []) budget - ((slice_index_or part k d).greatest - bound.least + 1)

-- the greatest offer of one left bound
pub record IsOffer (bound : Candidate) (part : List Candidate) (budget : ℕ) (rows : List (List ℕ)) (gain last : ℕ) : Type 0 where
  pub most : (k : ℕ) (d : Candidate) → k < length part → offer bound part budget rows k d ≤ gain
  pub made : 0 < gain → (last < length part) × ((d : Candidate) → offer bound part budget rows last d ≡ gain)

-- the candidates of left bound number l
abbrev pub part_at : List Candidate → ℕ → Candidate → List Candidate
part_at list l d = from_bound (slice_index_or list l d) (in_order list)

abbrev pub offer_at : List Candidate → ℕ → List (List (List ℕ)) → ℕ → ℕ → Candidate → ℕ
offer_at list budget table l k d = offer (slice_index_or list l d) (part_at list l d) budget (slice_index_or table l []) k d

-- the greatest offer of all
pub record IsTop (list : List Candidate) (budget : ℕ) (table : List (List (List ℕ))) (gain bound last : ℕ) : Type 0 where
  pub most : (l k : ℕ) (d : Candidate) → l < length list → k < length (part_at list l d) → offer_at list budget table l k d ≤ gain
  pub made : 0 < gain → (bound < length list) × ((d : Candidate) → last < length (part_at list bound d)) × ((d : Candidate) → offer_at list budget table bound last d ≡ gain)

-- a set of these, by rising number, with this sum of widths
pub record IsBehind (cs : List Candidate) (budget sum : ℕ) (set : List ℕ) : Type 0 where
  pub rises : AllPairs (λ m n. m < n) set
  pub drawn : (n : ℕ) → is_in set n ≡ true → is_known cs n ≡ true
  pub within : cost (chosen (is_in set) cs) ≤ budget
  pub reached : widths (chosen (is_in set) cs) ≡ sum

-- a number in its place among rising ones
abbrev pub with_id : ℕ → List ℕ → List ℕ
with_id n [] = n ∷ []
with_id n (m ∷ ms) = if nat_lt n m then n ∷ m ∷ ms else m ∷ with_id n ms
