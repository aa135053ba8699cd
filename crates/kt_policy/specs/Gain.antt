-- What rowsets gain by being compacted together.
use Rattle.std.specs.Prelude.{◌≡◌, ◌≢◌, ◌<◌, ◌≤◌, ℕ, ◌+◌, ◌-◌, min, max, Bool, true, List, [], ◌∷◌, length, ◌==◌}
use Rattle.std.specs.List.{All, AllPairs, filter, list_any, sum_by}
use Rattle.kt_policy.specs.declared.candidate.Candidate.{Candidate}

-- how many ranks a rowset spans
abbrev pub width : Candidate → ℕ
width c = c.greatest - c.least + 1

abbrev pub widths : List Candidate → ℕ
widths cs = sum_by width cs

abbrev pub cost : List Candidate → ℕ
cost cs = sum_by (λ (c : Candidate). c.units) cs

-- the least rank of a rowset and more of them, and the greatest
abbrev pub lowest : Candidate → List Candidate → ℕ
lowest c [] = c.least
lowest c (d ∷ ds) = min c.least (lowest d ds)

abbrev pub highest : Candidate → List Candidate → ℕ
highest c [] = c.greatest
highest c (d ∷ ds) = max c.greatest (highest d ds)

-- how many ranks a set spans
abbrev pub hull : List Candidate → ℕ
hull [] = 0
hull (c ∷ cs) = highest c cs - lowest c cs + 1

-- what a set gains: its widths less its hull, and nothing where the hull is the wider
abbrev pub gain : List Candidate → ℕ
gain cs = widths cs - hull cs

-- a set is told by a test of rowset numbers: these are its members
abbrev pub chosen : (ℕ → Bool) → List Candidate → List Candidate
chosen test list = filter (λ c. test c.rowset) list

-- the number is among these
abbrev pub is_in : List ℕ → ℕ → Bool
is_in ids number = list_any (λ id. id == number) ids

-- it is the number of one of these
abbrev pub is_known : List Candidate → ℕ → Bool
is_known list number = list_any (λ (c : Candidate). c.rowset == number) list

pub record IsCandidate (c : Candidate) : Type 0 where
  pub rises : c.least ≤ c.greatest
  pub ranks : c.greatest < 128

-- at most 64, of different rowsets
pub record AreCandidates (list : List Candidate) : Type 0 where
  pub few : length list ≤ 64
  pub each : All IsCandidate list
  pub different : AllPairs (λ (c d : Candidate). c.rowset ≢ d.rowset) list

-- these numbers, which rise, are those of a set within the budget, and no set within it gains more
pub record IsBest (list : List Candidate) (budget : ℕ) (set : List ℕ) : Type 0 where
  pub rises : AllPairs (λ m n. m < n) set
  pub known : All (λ id. is_known list id ≡ true) set
  pub within : cost (chosen (is_in set) list) ≤ budget
  pub most : (test : ℕ → Bool) → cost (chosen test list) ≤ budget → gain (chosen test list) ≤ gain (chosen (is_in set) list)

-- no set within the budget gains anything
abbrev pub NothingGains : List Candidate → ℕ → Type 0
NothingGains list budget = (test : ℕ → Bool) → cost (chosen test list) ≤ budget → gain (chosen test list) ≡ 0
