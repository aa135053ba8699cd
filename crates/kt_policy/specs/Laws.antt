-- The best set is found among the left bounds.
use Rattle.std.specs.Prelude.{◌<◌, ◌≤◌, ℕ, Bool, List, length}
use Rattle.kt_policy.specs.declared.candidate.Candidate.{Candidate}
use Rattle.kt_policy.specs.Gain.{cost, gain, chosen, AreCandidates}
use Rattle.kt_policy.specs.Sums.{IsTable}
use Rattle.kt_policy.specs.Steps.{part_at, offer_at}

-- a set within the budget that gains so much
pub record IsGained (list : List Candidate) (budget n : ℕ) : Type 0 where
  pub test : ℕ → Bool
  pub within : cost (chosen test list) ≤ budget
  pub gains : n ≤ gain (chosen test list)

-- a left bound and a last candidate that offer so much
pub record IsOffered (list : List Candidate) (budget : ℕ) (table : List (List (List ℕ))) (n : ℕ) : Type 0 where
  pub bound : ℕ
  pub last : ℕ
  pub in_list : bound < length list
  pub in_part : (d : Candidate) → last < length (part_at list bound d)
  pub offers : (d : Candidate) → n ≤ offer_at list budget table bound last d

abbrev pub offers_are_gained : Type 0
offers_are_gained = (list : List Candidate) (budget : ℕ) (table : List (List (List ℕ))) (bound last : ℕ) (d : Candidate) → AreCandidates list → IsTable list budget table → bound < length list → last < length (part_at list bound d)
    → IsGained list budget (offer_at list budget table bound last d)

abbrev pub gains_are_offered : Type 0
gains_are_offered = (list : List Candidate) (budget : ℕ) (table : List (List (List ℕ))) (test : ℕ → Bool) → AreCandidates list → IsTable list budget table → cost (chosen test list) ≤ budget → 0 < gain (chosen test list)
    → IsOffered list budget table (gain (chosen test list))
