-- How far the numbers that an engine gives lie above those that opening found.
use Rattle.std.specs.Prelude.{◌≤◌, ◌<◌, ◌+◌, ◌^◌, ◌⊎◌, ℕ, List, [], ◌∷◌}
use Rattle.std.specs.List.{All, Contains}
use Rattle.kt_history.specs.declared.target.Target.{Target}
use Rattle.kt_history.specs.declared.target.Target.TheVariants.{Mem, Delta}
use Rattle.kt_records.specs.declared.entry.Entry.{Entry}
use Rattle.kt_records.specs.declared.entry.Entry.TheVariants.{Replicate, Commit}
use Rattle.kt_storeside.specs.Sides.{Most}

-- the number of the MemRowSet that takes inserts
abbrev pub first_number : List Target → ℕ
first_number [] = 0
first_number (Mem n ∷ names) = n
first_number (Delta r n ∷ names) = 0

-- a DeltaMemStore that an engine freezes has a number below this one, by the first rowset number at opening
abbrev pub most_deltas : ℕ → ℕ
most_deltas first_rowset = first_rowset + 2 ^ 44

-- a name that was given since: a MemRowSet up to this number, or a DeltaMemStore up to another of a disk rowset below a third
abbrev pub IsGiven : ℕ → ℕ → ℕ → Target → Type 0
IsGiven mem dms next (Mem n) = n ≤ mem
IsGiven mem dms next (Delta r n) = (r < next) × (n ≤ dms)

-- or one that opening found
abbrev pub IsKnown : List Target → ℕ → ℕ → ℕ → Target → Type 0
IsKnown found mem dms next t = Contains found t ⊎ IsGiven mem dms next t

-- a COMMIT names such stores alone
abbrev pub NamesEach : (Target → Type 0) → Entry → Type 0
NamesEach known (Replicate ts ops) = Unit {0}
NamesEach known (Commit ts rows) = All (λ row. All known row.targets) rows

-- so many rowset numbers are given in one opening at most, and so many jobs begin
abbrev pub most_rowsets : ℕ
most_rowsets = 2 ^ 44 + 2 ^ 32

-- and so many file numbers
abbrev pub most_files : ℕ
most_files = 2 ^ 44 + 2 ^ 34

-- The stores and the COMMITs of the run have names that opening found or that were given since, each job has frozen one MemRowSet at most, and not too many
-- rowset numbers were given.
pub record AreNear (found names : List Target) (first_rowset next_rowset begun : ℕ) (run : List Entry) : Type 0 where
  pub names_known : All (IsKnown found (first_number names) (most_deltas first_rowset) next_rowset) names
  pub run_known : All (NamesEach (IsKnown found (first_number names) (most_deltas first_rowset) next_rowset)) run
  pub mems : first_number names ≤ first_number found + begun
  pub jobs : begun ≤ 2 ^ 24
  pub rowsets : next_rowset ≤ first_rowset + most_rowsets

-- What the store lets a superblock spell leaves room for the names of these stores: for the MemRowSets that so many jobs freeze, and for the DeltaMemStores.
pub record LeavesRoom (found : List Target) (first_rowset : ℕ) (most : Most) : Type 0 where
  pub mems : first_number found + 2 ^ 24 ≤ most.last_mem
  pub deltas : most_deltas first_rowset ≤ most.last_dms

-- no number of a name is greater, and each is less
abbrev pub IsUpTo : ℕ → Target → Type 0
IsUpTo bound (Mem n) = n ≤ bound
IsUpTo bound (Delta r n) = (r ≤ bound) × (n ≤ bound)

abbrev pub IsBelow : ℕ → Target → Type 0
IsBelow bound (Mem n) = n < bound
IsBelow bound (Delta r n) = (r < bound) × (n < bound)
