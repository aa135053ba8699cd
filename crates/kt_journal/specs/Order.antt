-- Which record may follow in a log. The records before it are listed from the newest.
use Rattle.std.specs.Prelude.{◌≡◌, ℕ, ◌^◌, ◌<◌, ◌==◌, nat_lt, Bool, true, false, if◌then◌else◌, Option, Some, None, List, [], ◌∷◌, length}
use Rattle.kt_records.specs.declared.entry.Entry.{Entry}
use Rattle.kt_records.specs.declared.entry.Entry.TheVariants.{Replicate, Commit}
use Rattle.kt_records.specs.Spelling.{spelling}
use Rattle.kt_records.specs.Rules.{KeepsRules}

-- the timestamp of the newest write
abbrev pub last_ts : List Entry → Option ℕ
last_ts [] = None
last_ts (Replicate ts ops ∷ before) = Some ts
last_ts (Commit ts rows ∷ before) = last_ts before

-- how many operations the write of this timestamp has, where it waits for its COMMIT
abbrev pub waiting : ℕ → List Entry → Option ℕ
waiting ts [] = None
waiting ts (Replicate t ops ∷ before) = if t == ts then Some (length ops) else waiting ts before
waiting ts (Commit t rows ∷ before) = if t == ts then None else waiting ts before

abbrev pub is_above : Option ℕ → ℕ → Bool
is_above None ts = true
is_above (Some last) ts = nat_lt last ts

abbrev pub is_count : Option ℕ → ℕ → Bool
is_count None n = false
is_count (Some k) n = k == n

-- a REPLICATE's timestamp is above all before it, and a COMMIT's write waits for it and has as many operations
abbrev pub follows : List Entry → Entry → Bool
follows before (Replicate ts ops) = is_above (last_ts before) ts
follows before (Commit ts rows) = is_count (waiting ts before) (length rows)

-- the record keeps the rules, and fits a frame
pub record IsFramed (entry : Entry) : Type 0 where
  pub keeps : KeepsRules entry
  pub short : length (spelling entry) < 2 ^ 32

-- each record may stand there
abbrev pub InOrder : List Entry → List Entry → Type 0
InOrder before [] = Unit {0}
InOrder before (r ∷ records) = IsFramed r × (follows before r ≡ true) × InOrder (r ∷ before) records

-- the records before the next, from the newest
abbrev pub newest_first : List Entry → List Entry → List Entry
newest_first before [] = before
newest_first before (r ∷ records) = newest_first (r ∷ before) records
