-- The writes that wait for their COMMIT.
use Rattle.std.specs.Prelude.{◌≡◌, ◌<◌, ◌==◌, ℕ, true, if◌then◌else◌, Option, None, List, [], ◌∷◌}
use Rattle.std.specs.List.{All, AllPairs}
use Rattle.kt_journal.specs.declared.waiting.Held.{Held}
use Rattle.kt_journal.specs.Order.{is_above}

-- what a contract sees: the timestamp of the newest write, and the writes
pub record WaitingView : Type 0 where
  pub last : Option ℕ
  pub held : List Held

-- the number of the write of this timestamp
abbrev pub number_in : List Held → ℕ → Option ℕ
number_in [] ts = None
number_in (held ∷ more) ts = if held.ts == ts then held.number else number_in more ts

-- the number of the write of this timestamp, where it waits
abbrev pub number_of : ℕ → WaitingView → Option ℕ
number_of ts waiting = number_in waiting.held ts

-- timestamps rise, and one above the last is above all
pub record IsRising (last : Option ℕ) (held : List Held) : Type 0 where
  pub pairs : AllPairs (λ a b. a.ts < b.ts) held
  pub below : (ts : ℕ) → is_above last ts ≡ true → All (λ a. a.ts < ts) held

-- each write has the number that it had, and timestamps rise
pub record Keeps (last : Option ℕ) (old new : List Held) : Type 0 where
  pub rising : IsRising last new
  pub numbers : (ts : ℕ) → number_in new ts ≡ number_in old ts
