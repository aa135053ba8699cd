-- The writes of a table since a time, and its rows at each time from then on.
use Rattle.std.specs.Prelude.{◌≡◌, ◌≢◌, ◌<◌, ◌≤◌, true, List, [], ◌∷◌, ◌++◌, ℕ, Option, Some, None, nat_le, nat_lt, if◌then◌else◌, IsTrue}
use Rattle.std.specs.List.{filter, list_all}
use Rattle.std.specs.FinMap.Entries.{is_sorted, find}
use Rattle.kt_history.specs.declared.change.Change.{Change}
use Rattle.kt_history.specs.Rows.{Row, Rows, Changes, AreApart, apply, changed, key_cmp}

-- a write that changed rows: its timestamp, and the change of each of its keys
pub record PastWrite : Type 0 where
  pub ts : ℕ
  pub changes : Changes

-- the rows at a mark, by rising key, and the writes above it, by rising timestamp
pub record Past : Type 0 where
  pub mark : ℕ
  pub base : Rows
  pub writes : List PastWrite

-- each write at or below t applied in turn
abbrev pub replay : ℕ → List PastWrite → Rows → Rows
replay t [] rows = rows
replay t (w ∷ writes) rows = replay t writes (if nat_le w.ts t then changed w.changes rows else rows)

-- the rows at t, from the mark on
abbrev pub rows_at : Past → ℕ → Rows
rows_at past t = replay t past.writes past.base

-- the same past as it is told from a later mark on
abbrev pub raise : Past → ℕ → Past
raise past mark = record { mark = mark; base = rows_at past mark; writes = filter (λ w. nat_lt mark w.ts) past.writes }

-- the past and one more write, unless that changes nothing
abbrev pub with_write : Past → ℕ → Changes → Past
with_write past ts [] = past
with_write past ts (c ∷ changes) = record past { writes = past.writes ++ record { ts = ts; changes = c ∷ changes } ∷ [] }

-- the timestamps rise from low on, and each write changes something, no key twice
abbrev pub Rise : ℕ → List PastWrite → Type 0
Rise low [] = Unit {0}
Rise low (w ∷ writes) = (low < w.ts) × (w.changes ≢ []) × AreApart w.changes × Rise w.ts writes

-- a past
pub record IsPast (past : Past) : Type 0 where
  pub rows : IsTrue (is_sorted key_cmp past.base)
  pub writes : Rise past.mark past.writes

-- no write above c
abbrev pub IsUpTo : ℕ → List PastWrite → Type 0
IsUpTo c writes = list_all (λ w. nat_le w.ts c) writes ≡ true

-- a past with no write above c
pub record IsPastUpTo (c : ℕ) (past : Past) : Type 0 where
  pub is : IsPast past
  pub mark : past.mark ≤ c
  pub writes : IsUpTo c past.writes

-- told from a later mark on, a past has the same rows from there on
abbrev pub raised_shows_the_same : Type 0
raised_shows_the_same = (past : Past) (mark t : ℕ) → IsPast past → mark ≤ t → rows_at (raise past mark) t ≡ rows_at past t

-- the row after a change, if there is one
abbrev pub row_after : Option Change → Option Row → Option Row
row_after None row = row
row_after (Some change) row = apply change row

-- the row of one key at t: its own changes at or below t, in order
abbrev pub replay_row : ℕ → List ℕ → List PastWrite → Option Row → Option Row
replay_row t key [] row = row
replay_row t key (w ∷ writes) row = replay_row t key writes (if nat_le w.ts t then row_after (find key_cmp key w.changes) row else row)

-- the row of a key in the rows at t comes of the changes of that key alone
abbrev pub each_key_for_itself : Type 0
each_key_for_itself = (past : Past) (t : ℕ) (key : List ℕ) → IsPast past → find key_cmp key (rows_at past t) ≡ replay_row t key past.writes (find key_cmp key past.base)
