-- An opening: the rows at a mark and the writes above it, as a past.
use Rattle.std.specs.Prelude.{◌≡◌, true, List, [], ◌∷◌, map}
use Rattle.std.specs.List.{list_all}
use Rattle.std.specs.FinMap.Entries.{find}
use Rattle.kt_history.specs.Rows.{Rows, changed, fits, key_cmp}
use Rattle.kt_history.specs.History.{Past, PastWrite, IsPastUpTo}
use Rattle.kt_judge.specs.declared.opening.Opening.{Opening}
use Rattle.kt_judge.specs.declared.opening.OpeningWrite.{OpeningWrite}

abbrev pub write_of : OpeningWrite → PastWrite
write_of w = record { ts = w.ts; changes = w.changes.items }

-- the past that an opening lists
abbrev pub past_of : Opening → Past
past_of o = record { mark = o.a; base = o.rows.items; writes = map write_of o.writes.items }

-- each change fits the row that it finds
abbrev pub EachFits : List PastWrite → Rows → Type 0
EachFits [] rows = Unit {0}
EachFits (w ∷ writes) rows = (list_all (λ c. fits c.1 (find key_cmp c.0 rows)) w.changes ≡ true) × EachFits writes (changed w.changes rows)

-- The rows rise by key, the timestamps rise above the mark and none is above the last timestamp, no write has a key twice, and each change fits.
pub record IsOpening (o : Opening) : Type 0 where
  pub past : IsPastUpTo o.c (past_of o)
  pub each : EachFits (past_of o).writes (past_of o).base
