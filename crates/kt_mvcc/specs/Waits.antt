-- When a write does not begin.
use Rattle.std.specs.Prelude.{◌≡◌, ℕ, min, List, Option, Some, None}
use Rattle.kt_mvcc.specs.declared.flight.MvccNo.{MvccNo}
use Rattle.kt_mvcc.specs.declared.flight.MvccNo.TheVariants as no
use Rattle.kt_mvcc.specs.Flying.{Clock, holder}

-- the lesser of a number that may be missing and another
abbrev pub lesser_of : Option ℕ → ℕ → ℕ
lesser_of None n = n
lesser_of (Some m) n = min m n

-- a flying write holds one of the keys, and this is the least; or none does, and there was no room
abbrev pub IsRefused : List (List ℕ) → Clock → MvccNo → Type 0
IsRefused keys clock (no.Wait ts) = holder keys clock.flying ≡ Some ts
IsRefused keys clock no.Memory = (holder keys clock.flying ≡ None) × (clock.room ≡ 0)
