-- The order of a delta file's records.
use Rattle.std.specs.Prelude.{◌≡◌, ℕ, zero, suc, ◌-◌, ◌<◌, ◌≤◌, ◌==◌, nat_lt, nat_le, Bool, true, not, ◌||◌, ◌&&◌, List, [], ◌∷◌, length, ◌⊎◌}
use Rattle.std.specs.List.{AllByRecursion}
use Rattle.kt_history.specs.declared.changes.Delta.{Delta}
use Rattle.kt_deltafile.specs.declared.file.Way.{Way}
use Rattle.kt_deltafile.specs.declared.file.Way.TheVariants.{Redo, Undo}

-- whether a row's record of the second timestamp stands behind one of the first
abbrev pub in_order : Way → ℕ → ℕ → Bool
in_order Redo a b = nat_lt a b
in_order Undo a b = nat_lt b a

-- the ordinal and the timestamp of the record at a place, 0 past the end
abbrev pub ordinal_at : List Delta → ℕ → ℕ
ordinal_at [] i = 0
ordinal_at (d ∷ list) zero = d.ordinal
ordinal_at (d ∷ list) (suc i) = ordinal_at list i

abbrev pub ts_at : List Delta → ℕ → ℕ
ts_at [] i = 0
ts_at (d ∷ list) zero = d.ts
ts_at (d ∷ list) (suc i) = ts_at list i

-- the ordinal and the timestamp of the last record, 0 where there is none
abbrev pub last_ordinal : List Delta → ℕ
last_ordinal list = ordinal_at list (length list - 1)

abbrev pub last_ts : List Delta → ℕ
last_ts list = ts_at list (length list - 1)

-- whether a record of this ordinal may follow these, in a file of so many rows
abbrev pub may_come : ℕ → List Delta → ℕ → Bool
may_come rows front ordinal = nat_le (last_ordinal front) ordinal && nat_lt ordinal rows

-- whether it may have this timestamp: a row's records stand in the order of the way
abbrev pub may_follow : Way → List Delta → ℕ → ℕ → Bool
may_follow way front ordinal ts = (length front == 0) || (not (last_ordinal front == ordinal) || in_order way (last_ts front) ts)

-- each record stands behind every earlier one: by ordinal, and a row's by timestamp
abbrev pub IsSorted : Way → List Delta → Type 0
IsSorted way list = (i j : ℕ) → i < j → j < length list →
    (ordinal_at list i < ordinal_at list j) ⊎ ((ordinal_at list i ≡ ordinal_at list j) × (in_order way (ts_at list i) (ts_at list j) ≡ true))

-- none of these is above a timestamp
abbrev pub AreUpTo : ℕ → List Delta → Type 0
AreUpTo ts list = AllByRecursion (λ (d : Delta). d.ts ≤ ts) list
