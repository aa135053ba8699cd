-- The rows of a table by key: each key with what became of its row, by time.
use Rattle.std.specs.Prelude.{◌≡◌, ℕ, ◌≤◌, ◌&&◌, Bool, true, false, List, [], ◌∷◌, map, Option, Some, None, if◌then◌else◌, nat_le}
use Rattle.std.specs.List.{AllByRecursion}
use Rattle.std.specs.List.Sorted.{IsNonDecreasingBy}
use Rattle.std.specs.FinMap.Entries.{find, is_sorted}
use Rattle.std.specs.Ordering.{eq_by_cmp}
use Rattle.kt_history.specs.declared.change.Change.{Change}
use Rattle.kt_history.specs.declared.change.Change.TheVariants.{Upd}
use Rattle.kt_history.specs.Rows.{Row, Rows, Changes, apply, changed, key_cmp}
use Rattle.kt_judge.specs.declared.versions.Version.{Version}
use Rattle.kt_judge.specs.declared.versions.Version.TheVariants.{Whole, Update}

-- the row after a version, from the row before it
abbrev pub stepped : Version → Option Row → Option Row
stepped (Whole row) old = row
stepped (Update cells) old = apply (Upd cells) old

-- what became of a row, each from a timestamp on, the oldest first
abbrev pub Versions : Type 0
Versions = List (ℕ × Version)

-- the row after all of them
abbrev pub row_after_all : Option Row → Versions → Option Row
row_after_all row [] = row
row_after_all row (v ∷ versions) = row_after_all (stepped v.1 row) versions

-- the row at t
abbrev pub row_from : Option Row → ℕ → Versions → Option Row
row_from row t [] = row
row_from row t (v ∷ versions) = row_from (if nat_le v.0 t then stepped v.1 row else row) t versions

-- no version is later than ts
abbrev pub AreUpTo : ℕ → Versions → Type 0
AreUpTo ts versions = AllByRecursion (λ (v : ℕ × Version). v.0 ≤ ts) versions

-- their timestamps rise, or stay
abbrev pub AreOrdered : Versions → Type 0
AreOrdered versions = IsNonDecreasingBy (λ (v : ℕ × Version). v.0) versions

abbrev pub versions_in : Option Versions → Versions
versions_in None = []
versions_in (Some versions) = versions

abbrev pub Entries : Type 0
Entries = List (List ℕ × Versions)

abbrev pub keys_in : Entries → List (List ℕ)
keys_in entries = map (λ (e : List ℕ × Versions). e.0) entries

-- whether an entry, if there is one, is that of a key
abbrev pub is_of_key : List ℕ → Option (List ℕ × Versions) → Bool
is_of_key key None = false
is_of_key key (Some e) = eq_by_cmp key_cmp key e.0

-- the row of a key at t
abbrev pub row_of : Entries → List ℕ → ℕ → Option Row
row_of entries key t = row_from None t (versions_in (find key_cmp key entries))

-- keys by rising bytes, the versions of each by time
pub record IsTable (entries : Entries) : Type 0 where
  pub rising : is_sorted key_cmp entries ≡ true
  pub ordered : AllByRecursion (λ (e : List ℕ × Versions). AreOrdered e.1) entries

-- no version of any key is later than ts
abbrev pub IsTableUpTo : ℕ → Entries → Type 0
IsTableUpTo ts entries = AllByRecursion (λ (e : List ℕ × Versions). AreUpTo ts e.1) entries

-- the table has the rows of each time
abbrev pub Shows : Entries → (ℕ → Rows) → Type 0
Shows entries rows = (key : List ℕ) (t : ℕ) → row_of entries key t ≡ find key_cmp key (rows t)

-- the rows of each time after changes at ts
abbrev pub with_changes : ℕ → Changes → (ℕ → Rows) → ℕ → Rows
with_changes ts changes rows t = if nat_le ts t then changed changes (rows t) else rows t

-- a change of the row of a key at a timestamp is put
pub record IsPut (ts : ℕ) (change : Change) (k : List ℕ) (es new : Entries) : Type 0 where
  pub table : IsTable new
  pub up_to : IsTableUpTo ts new
  pub rows : (q : List ℕ) (t : ℕ) → row_of new q t ≡ (if eq_by_cmp key_cmp q k && nat_le ts t then apply change (row_of es k t) else row_of es q t)

-- the rows of each time, none of which changes above c
pub record IsTableOf (c : ℕ) (rows : ℕ → Rows) (entries : Entries) : Type 0 where
  pub table : IsTable entries
  pub up_to : IsTableUpTo c entries
  pub shows : Shows entries rows
