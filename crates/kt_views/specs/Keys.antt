-- The keys of rows.
use Rattle.std.specs.Prelude.{◌≡◌, ◌<◌, ◌≤◌, ℕ, Bool, true, false, List, length, get_or, map, Option, Some, None}
use Rattle.std.specs.Ordering.{eq_by_cmp, is_lt, is_gt}
use Rattle.kt_history.specs.Rows.{Row, Rows, key_cmp}

-- the keys of rows
abbrev pub keys_under : Rows → List (List ℕ)
keys_under rows = map (λ (r : List ℕ × Row). r.0) rows

-- whether a row, if there is one, is that of a key
abbrev pub is_of_key : List ℕ → Option (List ℕ × Row) → Bool
is_of_key key None = false
is_of_key key (Some r) = eq_by_cmp key_cmp key r.0

-- whether a key is below that of a row, if there is one
abbrev pub is_below : List ℕ → Option (List ℕ × Row) → Bool
is_below key None = true
is_below key (Some r) = is_lt (key_cmp key r.0)

-- whether there is a row, and a key is above that of it
abbrev pub is_above : List ℕ → Option (List ℕ × Row) → Bool
is_above key None = false
is_above key (Some r) = is_gt (key_cmp key r.0)

-- the keys before a place are below another, and those from there on are above it
pub record IsGap (key : List ℕ) (rows : Rows) (at : ℕ) : Type 0 where
  pub within : at ≤ length rows
  pub below : (k : ℕ) (d : List ℕ × Row) → k < at → is_lt (key_cmp (get_or rows k d).0 key) ≡ true
  pub above : (k : ℕ) (d : List ℕ × Row) → at ≤ k → k < length rows → is_lt (key_cmp key (get_or rows k d).0) ≡ true
