-- The rows that live in several views.
use Rattle.std.specs.Prelude.{◌≡◌, ℕ, true, List, [], ◌∷◌, Option, Some, None, if◌then◌else◌}
use Rattle.std.specs.List.{fold, filter_map}
use Rattle.std.specs.Option.{option_or, option_map}
use Rattle.std.specs.Ordering.{is_lt}
use Rattle.std.specs.FinMap.Entries.{by_order, find, is_sorted}
use Rattle.kt_history.specs.Rows.{Row, Rows, key_cmp}

-- the lesser of two keys that may be missing
abbrev pub lesser : Option (List ℕ) → Option (List ℕ) → Option (List ℕ)
lesser None other = other
lesser (Some one) None = Some one
lesser (Some one) (Some other) = if is_lt (key_cmp other one) then Some other else Some one

-- a key in its place among rising keys
abbrev pub with_key : List ℕ → List (List ℕ) → List (List ℕ)
with_key key [] = key ∷ []
with_key key (other ∷ keys) = by_order (key_cmp key other) (key ∷ other ∷ keys) (other ∷ keys) (other ∷ with_key key keys)

abbrev pub with_keys : List (List ℕ) → List (List ℕ) → List (List ℕ)
with_keys keys more = fold (λ known key. with_key key known) keys more

-- the keys of all views, by rising bytes, each once
abbrev pub all_keys : {V : Type 0} → (V → List (List ℕ)) → List V → List (List ℕ)
all_keys keys views = fold (λ known view. with_keys known (keys view)) [] views

-- the row of a key at t, of the first view that has one
abbrev pub row_in : {V : Type 0} → (V → List ℕ → ℕ → Option Row) → List V → List ℕ → ℕ → Option Row
row_in row [] key t = None
row_in row (view ∷ views) key t = option_or (row view key t) (row_in row views key t)

-- those of the keys that have a row at t, with it
abbrev pub rows_of : {V : Type 0} → (V → List ℕ → ℕ → Option Row) → List V → ℕ → List (List ℕ) → Rows
rows_of row views t keys = filter_map (λ key. option_map (λ r. (key, r)) (row_in row views key t)) keys

-- the rows at t over all views, by rising key
abbrev pub live_rows : {V : Type 0} → (V → List (List ℕ)) → (V → List ℕ → ℕ → Option Row) → List V → ℕ → Rows
live_rows keys row views t = rows_of row views t (all_keys keys views)

-- rows that rise by key, and are for each key what is told of it
abbrev pub AreRowsOf : (List ℕ → Option Row) → Rows → Type 0
AreRowsOf told rows = (is_sorted key_cmp rows ≡ true) × ((key : List ℕ) → find key_cmp key rows ≡ told key)
