-- Which keys have rows.
use Rattle.std.specs.Prelude.{◌≡◌, ℕ, Bool, List, is_some}
use Rattle.std.specs.List.{list_any}
use Rattle.std.specs.Ordering.{is_eq}
use Rattle.std.specs.FinMap.Entries.{find}
use Rattle.kt_history.specs.Rows.{Rows, key_cmp}
use Rattle.kt_opening.specs.declared.live.Live.{Live}

-- whether the key is among them
abbrev pub has : Live → List ℕ → Bool
has live key = list_any (λ k. is_eq (key_cmp key k.items)) live.keys.keys

-- they are the keys of these rows
abbrev pub IsLive : Live → Rows → Type 0
IsLive live rows = (key : List ℕ) → has live key ≡ is_some (find key_cmp key rows)
