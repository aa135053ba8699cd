-- What each step at the table tells the seat that makes it.
use Rattle.std.specs.Prelude.{◌≡◌, ◌≢◌, ℕ, ◌+◌, List, [], ◌∷◌, Option, Some, None}
use Rattle.atomic_table.specs.Table.{Me, Step}
use Rattle.kt_seatlock.specs.Trails.{Follows}
use Rattle.kt_seatlock.specs.Views.{filling_view, ahead_view, inside_view, outside_view, filled_view}
use Rattle.kt_seatlock.specs.declared.view.View.{View}

-- nothing that it knows changed
abbrev pub stayed : {S V : Type 0} → Step S → Me S V → ℕ → Me S V → Type 0
stayed st m r m' = m' ≡ m

module _ {T E P : Type 0} where
  -- the slot was taken, to be filled
  abbrev pub began : Step (Option T) → Me (Option T) (View T E P) → ℕ → Me (Option T) (View T E P) → Type 0
  began st m r m' = m' ≡ (filling_view m.0, (0, None) ∷ m.1)

  -- one entry was counted
  abbrev pub counted : Step (Option T) → Me (Option T) (View T E P) → ℕ → Me (Option T) (View T E P) → Type 0
  counted st m r m' = m' ≡ (ahead_view m.0 (m.0.ahead + 1), m.1)

module _ {T E P : Type 0} (trail : T → List E) (part : T → ℕ → P) (owner : E → Option ℕ) where
  -- the value was taken, or nothing changed
  abbrev pub took : Step (Option T) → Me (Option T) (View T E P) → ℕ → Me (Option T) (View T E P) → Type 0
  took st m r m' =
      (r ≡ st.first → (x : T) × (m' ≡ (inside_view trail m.0 x, (0, Some x) ∷ m.1)) × Follows owner m.0.number m.0.seen (trail x) × (m.0.part ≡ Some (part x m.0.number)))
      × (r ≢ st.first → m' ≡ m)

module _ {T E P : Type 0} (trail : T → List E) (part : T → ℕ → P) where
  -- the slot was given back with the value y
  abbrev pub left : Step (Option T) → Me (Option T) (View T E P) → ℕ → Me (Option T) (View T E P) → Type 0
  left st m r m' = (y : T) → m.1 ≡ (0, Some y) ∷ [] → m' ≡ (outside_view trail part m.0 y, [])

  -- the lock was filled with the value y
  abbrev pub filled : Step (Option T) → Me (Option T) (View T E P) → ℕ → Me (Option T) (View T E P) → Type 0
  filled st m r m' = (y : T) → m.1 ≡ (0, Some y) ∷ [] → m' ≡ (filled_view trail part m.0 y, [])
