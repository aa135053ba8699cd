-- The mark of a run: that of the opening past, or that of a `mark` line.
use Rattle.std.proofs.Common.{◌≡◌, ℕ, List, [], ◌∷◌, ◌++◌, refl, sym, subst, inl, inr}
use Rattle.std.specs.Prelude.{◌⊎◌, Some}
use Rattle.kt_history.specs.declared.event.Event.{Event}
use Rattle.kt_history.specs.declared.event.Event.TheVariants as event
use Rattle.kt_super.specs.declared.meta.Meta.{Meta}
use Rattle.kt_storeside.specs.Sides.{StoreView}
use Rattle.kt_engine.specs.Stored.{IsMarkOf, IsOneOf}

-- a line more: the mark is as it was, or that of the line
abbrev pub MovesMark : Event → ℕ → ℕ → Type 0
MovesMark e old new = (new ≡ old) ⊎ ((s : ℕ) × (i : ℕ) × (e ≡ event.Mark s i new))

pub still_mark : (first : ℕ) (events : List Event) (e : Event) (a : ℕ) → IsMarkOf first events a → IsMarkOf first (events ++ e ∷ []) a
still_mark first [] (event.Mark s i to) a h = inr h
still_mark first [] _ a h = h
still_mark first (event.Mark s i to ∷ events) e a (inl is) = inl is
still_mark first (event.Mark s i to ∷ events) e a (inr h) = inr (still_mark first events e a h)
still_mark first (_ ∷ events) e a h = still_mark first events e a h

new_mark : (first : ℕ) (events : List Event) (s i to : ℕ) → IsMarkOf first (events ++ event.Mark s i to ∷ []) to
new_mark first [] s i to = inl refl
new_mark first (event.Mark s' i' t ∷ events) s i to = inr (new_mark first events s i to)
new_mark first (_ ∷ events) s i to = new_mark first events s i to

pub moved_mark : (first : ℕ) (events : List Event) (e : Event) (old new : ℕ) → MovesMark e old new → IsMarkOf first events old → IsMarkOf first (events ++ e ∷ []) new
moved_mark first events e old new (inl same) h = subst (IsMarkOf first (events ++ e ∷ [])) (sym same) (still_mark first events e old h)
moved_mark first events e old new (inr m) h = subst (λ (l : Event). IsMarkOf first (events ++ l ∷ []) new) (sym m.2) (new_mark first events m.0 m.1 new)

-- what holds of the published superblock and of the one that is lent holds of either
pub of_each : {D : Type 0} (P : Meta → Type 0) (store : StoreView D) → P store.meta → ((m : Meta) → store.lent ≡ Some m → P m) → (m : Meta) → IsOneOf store m → P m
of_each P store published lent m (inl is) = subst P (sym is) published
of_each P store published lent m (inr new) = lent m new
