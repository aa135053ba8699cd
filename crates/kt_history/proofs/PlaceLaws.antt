-- What the place of a key says of putting an entry there.
use Rattle.std.proofs.Common.{◌≡◌, ℕ, ◌<◌, ◌≤◌, List, [], ◌∷◌, Ok, Err, Result, refl, sym, ap, subst, arith, length}
use Rattle.std.specs.Prelude.{slice_set, slice_index_or}
use Rattle.std.specs.List.{insert}
use Rattle.std.specs.declared.cmp.Ordering.{Ordering}
use Rattle.std.specs.declared.cmp.Ordering.TheVariants.{Less, Equal, Greater}
use Rattle.std.specs.FinMap.Entries.{by_order, put}
use Rattle.kt_history.specs.Places.{place_of, one_later}

-- what each place says: of an entry that is there, and of a gap
abbrev pub Says : {K X : Type 0} → (K → K → Ordering) → K → X → List (K × X) → Result ℕ ℕ → Type 0
Says {K = K} {X = X} order key value es (Ok i) = (i < length es) × ((e : K × X) → e ≡ slice_index_or es i e → slice_set es i (e.0, value) ≡ put order key value es)
Says {K = K} {X = X} order key value es (Err i) = (i ≤ length es) × (insert es i (key, value) ≡ put order key value es)

later_says : {K X : Type 0} (order : K → K → Ordering) (key : K) (value : X) (e : K × X) (es : List (K × X)) (r : Result ℕ ℕ) → order key e.0 ≡ Greater → Says order key value es r → Says order key value (e ∷ es) (one_later r)
later_says order key value e es (Ok i) h says = (omega (arith, says.0), λ d is. rw h (ap (λ rest. e ∷ rest) (says.1 d is)))
later_says order key value e es (Err i) h says = (omega (arith, says.0), rw h (ap (λ rest. e ∷ rest) says.1))

pub place_says : {K X : Type 0} (order : K → K → Ordering) (key : K) (value : X) (es : List (K × X)) → Says order key value es (place_of order key es)
place_says order key value [] = (omega arith, refl)
place_says {K = K} {X = X} order key value (e ∷ es) =
    elim (order key e.0) as (λ o. order key e.0 ≡ o → Says order key value (e ∷ es) (by_order o (Err 0) (Ok 0) (one_later (place_of order key es)))) [
      | Less ↦ λ h. (omega arith, rw h refl)
      | Equal ↦ λ h. (omega arith, λ d is. rw h (ap (λ (o : K × X). (o.0, value) ∷ es) is))
      | Greater ↦ λ h. later_says order key value e es (place_of order key es) h (place_says order key value es)
    ] refl

-- what the place that was found among these entries says of the same entries under another name
pub says_at : {K X : Type 0} (order : K → K → Ordering) (key : K) (value : X) (es found : List (K × X)) (place : Result ℕ ℕ) → found ≡ es → place ≡ place_of order key found → Says order key value es place
says_at order key value es found place same is =
    subst (λ l. Says order key value l place) same (subst (λ r. Says order key value found r) (sym is) (place_says order key value found))
