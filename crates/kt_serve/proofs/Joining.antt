-- Passes taken in by a lock, one after another.
use Rattle.std.proofs.Common.{◌≡◌, ◌<◌, ℕ, zero, suc, max, List, [], ◌∷◌, ◌++◌, Some, refl, sym, ap, ◌∙◌, subst, arith, slice_get}
use Rattle.kt_seatlock.specs.Trails.{Each}
use Rattle.kt_seatlock.specs.Views.{pick}
use Rattle.kt_seatlock.specs.Passes.{joined, given, MayEnter}
use Rattle.kt_seatlock.specs.declared.view.Joined.{Joined}
use Rattle.kt_seatlock.specs.declared.shared.Shared.{Ghosts}
use Rattle.kt_seatlock.specs.declared.lock.SeatLock.{SeatLock}
use Rattle.kt_serve.specs.declared.places.Place.{Place}
use Rattle.kt_serve.specs.Places.{AreBack, taken, joined_of}
use Rattle.kt_serve.proofs.Lists.{some_is}

module _ {T E P : Type 0} {g : Ghosts T E P} where
  -- one pass more is taken in
  pub takes_one : (all rest : List (Place T E P g)) (p : Place T E P g) (known new whole : List (Joined E P)) → all ≡ p ∷ rest → taken all known ≡ whole → joined p.pass ≡ [] → new ≡ joined_of p.pass ∷ (joined p.pass ++ known) → taken rest new ≡ whole
  takes_one all rest p known new whole e is alone joins = ap (taken rest) (joins ∙ ap (λ l. joined_of p.pass ∷ (l ++ known)) alone) ∙ sym (ap (λ l. taken l known) e) ∙ is

  -- what holds of each pass by its place is enough to take all in
  pub are_back : (lock : SeatLock T E P) (places : List (Place T E P g)) → ((j : ℕ) (p : Place T E P g) → slice_get places j ≡ Some p → MayEnter lock p.pass × (joined p.pass ≡ []) × (given p.pass ≡ 0)) → AreBack lock places
  are_back lock [] each = tt
  are_back lock (p ∷ places) each = (each zero p refl, are_back lock places (λ j q e. each (suc j) q e))

  kept_known : (K : Joined E P → Type 0) (places : List (Place T E P g)) (known : List (Joined E P)) → Each K (taken places known) → Each K known
  kept_known K [] known h = h
  kept_known K (p ∷ places) known h = (kept_known K places (joined_of p.pass ∷ known) h).1

  -- what is kept of all that were taken in is kept of each
  pub kept_each : (K : Joined E P → Type 0) (places : List (Place T E P g)) (known : List (Joined E P)) → Each K (taken places known) → (j : ℕ) (p : Place T E P g) → slice_get places j ≡ Some p → K (joined_of p.pass)
  kept_each K [] known h j p e = absurd (cc)
  kept_each K (q ∷ places) known h zero p e = subst (λ (x : Place T E P g). K (joined_of x.pass)) (some_is q p e) (kept_known K places (joined_of q.pass ∷ known) h).0
  kept_each K (q ∷ places) known h (suc j) p e = kept_each K places (joined_of q.pass ∷ known) h j p e

-- who gives numbers, and the value that filled the lock, stay where the other pass gives none
pub gives_on : {A : Type 0} (n k given' given'' : ℕ) (o p o' o'' : A) → k ≡ 0 → (given' ≡ max n k) × (o' ≡ pick n o p) → 0 < n → (n ≡ given'') × (o ≡ o'') → (given' ≡ given'') × (o' ≡ o'')
gives_on zero k given' given'' o p o' o'' none is gives was = absurd (omega arith)
gives_on (suc n) k given' given'' o p o' o'' none is gives was = (omega (arith, is.0, was.0), is.1 ∙ was.1)
