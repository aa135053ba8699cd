-- What holds of each of some things holds of one.
use Rattle.std.proofs.Common.{◌≡◌, ℕ, zero, suc, List, [], ◌∷◌, Some, subst}
use Rattle.std.specs.Prelude.{slice_get}
use Rattle.std.specs.List.{AllByRecursion}
use Rattle.kt_history.specs.Machine.{nth}

pub get_fits : {A : Type 0} (P : A → Type 0) (xs : List A) (k : ℕ) (x : A) → AllByRecursion P xs → slice_get xs k ≡ Some x → P x
get_fits P [] k x all h = absurd cc
get_fits P (y ∷ xs) zero x all h = let is : y ≡ x = cc in subst P is all.0
get_fits P (y ∷ xs) (suc k) x all h = get_fits P xs k x all.1 h

pub nth_fits : {A : Type 0} (P : A → Type 0) (xs : List A) (s : ℕ) (x : A) → AllByRecursion P xs → nth xs s ≡ Some x → P x
nth_fits P xs zero x all h = absurd cc
nth_fits P xs (suc k) x all h = get_fits P xs k x all h
