-- Options, and lists of them.
use Rattle.std.proofs.Common.{◌≡◌, List, [], ◌∷◌, Some, None, Option, refl, true, Bool, subst, sym}
use Rattle.std.proofs.Common.{T}
use Rattle.kt_histlaws.specs.Histories.{or_else, first_some, AtMostOne}

pub or_none : {A : Type 0} (x : Option A) → or_else x None ≡ x
or_none None = refl
or_none (Some x) = refl

pub one_alone : {A : Type 0} (x : Option A) → AtMostOne (x ∷ [])
one_alone None = tt
one_alone (Some x) = refl

pub at_most_of_none : {A : Type 0} (xs : List (Option A)) → first_some xs ≡ None → AtMostOne xs
at_most_of_none [] h = tt
at_most_of_none (None ∷ xs) h = at_most_of_none xs h
at_most_of_none (Some x ∷ xs) h = cc

pub at_most_rest : {A : Type 0} (x : Option A) (xs : List (Option A)) → AtMostOne (x ∷ xs) → AtMostOne xs
at_most_rest None xs one = one
at_most_rest (Some y) xs one = at_most_of_none xs one

pub as_T : (b : Bool) → b ≡ true → T b
as_T b h = subst T (sym h) tt
