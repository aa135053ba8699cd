-- Lists of options: which ones are among them.
use Rattle.std.proofs.Common.{◌≡◌, ◌⊎◌, List, [], ◌∷◌, ◌++◌, Option, Some, None, refl, sym, ◌∙◌, inl, inr}
use Rattle.kt_histlaws.specs.Histories.{first_some, AtMostOne}

abbrev pub HasSome : {B : Type 0} → B → List (Option B) → Type 0
HasSome v [] = ⊥
HasSome v (x ∷ xs) = (x ≡ Some v) ⊎ HasSome v xs

pub first_has : {B : Type 0} (v : B) (xs : List (Option B)) → first_some xs ≡ Some v → HasSome v xs
first_has v [] e = absurd (cc)
first_has v (None ∷ xs) e = inr (first_has v xs e)
first_has v (Some x ∷ xs) e = inl e

pub none_has : {B : Type 0} (v : B) (xs : List (Option B)) → first_some xs ≡ None → HasSome v xs → ⊥
none_has v [] e h = h
none_has v (None ∷ xs) e (inl h) = cc
none_has v (None ∷ xs) e (inr h) = none_has v xs e h
none_has v (Some x ∷ xs) e h = cc

pub one_has : {B : Type 0} (v : B) (xs : List (Option B)) → AtMostOne xs → HasSome v xs → first_some xs ≡ Some v
one_has v [] one h = absurd h
one_has v (None ∷ xs) one (inl h) = absurd (cc)
one_has v (None ∷ xs) one (inr h) = one_has v xs one h
one_has v (Some x ∷ xs) one (inl h) = h
one_has v (Some x ∷ xs) one (inr h) = absurd (none_has v xs one h)

pub same_first : {B : Type 0} (xs ys : List (Option B)) → ((v : B) → HasSome v xs → HasSome v ys) → ((v : B) → HasSome v ys → HasSome v xs) → AtMostOne ys → first_some xs ≡ first_some ys
same_first {B} xs ys to back one = by (first_some xs) (first_some ys) refl refl
  where
    by : (o p : Option B) → first_some xs ≡ o → first_some ys ≡ p → first_some xs ≡ first_some ys
    by None None e f = e ∙ sym f
    by None (Some v) e f = absurd (none_has v xs e (back v (first_has v ys f)))
    by (Some v) p e f = e ∙ sym (one_has v ys one (to v (first_has v xs e)))

pub has_front : {B : Type 0} (v : B) (xs ys : List (Option B)) → HasSome v xs → HasSome v (xs ++ ys)
has_front v [] ys h = absurd h
has_front v (x ∷ xs) ys (inl h) = inl h
has_front v (x ∷ xs) ys (inr h) = inr (has_front v xs ys h)

pub has_behind : {B : Type 0} (v : B) (xs ys : List (Option B)) → HasSome v ys → HasSome v (xs ++ ys)
has_behind v [] ys h = h
has_behind v (x ∷ xs) ys h = inr (has_behind v xs ys h)

pub has_either : {B : Type 0} (v : B) (xs ys : List (Option B)) → HasSome v (xs ++ ys) → HasSome v xs ⊎ HasSome v ys
has_either v [] ys h = inr h
has_either v (x ∷ xs) ys (inl h) = inl (inl h)
has_either v (x ∷ xs) ys (inr h) = by (has_either v xs ys h)
  where
    by : HasSome v xs ⊎ HasSome v ys → HasSome v (x ∷ xs) ⊎ HasSome v ys
    by (inl h) = inl (inr h)
    by (inr h) = inr h
