-- One key: its histories in the stores, and the one that they show.
use Rattle.std.proofs.Common.{◌≡◌, ℕ, zero, suc, ◌<◌, ◌≤◌, List, [], ◌∷◌, ◌++◌, Some, None, Option, refl, true, false, Bool, cond, sym, ap, ◌∙◌, subst, arith, map, length}
use Rattle.std.specs.Prelude.{nat_le, ◌==◌, is_some}
use Rattle.std.proofs.lemmas.Bool.{cases_lt, cases_eq, eq-eqb, ne_eqb, le-leb, lt-leb}
use Rattle.std.proofs.Common.{inl, inr}
use Rattle.kt_history.specs.declared.change.Change.{Change}
use Rattle.kt_history.specs.Rows.{Row, apply}
use Rattle.kt_histlaws.specs.Histories.{on_nth, or_else, first_some, AtMostOne, Alone, nth_option, ShowsKey}
use Rattle.kt_history.specs.Stores.{Steps, Hist, after_steps, row_of, step_at, step_of, push}

-- lists of options

or_none : {A : Type 0} (x : Option A) → or_else x None ≡ x
or_none None = refl
or_none (Some x) = refl

pub none_left : {A : Type 0} (x y : Option A) → or_else x y ≡ None → x ≡ None
none_left None y h = refl
none_left (Some x) y h = cc

pub none_right : {A : Type 0} (x y : Option A) → or_else x y ≡ None → y ≡ None
none_right None y h = h
none_right (Some x) y h = cc

pub first-on_nth : {A : Type 0} (i : ℕ) (f : Option A → Option A) (xs : List (Option A)) → Alone i xs → first_some (on_nth i f xs) ≡ f (first_some xs)
first-on_nth i f [] h = absurd h
first-on_nth zero f (x ∷ xs) h = rw h (or_none (f x) ∙ ap f (sym (or_none x)))
first-on_nth (suc i) f (x ∷ xs) h = rw h.0 (first-on_nth i f xs h.1)

none_one : {A : Type 0} (xs : List (Option A)) → first_some xs ≡ None → AtMostOne xs
none_one [] h = tt
none_one (None ∷ xs) h = none_one xs h
none_one (Some x ∷ xs) h = cc

one_cons : {A : Type 0} (x : Option A) (xs : List (Option A)) → first_some xs ≡ None → AtMostOne (x ∷ xs)
one_cons None xs h = none_one xs h
one_cons (Some x) xs h = h

pub one-on_nth : {A : Type 0} (i : ℕ) (f : Option A → Option A) (xs : List (Option A)) → Alone i xs → AtMostOne (on_nth i f xs)
one-on_nth i f [] h = absurd h
one-on_nth zero f (x ∷ xs) h = one_cons (f x) xs h
one-on_nth (suc i) f (x ∷ xs) h = subst (λ y. AtMostOne (y ∷ on_nth i f xs)) (sym h.0) (one-on_nth i f xs h.1)

-- where none is, each is alone
pub alone_of_none : {A : Type 0} (i : ℕ) (xs : List (Option A)) → i < length xs → first_some xs ≡ None → Alone i xs
alone_of_none i [] lt h = omega arith
alone_of_none zero (x ∷ xs) lt h = none_right x (first_some xs) h
alone_of_none (suc i) (x ∷ xs) lt h = (none_left x (first_some xs) h, alone_of_none i xs (omega arith) (none_right x (first_some xs) h))

-- the one that is some is alone
some_first : {A : Type 0} (i : ℕ) (xs : List (Option A)) → is_some (nth_option i xs) ≡ true → first_some xs ≡ None → ⊥
some_first i [] s h = cc
some_first zero (None ∷ xs) s h = cc
some_first zero (Some x ∷ xs) s h = cc
some_first (suc i) (x ∷ xs) s h = some_first i xs s (none_right x (first_some xs) h)

pub alone_of_one : {A : Type 0} (i : ℕ) (xs : List (Option A)) → AtMostOne xs → is_some (nth_option i xs) ≡ true → Alone i xs
alone_of_one i [] one s = cc
alone_of_one zero (None ∷ xs) one s = cc
alone_of_one zero (Some x ∷ xs) one s = one
alone_of_one (suc i) (None ∷ xs) one s = (refl, alone_of_one i xs one s)
alone_of_one (suc i) (Some x ∷ xs) one s = absurd (some_first i xs s one)

pub length_map : {A B : Type 0} (g : A → B) (xs : List A) → length (map g xs) ≡ length xs
length_map g [] = refl
length_map g (x ∷ xs) = ap suc (length_map g xs)

-- rows and changes after a push

pub after_steps-append : (t : ℕ) (xs ys : Steps) (row : Option Row) → after_steps t (xs ++ ys) row ≡ after_steps t ys (after_steps t xs row)
after_steps-append t [] ys row = refl
after_steps-append t (x ∷ xs) ys row = after_steps-append t xs ys (cond (nat_le x.0 t) (apply x.1 row) row)

pub row-push_below : (t ts : ℕ) (c : Change) (h : Hist) → t < ts → row_of t (push ts c h) ≡ row_of t h
row-push_below t ts c h lt = after_steps-append t h.steps ((ts, c) ∷ []) h.first ∙ rw (lt-leb ts t lt) refl

pub row-push_from : (t ts : ℕ) (c : Change) (h : Hist) → ts ≤ t → row_of t (push ts c h) ≡ apply c (row_of t h)
row-push_from t ts c h le = after_steps-append t h.steps ((ts, c) ∷ []) h.first ∙ rw (le-leb ts t le) refl

or_cond : {A : Type 0} (b : Bool) (x : A) (y z : Option A) → or_else (cond b (Some x) y) z ≡ cond b (Some x) (or_else y z)
or_cond true x y z = refl
or_cond false x y z = refl

pub step_at-append : (t : ℕ) (xs ys : Steps) → step_at t (xs ++ ys) ≡ or_else (step_at t xs) (step_at t ys)
step_at-append t [] ys = refl
step_at-append t (x ∷ xs) ys = ap (cond (x.0 == t) (Some x.1)) (step_at-append t xs ys) ∙ sym (or_cond (x.0 == t) x.1 (step_at t xs) (step_at t ys))

pub step-push_other : (t ts : ℕ) (c : Change) (h : Hist) → (ts ≡ t → ⊥) → step_of t (push ts c h) ≡ step_of t h
step-push_other t ts c h ne = step_at-append t h.steps ((ts, c) ∷ []) ∙ rw (ne_eqb ts t ne) (or_none (step_at t h.steps))

pub step-push_at : (ts : ℕ) (c : Change) (h : Hist) → step_of ts (push ts c h) ≡ or_else (step_of ts h) (Some c)
step-push_at ts c h = step_at-append ts h.steps ((ts, c) ∷ []) ∙ rw (eq-eqb ts ts refl) refl

-- what one history of the list does, its row or change does
pub map-on_nth : {A B : Type 0} (i : ℕ) (f : A → A) (g : A → B) (k : B → B) → ((x : A) → g (f x) ≡ k (g x)) → (xs : List A) → map g (on_nth i f xs) ≡ on_nth i k (map g xs)
map-on_nth i f g k e [] = refl
map-on_nth zero f g k e (x ∷ xs) = ap (λ y. y ∷ map g xs) (e x)
map-on_nth (suc i) f g k e (x ∷ xs) = ap (λ ys. g x ∷ ys) (map-on_nth i f g k e xs)

pub map-on_nth_still : {A B : Type 0} (i : ℕ) (f : A → A) (g : A → B) → ((x : A) → g (f x) ≡ g x) → (xs : List A) → map g (on_nth i f xs) ≡ map g xs
map-on_nth_still i f g e [] = refl
map-on_nth_still zero f g e (x ∷ xs) = ap (λ y. y ∷ map g xs) (e x)
map-on_nth_still (suc i) f g e (x ∷ xs) = ap (λ ys. g x ∷ ys) (map-on_nth_still i f g e xs)

-- a change that reaches one store joins what the stores show
pub shows-push : (a ts i : ℕ) (c : Change) (hs : List Hist) (whole : Hist) → ShowsKey a hs whole → a < ts → i < length hs
    → ((t : ℕ) → ts ≤ t → Alone i (map (row_of t) hs)) → step_of ts whole ≡ None
    → ShowsKey a (on_nth i (push ts c) hs) (push ts c whole)
shows-push a ts i c hs whole s lt in_list alone none = record {
  rows = λ t le. elim (cases_lt t ts) [
    | inl before ↦ ap first_some (map-on_nth_still i (push ts c) (row_of t) (λ h. row-push_below t ts c h before) hs) ∙ s.rows t le ∙ sym (row-push_below t ts c whole before)
    | inr from ↦ ap first_some (map-on_nth i (push ts c) (row_of t) (apply c) (λ h. row-push_from t ts c h from) hs) ∙ first-on_nth i (apply c) (map (row_of t) hs) (alone t from) ∙ ap (apply c) (s.rows t le) ∙ sym (row-push_from t ts c whole from)
  ];
  steps = λ t up. elim (cases_eq ts t) [
    | inl same ↦ subst (λ u. first_some (map (step_of u) (on_nth i (push ts c) hs)) ≡ step_of u (push ts c whole)) same
        (ap first_some (map-on_nth i (push ts c) (step_of ts) (λ o. or_else o (Some c)) (λ h. step-push_at ts c h) hs)
        ∙ first-on_nth i (λ o. or_else o (Some c)) (map (step_of ts) hs) (alone_step in_list)
        ∙ ap (λ o. or_else o (Some c)) (s.steps ts lt) ∙ sym (step-push_at ts c whole))
    | inr other ↦ ap first_some (map-on_nth_still i (push ts c) (step_of t) (λ h. step-push_other t ts c h other) hs) ∙ s.steps t up ∙ sym (step-push_other t ts c whole other)
  ];
  one_row = λ t le. elim (cases_lt t ts) [
    | inl before ↦ subst AtMostOne (sym (map-on_nth_still i (push ts c) (row_of t) (λ h. row-push_below t ts c h before) hs)) (s.one_row t le)
    | inr from ↦ subst AtMostOne (sym (map-on_nth i (push ts c) (row_of t) (apply c) (λ h. row-push_from t ts c h from) hs)) (one-on_nth i (apply c) (map (row_of t) hs) (alone t from))
  ];
  one_step = λ t up. elim (cases_eq ts t) [
    | inl same ↦ subst (λ u. AtMostOne (map (step_of u) (on_nth i (push ts c) hs))) same
        (subst AtMostOne (sym (map-on_nth i (push ts c) (step_of ts) (λ o. or_else o (Some c)) (λ h. step-push_at ts c h) hs)) (one-on_nth i (λ o. or_else o (Some c)) (map (step_of ts) hs) (alone_step in_list)))
    | inr other ↦ subst AtMostOne (sym (map-on_nth_still i (push ts c) (step_of t) (λ h. step-push_other t ts c h other) hs)) (s.one_step t up)
  ];
}
  where
    alone_step : i < length hs → Alone i (map (step_of ts) hs)
    alone_step l = alone_of_none i (map (step_of ts) hs) (subst (λ n. i < n) (sym (length_map (step_of ts) hs)) l) (s.steps ts lt ∙ none)
