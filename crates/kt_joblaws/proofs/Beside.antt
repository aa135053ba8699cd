-- Lists of histories side by side.
use Rattle.std.proofs.Common.{◌≡◌, ◌⊎◌, ℕ, List, [], ◌∷◌, ◌++◌, map, Option, Some, None, true, inl, inr, refl, sym, ap, ◌∙◌, subst, arith, append_assoc}
use Rattle.std.proofs.lemmas.List.{map-append}
use Rattle.kt_history.specs.Rows.{Row}
use Rattle.kt_history.specs.Stores.{Steps, Hist, row_of, step_of, never}
use Rattle.kt_histlaws.specs.Fitting.{AllFit, RiseAbove, steps_above}
use Rattle.kt_histlaws.specs.Histories.{or_else, first_some, AtMostOne}
use Rattle.kt_histlaws.proofs.OneKey.{none_left, none_right}
use Rattle.kt_rowfiles.specs.Files.{rising}
use Rattle.kt_rowfiles.specs.Merging.{all_above, joined_history}
use Rattle.kt_rowfiles.proofs.Options.{or_none, at_most_of_none}
use Rattle.kt_content.specs.Rules.{Rules, RowPasses, StepsPass}
use Rattle.kt_joblaws.specs.Beside.{alike_beside, alike_in_turn, sound_beside, each_part_is_apart, each_part_passes}
use Rattle.kt_joblaws.proofs.Late.{first_empty, rest_empty, none_rising, rising_passes, rising_passed}
use Rattle.kt_joblaws.proofs.Passing.{steps_front, steps_behind}
use Rattle.kt_joblaws.proofs.Read.{some_apart}

-- ---- lists of options

first_beside : {A : Type 0} (xs ys : List (Option A)) → first_some (xs ++ ys) ≡ or_else (first_some xs) (first_some ys)
first_beside [] ys = refl
first_beside (None ∷ xs) ys = first_beside xs ys
first_beside (Some x ∷ xs) ys = refl

front_one : {A : Type 0} (xs ys : List (Option A)) → AtMostOne (xs ++ ys) → AtMostOne xs
front_one [] ys one = tt
front_one (None ∷ xs) ys one = front_one xs ys one
front_one (Some x ∷ xs) ys one = none_left (first_some xs) (first_some ys) (sym (first_beside xs ys) ∙ one)

back_one : {A : Type 0} (xs ys : List (Option A)) → AtMostOne (xs ++ ys) → AtMostOne ys
back_one [] ys one = one
back_one (None ∷ xs) ys one = back_one xs ys one
back_one (Some x ∷ xs) ys one = at_most_of_none ys (none_right (first_some xs) (first_some ys) (sym (first_beside xs ys) ∙ one))

-- then one of both parts has none
one_has_none : {A : Type 0} (xs ys : List (Option A)) → AtMostOne (xs ++ ys) → (first_some xs ≡ None) ⊎ (first_some ys ≡ None)
one_has_none [] ys one = inl refl
one_has_none (None ∷ xs) ys one = one_has_none xs ys one
one_has_none (Some x ∷ xs) ys one = inr (none_right (first_some xs) (first_some ys) (sym (first_beside xs ys) ∙ one))

both_one : {A : Type 0} (us vs : List (Option A)) → AtMostOne us → AtMostOne vs → (first_some us ≡ None) ⊎ (first_some vs ≡ None) → AtMostOne (us ++ vs)
both_one [] vs u v none = v
both_one (None ∷ us) vs u v none = both_one us vs u v none
both_one (Some x ∷ us) vs u v (inl e) = absurd (cc)
both_one (Some x ∷ us) vs u v (inr e) = first_beside us vs ∙ ap (λ o. or_else o (first_some vs)) u ∙ e

one_beside : {A : Type 0} (xs ys us vs : List (Option A)) → AtMostOne (xs ++ ys) → AtMostOne us → AtMostOne vs → first_some xs ≡ first_some us → first_some ys ≡ first_some vs → AtMostOne (us ++ vs)
one_beside xs ys us vs one u v e f = both_one us vs u v (by (one_has_none xs ys one))
  where
    by : (first_some xs ≡ None) ⊎ (first_some ys ≡ None) → (first_some us ≡ None) ⊎ (first_some vs ≡ None)
    by (inl none) = inl (sym e ∙ none)
    by (inr none) = inr (sym f ∙ none)

swapped : {A : Type 0} (x y : Option A) → (x ≡ None) ⊎ (y ≡ None) → or_else x y ≡ or_else y x
swapped None y e = sym (or_none y)
swapped (Some x) None e = refl
swapped (Some x) (Some y) (inl e) = absurd (cc)
swapped (Some x) (Some y) (inr e) = absurd (cc)

turned_first : {A : Type 0} (us vs : List (Option A)) → AtMostOne (us ++ vs) → first_some (us ++ vs) ≡ first_some (vs ++ us)
turned_first us vs one = first_beside us vs ∙ swapped (first_some us) (first_some vs) (one_has_none us vs one) ∙ sym (first_beside vs us)

turned_one : {A : Type 0} (us vs : List (Option A)) → AtMostOne (us ++ vs) → AtMostOne (vs ++ us)
turned_one us vs one = both_one vs us (back_one us vs one) (front_one us vs one) (by (one_has_none us vs one))
  where
    by : (first_some us ≡ None) ⊎ (first_some vs ≡ None) → (first_some vs ≡ None) ⊎ (first_some us ≡ None)
    by (inl none) = inr none
    by (inr none) = inl none

-- ---- side by side

pub beside : alike_beside
beside a xs ys us vs apart u v = record {
  rows = λ t le. shown (row_of t) (u.rows t le) (v.rows t le);
  steps = λ t up. shown (step_of t) (u.steps t up) (v.steps t up);
  one_row = λ t le. alone (row_of t) (apart.one_row t le) (u.one_row t le) (v.one_row t le) (u.rows t le) (v.rows t le);
  one_step = λ t up. alone (step_of t) (apart.one_step t up) (u.one_step t up) (v.one_step t up) (u.steps t up) (v.steps t up);
}
  where
    shown : {B : Type 0} (f : Hist → Option B) → first_some (map f xs) ≡ first_some (map f us) → first_some (map f ys) ≡ first_some (map f vs) → first_some (map f (xs ++ ys)) ≡ first_some (map f (us ++ vs))
    shown f e g =
        ap first_some (map-append f xs ys) ∙ first_beside (map f xs) (map f ys)
        ∙ ap (λ o. or_else o (first_some (map f ys))) e ∙ ap (or_else (first_some (map f us))) g
        ∙ sym (ap first_some (map-append f us vs) ∙ first_beside (map f us) (map f vs))

    alone : {B : Type 0} (f : Hist → Option B) → AtMostOne (map f (xs ++ ys)) → AtMostOne (map f us) → AtMostOne (map f vs) → first_some (map f xs) ≡ first_some (map f us) → first_some (map f ys) ≡ first_some (map f vs)
        → AtMostOne (map f (us ++ vs))
    alone f one p r e g = subst AtMostOne (sym (map-append f us vs)) (one_beside (map f xs) (map f ys) (map f us) (map f vs) (subst AtMostOne (map-append f xs ys) one) p r e g)

pub in_turn : alike_in_turn
in_turn a xs us vs s = record {
  rows = λ t le. s.rows t le ∙ shown (row_of t) (s.one_row t le);
  steps = λ t up. s.steps t up ∙ shown (step_of t) (s.one_step t up);
  one_row = λ t le. alone (row_of t) (s.one_row t le);
  one_step = λ t up. alone (step_of t) (s.one_step t up);
}
  where
    shown : {B : Type 0} (f : Hist → Option B) → AtMostOne (map f (us ++ vs)) → first_some (map f (us ++ vs)) ≡ first_some (map f (vs ++ us))
    shown f one = ap first_some (map-append f us vs) ∙ turned_first (map f us) (map f vs) (subst AtMostOne (map-append f us vs) one) ∙ sym (ap first_some (map-append f vs us))

    alone : {B : Type 0} (f : Hist → Option B) → AtMostOne (map f (us ++ vs)) → AtMostOne (map f (vs ++ us))
    alone f one = subst AtMostOne (sym (map-append f vs us)) (turned_one (map f us) (map f vs) (subst AtMostOne (map-append f us vs) one))

fit_beside : (t : ℕ) (us vs : List Hist) → AllFit t us → AllFit t vs → AllFit t (us ++ vs)
fit_beside t [] vs f g = g
fit_beside t (h ∷ us) vs f g = (f.0, fit_beside t us vs f.1 g)

rise_beside : (a : ℕ) (us vs : List Hist) → RiseAbove a us → RiseAbove a vs → RiseAbove a (us ++ vs)
rise_beside a [] vs r s = s
rise_beside a (h ∷ us) vs r s = (r.0, rise_beside a us vs r.1 s)

pub sound : sound_beside
sound a us vs u v = record { fit = λ t up. fit_beside t us vs (u.fit t up) (v.fit t up); rise = rise_beside a us vs u.rise v.rise }

-- ---- each part

fit_back : (t : ℕ) (xs ys : List Hist) → AllFit t (xs ++ ys) → AllFit t ys
fit_back t [] ys f = f
fit_back t (h ∷ xs) ys f = fit_back t xs ys f.1

rise_back : (a : ℕ) (xs ys : List Hist) → RiseAbove a (xs ++ ys) → RiseAbove a ys
rise_back a [] ys r = r
rise_back a (h ∷ xs) ys r = rise_back a xs ys r.1

pub each_apart : each_part_is_apart
each_apart a xs ys apart = (
  some_apart a xs ys apart,
  record {
    one_row = λ t le. behind (row_of t) (apart.one_row t le);
    one_step = λ t up. behind (step_of t) (apart.one_step t up);
    sound = record { fit = λ t up. fit_back t xs ys (apart.sound.fit t up); rise = rise_back a xs ys apart.sound.rise };
  },
)
  where
    behind : {B : Type 0} (f : Hist → Option B) → AtMostOne (map f (xs ++ ys)) → AtMostOne (map f ys)
    behind f one = back_one (map f xs) (map f ys) (subst AtMostOne (map-append f xs ys) one)

all_beside : (a : ℕ) (xs ys : List Hist) → all_above a (xs ++ ys) ≡ all_above a xs ++ all_above a ys
all_beside a [] ys = refl
all_beside a (h ∷ xs) ys = ap (λ (s : Steps). steps_above a h.steps ++ s) (all_beside a xs ys) ∙ sym (append_assoc (steps_above a h.steps) (all_above a xs) (all_above a ys))

-- the row that one of both shows passes where what both show does
rows_pass : (rules : Rules) (x y : Option Row) → (x ≡ None) ⊎ (y ≡ None) → RowPasses rules (or_else x y) → RowPasses rules x × RowPasses rules y
rows_pass rules None y e p = (tt, p)
rows_pass rules (Some row) None e p = (p, tt)
rows_pass rules (Some row) (Some other) (inl e) p = absurd (cc)
rows_pass rules (Some row) (Some other) (inr e) p = absurd (cc)

pub parts_pass : each_part_passes
parts_pass rules q a xs ys apart p = (
  record { key = key_of xs (by_key xs (λ e. none_left (row xs) (row ys) (sym row_is ∙ e)) (λ e. first_empty (all_above a xs) (all_above a ys) e) p.key); first = rows.0; steps = rising_passes rules (all_above a xs) (steps_front rules (all_above a xs) (all_above a ys) steps) },
  record { key = key_of ys (by_key ys (λ e. none_right (row xs) (row ys) (sym row_is ∙ e)) (λ e. rest_empty (all_above a xs) (all_above a ys) e) p.key); first = rows.1; steps = rising_passes rules (all_above a ys) (steps_behind rules (all_above a xs) (all_above a ys) steps) },
)
  where
    row : List Hist → Option Row
    row hs = first_some (map (row_of a) hs)

    row_is : row (xs ++ ys) ≡ or_else (row xs) (row ys)
    row_is = ap first_some (map-append (row_of a) xs ys) ∙ first_beside (map (row_of a) xs) (map (row_of a) ys)

    rows : RowPasses rules (row xs) × RowPasses rules (row ys)
    rows = rows_pass rules (row xs) (row ys) (one_has_none (map (row_of a) xs) (map (row_of a) ys) (subst AtMostOne (map-append (row_of a) xs ys) (apart.one_row a (omega arith)))) (subst (RowPasses rules) row_is p.first)

    steps : StepsPass rules (all_above a xs ++ all_above a ys)
    steps = subst (StepsPass rules) (all_beside a xs ys) (rising_passed rules (all_above a (xs ++ ys)) p.steps)

    key_of : (hs : List Hist) → ((row hs ≡ None) × (all_above a hs ≡ [])) ⊎ (rules.key q ≡ true) → (joined_history a hs ≡ never) ⊎ (rules.key q ≡ true)
    key_of hs (inl e) = inl (ap (λ (r : Option Row). record { first = r; steps = rising (all_above a hs) }) e.0 ∙ ap (λ (s : Steps). record { first = None; steps = rising s }) e.1)
    key_of hs (inr k) = inr k

    by_key : (hs : List Hist) → (row (xs ++ ys) ≡ None → row hs ≡ None) → (all_above a xs ++ all_above a ys ≡ [] → all_above a hs ≡ []) → (joined_history a (xs ++ ys) ≡ never) ⊎ (rules.key q ≡ true)
        → ((row hs ≡ None) × (all_above a hs ≡ [])) ⊎ (rules.key q ≡ true)
    by_key hs r s (inl e) = inl (r (ap (λ (h : Hist). h.first) e), s (sym (all_beside a xs ys) ∙ none_rising (all_above a (xs ++ ys)) (ap (λ (h : Hist). h.steps) e)))
    by_key hs r s (inr k) = inr k
