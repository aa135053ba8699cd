-- A job between its swap and its finish.
use Rattle.std.proofs.Common.{◌≡◌, ℕ, zero, suc, ◌<◌, ◌≤◌, List, [], ◌∷◌, ◌++◌, Some, None, Option, refl, sym, ap, ◌∙◌, subst, arith, map, length, inl, inr, append_assoc}
use Rattle.std.proofs.lemmas.Bool.{cases_lt, cases_eq}
use Rattle.std.proofs.lemmas.List.{map-append, append-nil}
use Rattle.kt_history.specs.declared.change.Change.{Change}
use Rattle.kt_history.specs.Rows.{apply}
use Rattle.kt_histlaws.specs.Histories.{on_nth, or_else, first_some, AtMostOne, Alone, ShowsKey}
use Rattle.kt_history.specs.Stores.{Steps, Hist, row_of, step_of, push}
use Rattle.kt_histlaws.specs.Jobs.{AreAlike, IsFilled, push_all}
use Rattle.kt_histlaws.specs.Fitting.{Rises}
use Rattle.kt_histlaws.proofs.OneKey.{first-on_nth, one-on_nth, alone_of_none, map-on_nth, map-on_nth_still, row-push_below, row-push_from, step-push_other, step-push_at, length_map}

first-append : {A : Type 0} (xs ys : List (Option A)) → first_some (xs ++ ys) ≡ or_else (first_some xs) (first_some ys)
first-append [] ys = refl
first-append (None ∷ xs) ys = first-append xs ys
first-append (Some x ∷ xs) ys = refl

none_first : {A : Type 0} (xs ys zs : List (Option A)) → first_some (xs ++ ys) ≡ None → first_some ys ≡ first_some zs → first_some (xs ++ zs) ≡ None
none_first xs ys zs h e = first-append xs zs ∙ ap (or_else (first_some xs)) (sym e) ∙ sym (first-append xs ys) ∙ h

at_most-append : {A : Type 0} (xs ys zs : List (Option A)) → AtMostOne (xs ++ ys) → AtMostOne zs → first_some ys ≡ first_some zs → AtMostOne (xs ++ zs)
at_most-append [] ys zs h one e = one
at_most-append (None ∷ xs) ys zs h one e = at_most-append xs ys zs h one e
at_most-append (Some x ∷ xs) ys zs h one e = none_first xs ys zs h e

-- the finish: the outputs, with what was missed, in place of the inputs
pub finish_shows : (j a : ℕ) (rest ins outs : List Hist) (whole : Hist) → ShowsKey a (rest ++ ins) whole → AreAlike j ins outs → j ≤ a → ShowsKey a (rest ++ outs) whole
finish_shows j a rest ins outs whole s alike low = record {
  rows = λ t le. ap first_some (map-append (row_of t) rest outs) ∙ first-append (map (row_of t) rest) (map (row_of t) outs)
      ∙ ap (or_else (first_some (map (row_of t) rest))) (sym (alike.rows t (omega arith)))
      ∙ sym (ap first_some (map-append (row_of t) rest ins) ∙ first-append (map (row_of t) rest) (map (row_of t) ins)) ∙ s.rows t le;
  steps = λ t up. ap first_some (map-append (step_of t) rest outs) ∙ first-append (map (step_of t) rest) (map (step_of t) outs)
      ∙ ap (or_else (first_some (map (step_of t) rest))) (sym (alike.steps t (omega arith)))
      ∙ sym (ap first_some (map-append (step_of t) rest ins) ∙ first-append (map (step_of t) rest) (map (step_of t) ins)) ∙ s.steps t up;
  one_row = λ t le. subst AtMostOne (sym (map-append (row_of t) rest outs))
      (at_most-append (map (row_of t) rest) (map (row_of t) ins) (map (row_of t) outs) (subst AtMostOne (map-append (row_of t) rest ins) (s.one_row t le)) (alike.one_row t (omega arith)) (alike.rows t (omega arith)));
  one_step = λ t up. subst AtMostOne (sym (map-append (step_of t) rest outs))
      (at_most-append (map (step_of t) rest) (map (step_of t) ins) (map (step_of t) outs) (subst AtMostOne (map-append (step_of t) rest ins) (s.one_step t up)) (alike.one_step t (omega arith)) (alike.steps t (omega arith)));
}

-- a change to both sides, or to the inputs and to what is missed
pub both_alike : (j ts i k : ℕ) (c : Change) (ins outs : List Hist) → AreAlike j ins outs → j < ts → i < length ins → k < length outs
    → ((t : ℕ) → ts ≤ t → Alone i (map (row_of t) ins)) → ((t : ℕ) → ts ≤ t → Alone k (map (row_of t) outs)) → first_some (map (step_of ts) ins) ≡ None
    → AreAlike j (on_nth i (push ts c) ins) (on_nth k (push ts c) outs)
both_alike j ts i k c ins outs s lt in_ins in_outs alone_in alone_out none = record {
  rows = λ t le. elim (cases_lt t ts) [
    | inl before ↦ ap first_some (map-on_nth_still i (push ts c) (row_of t) (λ h. row-push_below t ts c h before) ins) ∙ s.rows t le
        ∙ sym (ap first_some (map-on_nth_still k (push ts c) (row_of t) (λ h. row-push_below t ts c h before) outs))
    | inr from ↦ ap first_some (map-on_nth i (push ts c) (row_of t) (apply c) (λ h. row-push_from t ts c h from) ins) ∙ first-on_nth i (apply c) (map (row_of t) ins) (alone_in t from)
        ∙ ap (apply c) (s.rows t le)
        ∙ sym (ap first_some (map-on_nth k (push ts c) (row_of t) (apply c) (λ h. row-push_from t ts c h from) outs) ∙ first-on_nth k (apply c) (map (row_of t) outs) (alone_out t from))
  ];
  steps = λ t up. elim (cases_eq ts t) [
    | inl same ↦ subst (λ u. first_some (map (step_of u) (on_nth i (push ts c) ins)) ≡ first_some (map (step_of u) (on_nth k (push ts c) outs))) same
        (ap first_some (map-on_nth i (push ts c) (step_of ts) (λ o. or_else o (Some c)) (λ h. step-push_at ts c h) ins)
        ∙ first-on_nth i (λ o. or_else o (Some c)) (map (step_of ts) ins) (step_in in_ins)
        ∙ ap (λ o. or_else o (Some c)) (s.steps ts lt)
        ∙ sym (ap first_some (map-on_nth k (push ts c) (step_of ts) (λ o. or_else o (Some c)) (λ h. step-push_at ts c h) outs)
        ∙ first-on_nth k (λ o. or_else o (Some c)) (map (step_of ts) outs) (step_out in_outs)))
    | inr other ↦ ap first_some (map-on_nth_still i (push ts c) (step_of t) (λ h. step-push_other t ts c h other) ins) ∙ s.steps t up
        ∙ sym (ap first_some (map-on_nth_still k (push ts c) (step_of t) (λ h. step-push_other t ts c h other) outs))
  ];
  one_row = λ t le. elim (cases_lt t ts) [
    | inl before ↦ subst AtMostOne (sym (map-on_nth_still k (push ts c) (row_of t) (λ h. row-push_below t ts c h before) outs)) (s.one_row t le)
    | inr from ↦ subst AtMostOne (sym (map-on_nth k (push ts c) (row_of t) (apply c) (λ h. row-push_from t ts c h from) outs)) (one-on_nth k (apply c) (map (row_of t) outs) (alone_out t from))
  ];
  one_step = λ t up. elim (cases_eq ts t) [
    | inl same ↦ subst (λ u. AtMostOne (map (step_of u) (on_nth k (push ts c) outs))) same
        (subst AtMostOne (sym (map-on_nth k (push ts c) (step_of ts) (λ o. or_else o (Some c)) (λ h. step-push_at ts c h) outs)) (one-on_nth k (λ o. or_else o (Some c)) (map (step_of ts) outs) (step_out in_outs)))
    | inr other ↦ subst AtMostOne (sym (map-on_nth_still k (push ts c) (step_of t) (λ h. step-push_other t ts c h other) outs)) (s.one_step t up)
  ];
}
  where
    step_in : i < length ins → Alone i (map (step_of ts) ins)
    step_in l = alone_of_none i (map (step_of ts) ins) (subst (λ n. i < n) (sym (length_map (step_of ts) ins)) l) none

    step_out : k < length outs → Alone k (map (step_of ts) outs)
    step_out l = alone_of_none k (map (step_of ts) outs) (subst (λ n. k < n) (sym (length_map (step_of ts) outs)) l) (sym (s.steps ts lt) ∙ none)

-- a duplicated change goes to the end of the output, and of what it becomes
pub filled_push : (missed : Steps) (out full : Hist) (ts : ℕ) (c : Change) → IsFilled missed out full → IsFilled missed (push ts c out) (push ts c full)
filled_push missed out full ts c f = record {
  written = f.written;
  doubled = f.doubled ++ (ts, c) ∷ [];
  first = f.first;
  out_is = ap (λ s. s ++ (ts, c) ∷ []) f.out_is ∙ append_assoc f.written f.doubled ((ts, c) ∷ []);
  full_is = ap (λ s. s ++ (ts, c) ∷ []) f.full_is ∙ append_assoc (f.written ++ missed) f.doubled ((ts, c) ∷ []);
}

-- the swap: what went to the inputs alone since the bound, put into the outputs, makes them show the same
pub alone-on_nth : {A : Type 0} (i : ℕ) (f : Option A → Option A) (xs : List (Option A)) → Alone i xs → Alone i (on_nth i f xs)
alone-on_nth i f [] h = absurd h
alone-on_nth zero f (x ∷ xs) h = h
alone-on_nth (suc i) f (x ∷ xs) h = (h.0, alone-on_nth i f xs h.1)

pub length-on_nth : {A : Type 0} (i : ℕ) (f : A → A) (xs : List A) → length (on_nth i f xs) ≡ length xs
length-on_nth i f [] = refl
length-on_nth zero f (x ∷ xs) = refl
length-on_nth (suc i) f (x ∷ xs) = ap suc (length-on_nth i f xs)

pub joined_pushes : (i ts : ℕ) (c : Change) (steps : Steps) (hs : List Hist) → on_nth i (push_all steps) (on_nth i (push ts c) hs) ≡ on_nth i (push_all ((ts, c) ∷ steps)) hs
joined_pushes i ts c steps [] = refl
joined_pushes zero ts c steps (h ∷ hs) = ap (λ s. record h { steps = s } ∷ hs) (append_assoc h.steps ((ts, c) ∷ []) steps)
joined_pushes (suc i) ts c steps (h ∷ hs) = ap (λ r. h ∷ r) (joined_pushes i ts c steps hs)

pub no_pushes : (i : ℕ) (hs : List Hist) → hs ≡ on_nth i (push_all []) hs
no_pushes i [] = refl
no_pushes zero (h ∷ hs) = ap (λ s. record h { steps = s } ∷ hs) (sym (append-nil h.steps))
no_pushes (suc i) (h ∷ hs) = ap (λ r. h ∷ r) (no_pushes i hs)

alone_pushed : (i ts t : ℕ) (c : Change) (hs : List Hist) → ts ≤ t → Alone i (map (row_of t) hs) → Alone i (map (row_of t) (on_nth i (push ts c) hs))
alone_pushed i ts t c hs le h = subst (Alone i) (sym (map-on_nth i (push ts c) (row_of t) (apply c) (λ x. row-push_from t ts c x le) hs)) (alone-on_nth i (apply c) (map (row_of t) hs) h)

pub swap_alike : (j low i k : ℕ) (missed : Steps) (ins outs : List Hist) → AreAlike j ins outs → j ≤ low → Rises low missed → i < length ins → k < length outs
    → ((t : ℕ) → low < t → Alone i (map (row_of t) ins)) → ((t : ℕ) → low < t → Alone k (map (row_of t) outs)) → ((t : ℕ) → low < t → first_some (map (step_of t) ins) ≡ None)
    → AreAlike j (on_nth i (push_all missed) ins) (on_nth k (push_all missed) outs)
swap_alike j low i k [] ins outs s le r in_ins in_outs alone_in alone_out none = subst (λ xs. AreAlike j xs (on_nth k (push_all []) outs)) (no_pushes i ins) (subst (AreAlike j ins) (no_pushes k outs) s)
swap_alike j low i k (m ∷ missed) ins outs s le r in_ins in_outs alone_in alone_out none =
    let next : AreAlike j (on_nth i (push m.0 m.1) ins) (on_nth k (push m.0 m.1) outs) =
    both_alike j m.0 i k m.1 ins outs s (omega (arith, r.0)) in_ins in_outs (λ t from. alone_in t (omega (arith, r.0))) (λ t from. alone_out t (omega (arith, r.0))) (none m.0 r.0) in
    let rest : AreAlike j (on_nth i (push_all missed) (on_nth i (push m.0 m.1) ins)) (on_nth k (push_all missed) (on_nth k (push m.0 m.1) outs)) =
    swap_alike j m.0 i k missed (on_nth i (push m.0 m.1) ins) (on_nth k (push m.0 m.1) outs) next (omega (arith, r.0)) r.1
    (subst (λ n. i < n) (sym (length-on_nth i (push m.0 m.1) ins)) in_ins) (subst (λ n. k < n) (sym (length-on_nth k (push m.0 m.1) outs)) in_outs)
    (λ t up. alone_pushed i m.0 t m.1 ins (omega arith) (alone_in t (omega (arith, r.0))))
    (λ t up. alone_pushed k m.0 t m.1 outs (omega arith) (alone_out t (omega (arith, r.0))))
    (λ t up. ap first_some (map-on_nth_still i (push m.0 m.1) (step_of t) (λ h. step-push_other t m.0 m.1 h (λ e. omega arith)) ins) ∙ none t (omega (arith, r.0))) in
    subst (λ xs. AreAlike j xs (on_nth k (push_all (m ∷ missed)) outs)) (joined_pushes i m.0 m.1 missed ins) (subst (AreAlike j (on_nth i (push_all missed) (on_nth i (push m.0 m.1) ins))) (joined_pushes k m.0 m.1 missed outs) rest)

-- the order of the stores shows nothing: one of them may come first
none_left_of : {A : Type 0} (x y : Option A) → or_else x y ≡ None → x ≡ None
none_left_of None y h = refl
none_left_of (Some x) y h = cc

none_right_of : {A : Type 0} (x y : Option A) → or_else x y ≡ None → y ≡ None
none_right_of None y h = h
none_right_of (Some x) y h = cc

none_of_all : {A : Type 0} (x : Option A) (xs ys : List (Option A)) → first_some (xs ++ x ∷ ys) ≡ None → (x ≡ None) × (first_some (xs ++ ys) ≡ None)
none_of_all x [] ys h = (none_left_of x (first_some ys) h, none_right_of x (first_some ys) h)
none_of_all x (None ∷ xs) ys h = none_of_all x xs ys h
none_of_all x (Some y ∷ xs) ys h = cc

at_most_of_none : {A : Type 0} (xs : List (Option A)) → first_some xs ≡ None → AtMostOne xs
at_most_of_none [] h = tt
at_most_of_none (None ∷ xs) h = at_most_of_none xs h
at_most_of_none (Some x ∷ xs) h = cc

moved_first : {A : Type 0} (x : Option A) (xs ys : List (Option A)) → AtMostOne (xs ++ x ∷ ys) → (first_some (x ∷ xs ++ ys) ≡ first_some (xs ++ x ∷ ys)) × AtMostOne (x ∷ xs ++ ys)
moved_first x [] ys one = (refl, one)
moved_first None (None ∷ xs) ys one = moved_first None xs ys one
moved_first (Some v) (None ∷ xs) ys one = moved_first (Some v) xs ys one
moved_first None (Some y ∷ xs) ys one = (refl, (none_of_all None xs ys one).1)
moved_first (Some v) (Some y ∷ xs) ys one = let e : Some v ≡ None = (none_of_all (Some v) xs ys one).0 in cc

pub shows_first : (a : ℕ) (h : Hist) (xs ys : List Hist) (whole : Hist) → ShowsKey a (xs ++ h ∷ ys) whole → ShowsKey a (h ∷ xs ++ ys) whole
shows_first a h xs ys whole s = record {
  rows = λ t le. ap (λ l. first_some (row_of t h ∷ l)) (map-append (row_of t) xs ys) ∙ (moved_first (row_of t h) (map (row_of t) xs) (map (row_of t) ys) (row_one t le)).0
      ∙ ap first_some (sym (map-append (row_of t) xs (h ∷ ys))) ∙ s.rows t le;
  steps = λ t up. ap (λ l. first_some (step_of t h ∷ l)) (map-append (step_of t) xs ys) ∙ (moved_first (step_of t h) (map (step_of t) xs) (map (step_of t) ys) (step_one t up)).0
      ∙ ap first_some (sym (map-append (step_of t) xs (h ∷ ys))) ∙ s.steps t up;
  one_row = λ t le. subst (λ l. AtMostOne (row_of t h ∷ l)) (sym (map-append (row_of t) xs ys)) (moved_first (row_of t h) (map (row_of t) xs) (map (row_of t) ys) (row_one t le)).1;
  one_step = λ t up. subst (λ l. AtMostOne (step_of t h ∷ l)) (sym (map-append (step_of t) xs ys)) (moved_first (step_of t h) (map (step_of t) xs) (map (step_of t) ys) (step_one t up)).1;
}
  where
    row_one : (t : ℕ) → a ≤ t → AtMostOne (map (row_of t) xs ++ row_of t h ∷ map (row_of t) ys)
    row_one t le = subst AtMostOne (map-append (row_of t) xs (h ∷ ys)) (s.one_row t le)

    step_one : (t : ℕ) → a < t → AtMostOne (map (step_of t) xs ++ step_of t h ∷ map (step_of t) ys)
    step_one t up = subst AtMostOne (map-append (step_of t) xs (h ∷ ys)) (s.one_step t up)
