-- Outputs behind the stores that a job leaves, in place of those that it takes and that show the same.
use Rattle.std.proofs.Common.{◌≡◌, ◌+◌, ℕ, Bool, true, false, cond, List, [], ◌∷◌, ◌++◌, map, drop, length, Some, None, Option, refl, sym, ap, subst, ◌∙◌, arith}
use Rattle.std.proofs.lemmas.List.{map-append, length-map}
use Rattle.kt_history.specs.declared.target.Target.{Target}
use Rattle.kt_history.specs.Stores.{Store, Hist, row_of, step_of, hist_in, never}
use Rattle.kt_histlaws.specs.Histories.{hists, or_else, first_some, AtMostOne, ShowsKey}
use Rattle.kt_histlaws.specs.Fitting.{AllFit, RiseAbove, AreSound}
use Rattle.kt_histlaws.specs.Jobs.{AreAlike}
use Rattle.kt_stores.specs.Takes.{Takes, takes, of_taken, of_left, over_to}

-- ---- lists of options

first-append : {A : Type 0} (xs ys : List (Option A)) → first_some (xs ++ ys) ≡ or_else (first_some xs) (first_some ys)
first-append [] ys = refl
first-append (None ∷ xs) ys = first-append xs ys
first-append (Some x ∷ xs) ys = refl

none_of : {A : Type 0} (x y : Option A) → or_else x y ≡ None → (x ≡ None) × (y ≡ None)
none_of None y h = (refl, h)
none_of (Some x) y h = absurd (cc)

at_most_of_none : {A : Type 0} (xs : List (Option A)) → first_some xs ≡ None → AtMostOne xs
at_most_of_none [] h = tt
at_most_of_none (None ∷ xs) h = at_most_of_none xs h
at_most_of_none (Some x ∷ xs) h = absurd (cc)

tail_one : {A : Type 0} (x : Option A) (xs : List (Option A)) → AtMostOne (x ∷ xs) → AtMostOne xs
tail_one None xs h = h
tail_one (Some x) xs h = at_most_of_none xs h

-- one that is not there, among others
with_none : {A : Type 0} (xs ys : List (Option A)) → AtMostOne (xs ++ ys) → AtMostOne (xs ++ None ∷ ys)
with_none [] ys h = h
with_none (None ∷ xs) ys h = with_none xs ys h
with_none (Some x ∷ xs) ys h = first-append xs (None ∷ ys) ∙ sym (first-append xs ys) ∙ h

-- one that is there, where no other is
with_some : {A : Type 0} (x : A) (xs ys : List (Option A)) → first_some xs ≡ None → first_some ys ≡ None → AtMostOne (xs ++ Some x ∷ ys)
with_some x [] ys e f = f
with_some x (None ∷ xs) ys e f = with_some x xs ys e f
with_some x (Some y ∷ xs) ys e f = absurd (cc)

-- others in place of the last ones, where they show the same
last_one : {A : Type 0} (xs ins outs : List (Option A)) → AtMostOne (xs ++ ins) → AtMostOne outs → first_some ins ≡ first_some outs → AtMostOne (xs ++ outs)
last_one [] ins outs h one e = one
last_one (None ∷ xs) ins outs h one e = last_one xs ins outs h one e
last_one (Some x ∷ xs) ins outs h one e = first-append xs outs ∙ ap (or_else (first_some xs)) (sym e) ∙ sym (first-append xs ins) ∙ h

behind_one : {A : Type 0} (x : Option A) (xs ys : List (Option A)) → AtMostOne (x ∷ xs) → AtMostOne ys → first_some xs ≡ first_some ys → AtMostOne (x ∷ ys)
behind_one None xs ys h one e = one
behind_one (Some x) xs ys h one e = sym e ∙ h

-- ---- of a list, what is left and what is taken

module _ {A : Type 0} (t : Takes) where
  none_left : (names : List Target) (os : List (Option A)) → first_some os ≡ None → first_some (of_left t names os) ≡ None
  none_left [] os e = refl
  none_left (n ∷ names) [] e = refl
  none_left (n ∷ names) (o ∷ os) e =
      let parts = none_of o (first_some os) e in
      let rest = none_left names os parts.1 in
      elim (takes t n) as (λ (b : Bool). first_some (cond b (of_left t names os) (o ∷ of_left t names os)) ≡ None) [
        | true ↦ rest
        | false ↦ ap (λ x. or_else x (first_some (of_left t names os))) parts.0 ∙ rest
      ]

  none_taken : (names : List Target) (os : List (Option A)) → first_some os ≡ None → first_some (of_taken t names os) ≡ None
  none_taken [] os e = refl
  none_taken (n ∷ names) [] e = refl
  none_taken (n ∷ names) (o ∷ os) e =
      let parts = none_of o (first_some os) e in
      let rest = none_taken names os parts.1 in
      elim (takes t n) as (λ (b : Bool). first_some (cond b (o ∷ of_taken t names os) (of_taken t names os)) ≡ None) [
        | true ↦ ap (λ x. or_else x (first_some (of_taken t names os))) parts.0 ∙ rest
        | false ↦ rest
      ]

  -- the first that is there is the first that is left, or that is taken
  first_parts : (names : List Target) (os : List (Option A)) → length names ≡ length os → AtMostOne os → or_else (first_some (of_left t names os)) (first_some (of_taken t names os)) ≡ first_some os
  first_parts [] [] e one = refl
  first_parts [] (o ∷ os) e one = absurd (omega arith)
  first_parts (n ∷ names) [] e one = refl
  first_parts (n ∷ names) (None ∷ os) e one = elim (takes t n) as (λ (b : Bool). or_else (first_some (cond b (of_left t names os) (None ∷ of_left t names os))) (first_some (cond b (None ∷ of_taken t names os) (of_taken t names os))) ≡ first_some os) [
    | true ↦ first_parts names os (omega arith) one
    | false ↦ first_parts names os (omega arith) one
  ]
  first_parts (n ∷ names) (Some x ∷ os) e one = elim (takes t n) as (λ (b : Bool). or_else (first_some (cond b (of_left t names os) (Some x ∷ of_left t names os))) (first_some (cond b (Some x ∷ of_taken t names os) (of_taken t names os))) ≡ Some x) [
    | true ↦ ap (λ o. or_else o (Some x)) (none_left names os one)
    | false ↦ refl
  ]

  -- and there is one at most among both
  parts_one : (names : List Target) (os : List (Option A)) → AtMostOne os → AtMostOne (of_left t names os ++ of_taken t names os)
  parts_one [] os one = tt
  parts_one (n ∷ names) [] one = tt
  parts_one (n ∷ names) (None ∷ os) one = elim (takes t n) as (λ (b : Bool). AtMostOne (cond b (of_left t names os) (None ∷ of_left t names os) ++ cond b (None ∷ of_taken t names os) (of_taken t names os))) [
    | true ↦ with_none (of_left t names os) (of_taken t names os) (parts_one names os one)
    | false ↦ parts_one names os one
  ]
  parts_one (n ∷ names) (Some x ∷ os) one = elim (takes t n) as (λ (b : Bool). AtMostOne (cond b (of_left t names os) (Some x ∷ of_left t names os) ++ cond b (Some x ∷ of_taken t names os) (of_taken t names os))) [
    | true ↦ with_some x (of_left t names os) (of_taken t names os) (none_left names os one) (none_taken names os one)
    | false ↦ first-append (of_left t names os) (of_taken t names os) ∙ ap (λ o. or_else o (first_some (of_taken t names os))) (none_left names os one) ∙ none_taken names os one
  ]

-- what is read of each
left_mapped : {A B : Type 0} (f : A → B) (t : Takes) (names : List Target) (xs : List A) → map f (of_left t names xs) ≡ of_left t names (map f xs)
left_mapped f t [] xs = refl
left_mapped f t (n ∷ names) [] = refl
left_mapped f t (n ∷ names) (x ∷ xs) = elim (takes t n) as (λ (b : Bool). map f (cond b (of_left t names xs) (x ∷ of_left t names xs)) ≡ cond b (of_left t names (map f xs)) (f x ∷ of_left t names (map f xs))) [
  | true ↦ left_mapped f t names xs
  | false ↦ ap (λ l. f x ∷ l) (left_mapped f t names xs)
]

taken_mapped : {A B : Type 0} (f : A → B) (t : Takes) (names : List Target) (xs : List A) → map f (of_taken t names xs) ≡ of_taken t names (map f xs)
taken_mapped f t [] xs = refl
taken_mapped f t (n ∷ names) [] = refl
taken_mapped f t (n ∷ names) (x ∷ xs) = elim (takes t n) as (λ (b : Bool). map f (cond b (x ∷ of_taken t names xs) (of_taken t names xs)) ≡ cond b (f x ∷ of_taken t names (map f xs)) (of_taken t names (map f xs))) [
  | true ↦ ap (λ l. f x ∷ l) (taken_mapped f t names xs)
  | false ↦ taken_mapped f t names xs
]

-- ---- histories of a key

module _ {A : Type 0} (f : Hist → Option A) (t : Takes) (names : List Target) (hs outs : List Hist) (long : length names ≡ length hs) (same : first_some (map f (of_taken t names hs)) ≡ first_some (map f outs)) where
  length_of : length names ≡ length (map f hs)
  length_of = long ∙ sym (length-map hs f)

  same_over : AtMostOne (map f hs) → first_some (map f (of_left t names hs ++ outs)) ≡ first_some (map f hs)
  same_over one =
      ap first_some (map-append f (of_left t names hs) outs) ∙ first-append (map f (of_left t names hs)) (map f outs)
      ∙ ap (or_else (first_some (map f (of_left t names hs)))) (sym same)
      ∙ ap (λ l. or_else (first_some l) (first_some (map f (of_taken t names hs)))) (left_mapped f t names hs)
      ∙ ap (λ l. or_else (first_some (of_left t names (map f hs))) (first_some l)) (taken_mapped f t names hs)
      ∙ first_parts t names (map f hs) length_of one

  one_over : (h : Hist) → AtMostOne (map f outs) → AtMostOne (f h ∷ map f hs) → AtMostOne (f h ∷ map f (of_left t names hs ++ outs))
  one_over h one all =
      let rest = tail_one (f h) (map f hs) all in
      let parts : AtMostOne (map f (of_left t names hs) ++ map f (of_taken t names hs)) =
      subst (λ l. AtMostOne (l ++ map f (of_taken t names hs))) (sym (left_mapped f t names hs)) (subst (λ l. AtMostOne (of_left t names (map f hs) ++ l)) (sym (taken_mapped f t names hs)) (parts_one t names (map f hs) rest)) in
      behind_one (f h) (map f hs) (map f (of_left t names hs ++ outs)) all
      (subst AtMostOne (sym (map-append f (of_left t names hs) outs)) (last_one (map f (of_left t names hs)) (map f (of_taken t names hs)) (map f outs) parts one same))
      (sym (same_over rest))

outputs_show : (a : ℕ) (h : Hist) (t : Takes) (names : List Target) (hs outs : List Hist) (whole : Hist) → length names ≡ length hs → ShowsKey a (h ∷ hs) whole → AreAlike a (of_taken t names hs) outs → ShowsKey a (h ∷ of_left t names hs ++ outs) whole
outputs_show a h t names hs outs whole long s alike = record {
  rows = λ u le. ap (or_else (row_of u h)) (same_over (row_of u) t names hs outs long (alike.rows u le) (tail_one (row_of u h) (map (row_of u) hs) (s.one_row u le))) ∙ s.rows u le;
  steps = λ u up. ap (or_else (step_of u h)) (same_over (step_of u) t names hs outs long (alike.steps u up) (tail_one (step_of u h) (map (step_of u) hs) (s.one_step u up))) ∙ s.steps u up;
  one_row = λ u le. one_over (row_of u) t names hs outs long (alike.rows u le) h (alike.one_row u le) (s.one_row u le);
  one_step = λ u up. one_over (step_of u) t names hs outs long (alike.steps u up) h (alike.one_step u up) (s.one_step u up);
}

fit_left : (u : ℕ) (t : Takes) (names : List Target) (hs outs : List Hist) → AllFit u hs → AllFit u outs → AllFit u (of_left t names hs ++ outs)
fit_left u t [] hs outs h o = o
fit_left u t (n ∷ names) [] outs h o = o
fit_left u t (n ∷ names) (x ∷ hs) outs h o = elim (takes t n) as (λ (b : Bool). AllFit u (cond b (of_left t names hs) (x ∷ of_left t names hs) ++ outs)) [
  | true ↦ fit_left u t names hs outs h.1 o
  | false ↦ (h.0, fit_left u t names hs outs h.1 o)
]

rise_left : (a : ℕ) (t : Takes) (names : List Target) (hs outs : List Hist) → RiseAbove a hs → RiseAbove a outs → RiseAbove a (of_left t names hs ++ outs)
rise_left a t [] hs outs h o = o
rise_left a t (n ∷ names) [] outs h o = o
rise_left a t (n ∷ names) (x ∷ hs) outs h o = elim (takes t n) as (λ (b : Bool). RiseAbove a (cond b (of_left t names hs) (x ∷ of_left t names hs) ++ outs)) [
  | true ↦ rise_left a t names hs outs h.1 o
  | false ↦ (h.0, rise_left a t names hs outs h.1 o)
]

outputs_sound : (a : ℕ) (h : Hist) (t : Takes) (names : List Target) (hs outs : List Hist) → AreSound a (h ∷ hs) → AreSound a outs → AreSound a (h ∷ of_left t names hs ++ outs)
outputs_sound a h t names hs outs s o = record {
  fit = λ u up. ((s.fit u up).0, fit_left u t names hs outs (s.fit u up).1 (o.fit u up));
  rise = (s.rise.0, rise_left a t names hs outs s.rise.1 o.rise);
}

-- ---- stores

none_sound : (a : ℕ) → AreSound a []
none_sound a = record { fit = λ u up. tt; rise = tt }

module _ (q : List ℕ) (t : Takes) (outputs : List Store) (names : List Target) (xs : List Store) where
  new_hists : (x : Store) → hists q (x ∷ of_left t names xs ++ outputs) ≡ hist_in q x ∷ of_left t names (hists q xs) ++ hists q outputs
  new_hists x = ap (λ l. hist_in q x ∷ l) (map-append (hist_in q) (of_left t names xs) outputs ∙ ap (λ l. l ++ hists q outputs) (left_mapped (hist_in q) t names xs))

-- outputs behind what is left show the same
pub over_shows : (a : ℕ) (q : List ℕ) (t : Takes) (outputs : List Store) (names : List Target) (stores : List Store) (whole : Hist) → length names ≡ length stores
    → AreAlike a (hists q (of_taken t (drop 1 names) (drop 1 stores))) (hists q outputs) → ShowsKey a (hists q stores) whole → ShowsKey a (hists q (over_to t outputs names stores)) whole
over_shows a q t outputs [] [] whole long alike s = s
over_shows a q t outputs [] (x ∷ xs) whole long alike s = absurd (omega arith)
over_shows a q t outputs (n ∷ names) [] whole long alike s = s
over_shows a q t outputs (n ∷ names) (x ∷ xs) whole long alike s =
    subst (λ hs. ShowsKey a hs whole) (sym (new_hists q t outputs names xs x))
    (outputs_show a (hist_in q x) t names (hists q xs) (hists q outputs) whole (let e = length-map xs (hist_in q) in omega arith) s (subst (λ hs. AreAlike a hs (hists q outputs)) (taken_mapped (hist_in q) t names xs) alike))

pub over_sound : (a : ℕ) (q : List ℕ) (t : Takes) (outputs : List Store) (names : List Target) (stores : List Store) → AreSound a (hists q outputs) → AreSound a (hists q stores) → AreSound a (hists q (over_to t outputs names stores))
over_sound a q t outputs [] stores o s = none_sound a
over_sound a q t outputs (n ∷ names) [] o s = s
over_sound a q t outputs (n ∷ names) (x ∷ xs) o s =
    subst (AreSound a) (sym (new_hists q t outputs names xs x)) (outputs_sound a (hist_in q x) t names (hists q xs) (hists q outputs) s o)

-- a store with no row shows nothing
pub vacant_shows : (a : ℕ) (hs : List Hist) (whole : Hist) → ShowsKey a hs whole → ShowsKey a (never ∷ hs) whole
vacant_shows a hs whole s = record { rows = s.rows; steps = s.steps; one_row = s.one_row; one_step = s.one_step }

pub vacant_sound : (a : ℕ) (hs : List Hist) → AreSound a hs → AreSound a (never ∷ hs)
vacant_sound a hs s = record { fit = λ t up. (tt, s.fit t up); rise = (tt, s.rise) }
