-- Changes go on to fit.
use Rattle.std.proofs.Common.{◌≡◌, ℕ, zero, suc, ◌-◌, ◌<◌, ◌≤◌, List, [], ◌∷◌, ◌++◌, Some, None, Option, refl, true, false, Bool, cond, sym, ap, ◌∙◌, subst, arith, map, inl, inr}
use Rattle.std.specs.Prelude.{nat_lt}
use Rattle.std.proofs.lemmas.List.Elements.{filter-append}
use Rattle.std.proofs.lemmas.Bool.{cases_lt, cases_eq, lt-ltb, le-ltb, ltb-false}
use Rattle.kt_history.specs.declared.change.Change.{Change}
use Rattle.kt_history.specs.declared.operation.OpKind.{OpKind}
use Rattle.kt_history.specs.declared.operation.OpKind.TheVariants.{Insert, Upsert, Update, Delete, InsertIgnore, UpdateIgnore, DeleteIgnore}
use Rattle.kt_history.specs.Rows.{Row, fits}
use Rattle.kt_history.specs.Operations.{effect}
use Rattle.kt_histlaws.specs.Histories.{on_nth, or_else, first_some, Alone, nth_option}
use Rattle.kt_history.specs.Stores.{Steps, Hist, row_of, step_of, push, Under}
use Rattle.kt_histlaws.specs.Flights.{AllUnder}
use Rattle.kt_histlaws.specs.Fitting.{IfFits, AllFit, FitAbove, steps_above, Rises, RiseAbove, AreSound}
use Rattle.kt_histlaws.proofs.OneKey.{row-push_below, step-push_other, step-push_at}
use Rattle.kt_histlaws.proofs.Applying.{none_under, row-settled}

the_change : (x y : Change) → Some x ≡ Some y → x ≡ y
the_change x y e = cc

-- what an operation does to a row fits that row
pub effect_fits : (fill cells : Row) (kind : OpKind) (row : Option Row) (c : Change) → (effect fill kind cells row).0 ≡ Some c → fits c row ≡ true
effect_fits fill cells Insert None c e = subst (λ x. fits x None ≡ true) (the_change _ c e) refl
effect_fits fill cells Insert (Some row) c e = cc
effect_fits fill cells Upsert None c e = subst (λ x. fits x None ≡ true) (the_change _ c e) refl
effect_fits fill cells Upsert (Some row) c e = subst (λ x. fits x (Some row) ≡ true) (the_change _ c e) refl
effect_fits fill cells Update None c e = cc
effect_fits fill cells Update (Some row) c e = subst (λ x. fits x (Some row) ≡ true) (the_change _ c e) refl
effect_fits fill cells Delete None c e = cc
effect_fits fill cells Delete (Some row) c e = subst (λ x. fits x (Some row) ≡ true) (the_change _ c e) refl
effect_fits fill cells InsertIgnore None c e = subst (λ x. fits x None ≡ true) (the_change _ c e) refl
effect_fits fill cells InsertIgnore (Some row) c e = cc
effect_fits fill cells UpdateIgnore None c e = cc
effect_fits fill cells UpdateIgnore (Some row) c e = subst (λ x. fits x (Some row) ≡ true) (the_change _ c e) refl
effect_fits fill cells DeleteIgnore None c e = cc
effect_fits fill cells DeleteIgnore (Some row) c e = subst (λ x. fits x (Some row) ≡ true) (the_change _ c e) refl

-- where one alone may be some, it is the first
pub alone_first : {A : Type 0} (i : ℕ) (xs : List (Option A)) → Alone i xs → nth_option i xs ≡ first_some xs
alone_first i [] h = absurd h
alone_first zero (None ∷ xs) h = sym h
alone_first zero (Some x ∷ xs) h = refl
alone_first (suc i) (x ∷ xs) h = alone_first i xs h.1 ∙ ap (λ y. or_else y (first_some xs)) (sym h.0)

one_fits : (t ts : ℕ) (c : Change) (h : Hist) → IfFits (step_of t h) (row_of (t - 1) h) → Under ts h.steps → 0 < ts → fits c (row_of ts h) ≡ true → IfFits (step_of t (push ts c h)) (row_of (t - 1) (push ts c h))
one_fits t ts c h old un pos fit = elim (cases_eq ts t) [
  | inl same ↦ subst (λ u. IfFits (step_of u (push ts c h)) (row_of (u - 1) (push ts c h))) same
      (subst (λ o. IfFits o (row_of (ts - 1) (push ts c h))) (sym (step-push_at ts c h ∙ ap (λ o. or_else o (Some c)) (none_under ts ts h.steps un (omega arith))))
      (ap (fits c) (row-push_below (ts - 1) ts c h (omega arith) ∙ row-settled ts (ts - 1) ts h.steps h.first un (omega arith) (omega arith)) ∙ fit))
  | inr other ↦ elim (cases_lt t ts) [
    | inl before ↦ subst (λ o. IfFits o (row_of (t - 1) (push ts c h))) (sym (step-push_other t ts c h other)) (subst (IfFits (step_of t h)) (sym (row-push_below (t - 1) ts c h (omega arith))) old)
    | inr from ↦ subst (λ o. IfFits o (row_of (t - 1) (push ts c h))) (sym (step-push_other t ts c h other ∙ none_under ts t h.steps un from)) tt
  ]
]

all_fit : (t ts i : ℕ) (c : Change) (hs : List Hist) → AllFit t hs → AllUnder ts hs → 0 < ts → fits c (nth_option i (map (row_of ts) hs)) ≡ true → AllFit t (on_nth i (push ts c) hs)
all_fit t ts i c [] old un pos fit = tt
all_fit t ts zero c (h ∷ hs) old un pos fit = (one_fits t ts c h old.0 un.0 pos fit, old.1)
all_fit t ts (suc i) c (h ∷ hs) old un pos fit = (old.0, all_fit t ts i c hs old.1 un.1 pos fit)

-- a change that an operation gives on the row that the stores have fits in the store that it reaches
pub fit_push : (a ts i : ℕ) (fill cells : Row) (kind : OpKind) (c : Change) (hs : List Hist) → FitAbove a hs → AllUnder ts hs → a < ts → Alone i (map (row_of ts) hs)
    → (effect fill kind cells (first_some (map (row_of ts) hs))).0 ≡ Some c → FitAbove a (on_nth i (push ts c) hs)
fit_push a ts i fill cells kind c hs old un lt alone is t up =
    all_fit t ts i c hs (old t up) un (omega arith) (ap (fits c) (alone_first i (map (row_of ts) hs) alone) ∙ effect_fits fill cells kind (first_some (map (row_of ts) hs)) c is)

-- changes go on to rise

rises_push : (low a ts : ℕ) (c : Change) (steps : Steps) → Rises low (steps_above a steps) → Under ts steps → low < ts → Rises low (steps_above a steps ++ (ts, c) ∷ [])
rises_push low a ts c [] r un lt = (lt, tt)
rises_push low a ts c (d ∷ steps) r un lt = one (nat_lt a d.0) (λ k h l. rises_push k a ts c steps h un.1 l) r
  where
    one : (b : Bool) → ((k : ℕ) → Rises k (steps_above a steps) → k < ts → Rises k (steps_above a steps ++ (ts, c) ∷ [])) → Rises low (cond b (d ∷ steps_above a steps) (steps_above a steps)) → Rises low (cond b (d ∷ steps_above a steps) (steps_above a steps) ++ (ts, c) ∷ [])
    one true rest h = (h.0, rest d.0 h.1 un.0)
    one false rest h = rest low h lt

pushed_above : (a ts : ℕ) (c : Change) (steps : Steps) → a < ts → steps_above a (steps ++ (ts, c) ∷ []) ≡ steps_above a steps ++ (ts, c) ∷ []
pushed_above a ts c steps lt = filter-append (λ (x : ℕ × Change). nat_lt a x.0) steps ((ts, c) ∷ []) ∙ ap (λ b. steps_above a steps ++ cond b ((ts, c) ∷ []) []) (lt-ltb a ts lt)

rise_push : (a ts i : ℕ) (c : Change) (hs : List Hist) → RiseAbove a hs → AllUnder ts hs → a < ts → RiseAbove a (on_nth i (push ts c) hs)
rise_push a ts i c [] r un lt = tt
rise_push a ts zero c (h ∷ hs) r un lt = (subst (Rises a) (sym (pushed_above a ts c h.steps lt)) (rises_push a a ts c h.steps r.0 un.0 lt), r.1)
rise_push a ts (suc i) c (h ∷ hs) r un lt = (r.0, rise_push a ts i c hs r.1 un.1 lt)

pub sound_push : (a ts i : ℕ) (fill cells : Row) (kind : OpKind) (c : Change) (hs : List Hist) → AreSound a hs → AllUnder ts hs → a < ts → Alone i (map (row_of ts) hs) → (effect fill kind cells (first_some (map (row_of ts) hs))).0 ≡ Some c
    → AreSound a (on_nth i (push ts c) hs)
sound_push a ts i fill cells kind c hs old un lt alone is = record { fit = fit_push a ts i fill cells kind c hs old.fit un lt alone is; rise = rise_push a ts i c hs old.rise un lt }

-- from a later mark on less is asked

-- above what has risen past b, both keep the same
rises_past : (n a b : ℕ) (steps : Steps) → a ≤ b → b ≤ n → Rises n (steps_above a steps) → Rises n (steps_above b steps)
rises_past n a b [] le low r = tt
rises_past n a b (d ∷ steps) le low r = one (nat_lt a d.0) refl r (λ k l h. rises_past k a b steps le l h)
  where
    one : (k : Bool) → nat_lt a d.0 ≡ k → Rises n (cond k (d ∷ steps_above a steps) (steps_above a steps)) → ((m : ℕ) → b ≤ m → Rises m (steps_above a steps) → Rises m (steps_above b steps))
        → Rises n (cond (nat_lt b d.0) (d ∷ steps_above b steps) (steps_above b steps))
    one true e h rest = subst (λ k. Rises n (cond k (d ∷ steps_above b steps) (steps_above b steps))) (sym (lt-ltb b d.0 (omega (arith, h.0)))) (h.0, rest d.0 (omega (arith, h.0)) h.1)
    one false e h rest = subst (λ k. Rises n (cond k (d ∷ steps_above b steps) (steps_above b steps))) (sym (le-ltb b d.0 (omega (arith, ltb-false a d.0 e)))) (rest n low h)

rises_from : (low a b : ℕ) (steps : Steps) → a ≤ b → low ≤ b → Rises low (steps_above a steps) → Rises b (steps_above b steps)
rises_from low a b [] le lb r = tt
rises_from low a b (d ∷ steps) le lb r = one (nat_lt a d.0) refl r (λ k l h. rises_from k a b steps le l h) (λ k l h. rises_past k a b steps le l h)
  where
    one : (k : Bool) → nat_lt a d.0 ≡ k → Rises low (cond k (d ∷ steps_above a steps) (steps_above a steps)) → ((n : ℕ) → n ≤ b → Rises n (steps_above a steps) → Rises b (steps_above b steps))
        → ((n : ℕ) → b ≤ n → Rises n (steps_above a steps) → Rises n (steps_above b steps)) → Rises b (cond (nat_lt b d.0) (d ∷ steps_above b steps) (steps_above b steps))
    one true e h rest past = elim (cases_lt b d.0) [
      | inl above ↦ subst (λ k. Rises b (cond k (d ∷ steps_above b steps) (steps_above b steps))) (sym (lt-ltb b d.0 above)) (above, past d.0 (omega arith) h.1)
      | inr below ↦ subst (λ k. Rises b (cond k (d ∷ steps_above b steps) (steps_above b steps))) (sym (le-ltb b d.0 below)) (rest d.0 below h.1)
    ]
    one false e h rest past = subst (λ k. Rises b (cond k (d ∷ steps_above b steps) (steps_above b steps))) (sym (le-ltb b d.0 (omega (arith, ltb-false a d.0 e)))) (rest low lb h)

rise_raised : (a b : ℕ) (hs : List Hist) → a ≤ b → RiseAbove a hs → RiseAbove b hs
rise_raised a b [] le r = tt
rise_raised a b (h ∷ hs) le r = (rises_from a a b h.steps le le r.0, rise_raised a b hs le r.1)

pub sound_raised : (a b : ℕ) (hs : List Hist) → a ≤ b → AreSound a hs → AreSound b hs
sound_raised a b hs le s = record { fit = λ t up. s.fit t (omega arith); rise = rise_raised a b hs le s.rise }
