-- What the split tells of the missed changes.
use Rattle.std.proofs.Common.{◌≡◌, ℕ, ◌<◌, ◌≤◌, List, [], ◌∷◌, ◌++◌, Some, None, Option, refl, cond, sym, ap, ◌∙◌, arith, map, append_assoc}
use Rattle.std.specs.Prelude.{nat_lt}
use Rattle.std.specs.List.{filter}
use Rattle.std.proofs.lemmas.Bool.{lt-ltb, le-ltb}
use Rattle.std.proofs.lemmas.List.{append-nil}
use Rattle.std.proofs.lemmas.List.Elements.{filter-append}
use Rattle.kt_history.specs.declared.change.Change.{Change}
use Rattle.kt_history.specs.Stores.{Steps, Hist, step_at, step_of}
use Rattle.kt_histlaws.specs.Fitting.{Rises, steps_above}
use Rattle.kt_histlaws.specs.Histories.{or_else, first_some}
use Rattle.kt_dup.specs.Laws.{a_split_tells_what_is_missed}
use Rattle.kt_dup.specs.Missed.{first_time, is_before, missed_of}
use Rattle.kt_dup.specs.Split.{AllLack}
use Rattle.kt_dup.proofs.Lists.{rises_behind, all_stay, none_stays, step_above, same_changes}

one_some : {A : Type 0} (x : Option A) → or_else x None ≡ x
one_some None = refl
one_some (Some x) = refl

-- changes before a time, and others from there on
before_all : (xs : Steps) → filter (λ c. is_before c.0 None) xs ≡ xs
before_all [] = refl
before_all (x ∷ xs) = ap (λ rest. x ∷ rest) (before_all xs)

before_first : (low ts : ℕ) (c : Change) (xs ys : Steps) → Rises low (xs ++ (ts, c) ∷ ys) → filter (λ x. is_before x.0 (Some ts)) xs ≡ xs
before_first low ts c [] ys r = refl
before_first low ts c (x ∷ xs) ys r =
    ap (λ b. cond b (x ∷ filter (λ d. is_before d.0 (Some ts)) xs) (filter (λ d. is_before d.0 (Some ts)) xs)) (lt-ltb x.0 ts (below x.0 xs r.1)) ∙ ap (λ rest. x ∷ rest) (before_first x.0 ts c xs ys r.1)
  where
    below : (n : ℕ) (xs : Steps) → Rises n (xs ++ (ts, c) ∷ ys) → n < ts
    below n [] r = r.0
    below n (x ∷ xs) r = let rest = below x.0 xs r.1 in omega (arith, r.0)

none_before : (low ts : ℕ) (ys : Steps) → ts ≤ low → Rises low ys → filter (λ x. is_before x.0 (Some ts)) ys ≡ []
none_before low ts [] le r = refl
none_before low ts (y ∷ ys) le r =
    ap (λ b. cond b (y ∷ filter (λ d. is_before d.0 (Some ts)) ys) (filter (λ d. is_before d.0 (Some ts)) ys)) (le-ltb y.0 ts (omega (arith, r.0))) ∙ none_before y.0 ts ys (omega (arith, r.0)) r.1

cut_at : (bound : ℕ) (missed doubled : Steps) → Rises bound (missed ++ doubled) → filter (λ c. is_before c.0 (first_time doubled)) (missed ++ doubled) ≡ missed
cut_at bound missed [] r = ap (λ xs. filter (λ (c : ℕ × Change). is_before c.0 None) xs) (append-nil missed) ∙ before_all missed
cut_at bound missed (d ∷ doubled) r =
    filter-append (λ (x : ℕ × Change). is_before x.0 (Some d.0)) missed (d ∷ doubled)
    ∙ ap (λ xs. xs ++ filter (λ x. is_before x.0 (Some d.0)) (d ∷ doubled)) (before_first bound d.0 d.1 missed doubled r)
    ∙ ap (λ xs. missed ++ xs) (ap (λ b. cond b (d ∷ filter (λ x. is_before x.0 (Some d.0)) doubled) (filter (λ x. is_before x.0 (Some d.0)) doubled)) (le-ltb d.0 d.0 (omega arith))
    ∙ none_before d.0 d.0 doubled (omega arith) (rises_behind bound missed (d ∷ doubled) r).1)
    ∙ append-nil missed

pub told_by_split : a_split_tells_what_is_missed
told_by_split j bound missed into out le s = one s.full s.lack s.alike.steps
  where
    one : (full : List Hist) → AllLack bound (missed ∷ []) (out ∷ []) full → ((t : ℕ) → j < t → first_some (map (step_of t) (into ∷ [])) ≡ first_some (map (step_of t) full))
        → missed_of bound into.steps out.steps ≡ missed
    one [] l same = absurd l
    one (full ∷ g ∷ more) l same = absurd l.1
    one (full ∷ []) l same =
        let f = l.0.filled in
        let later : steps_above bound (missed ++ f.doubled) ≡ missed ++ f.doubled = all_stay bound bound (missed ++ f.doubled) (omega arith) l.0.later in
        let full_above : steps_above bound full.steps ≡ missed ++ f.doubled =
        ap (steps_above bound) (f.full_is ∙ append_assoc f.written missed f.doubled) ∙ filter-append (λ (x : ℕ × Change). nat_lt bound x.0) f.written (missed ++ f.doubled)
        ∙ ap (λ xs. xs ++ steps_above bound (missed ++ f.doubled)) (none_stays bound f.written l.0.written) ∙ later in
        let out_above : steps_above bound out.steps ≡ f.doubled =
        ap (steps_above bound) f.out_is ∙ filter-append (λ (x : ℕ × Change). nat_lt bound x.0) f.written f.doubled
        ∙ ap (λ xs. xs ++ steps_above bound f.doubled) (none_stays bound f.written l.0.written)
        ∙ all_stay bound bound f.doubled (omega arith) (rises_behind bound missed f.doubled l.0.later) in
        let in_above : steps_above bound into.steps ≡ missed ++ f.doubled =
        same_changes bound (steps_above bound into.steps) (missed ++ f.doubled) s.rise.0 l.0.later
        (λ t lt. step_above bound t into.steps lt ∙ sym (one_some (step_at t into.steps)) ∙ same t (omega arith) ∙ one_some (step_at t full.steps) ∙ sym (step_above bound t full.steps lt) ∙ ap (step_at t) full_above) in
        ap (λ o. filter (λ (c : ℕ × Change). is_before c.0 (first_time o)) (steps_above bound into.steps)) out_above
        ∙ ap (filter (λ (c : ℕ × Change). is_before c.0 (first_time f.doubled))) in_above ∙ cut_at bound missed f.doubled l.0.later
