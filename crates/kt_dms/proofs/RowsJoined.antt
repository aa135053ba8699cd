-- The changes of each row, where one has joined all changes.
use Rattle.std.proofs.Common.{◌≡◌, ◌≢◌, ◌<◌, ◌≤◌, ℕ, inl, inr, Bool, true, false, cond, List, [], ◌∷◌, ◌++◌, refl, sym, ap, subst, ◌∙◌, arith}
use Rattle.std.specs.Prelude.{nat_lt, ◌==◌, ◌&&◌, ◌||◌}
use Rattle.std.specs.List.{AllByRecursion}
use Rattle.std.proofs.lemmas.Bool.{false≢true}
use Rattle.kt_history.specs.declared.changes.Delta.{Delta}
use Rattle.kt_history.specs.Stores.{Steps, Under}
use Rattle.kt_key.proofs.Numbers.{cases_cmp}
use Rattle.kt_dms.specs.Stores.{steps_for, is_before, AreSorted, with_delta}
use Rattle.kt_dms.proofs.KeyOrder.{lt_is, not_lt_is, eq_is, not_eq_is}

either : (a b : Delta) (x y : Bool) → nat_lt a.ordinal b.ordinal ≡ x → (a.ordinal == b.ordinal) ≡ y → is_before a b ≡ (x || (y && nat_lt a.ts b.ts))
either a b x y e f = ap (λ z. z || ((a.ordinal == b.ordinal) && nat_lt a.ts b.ts)) e ∙ ap (λ z. x || (z && nat_lt a.ts b.ts)) f

-- a change before another is not of a later row
not_later : (a b : Delta) → is_before a b ≡ true → a.ordinal ≤ b.ordinal
not_later a b h = elim (cases_cmp a.ordinal b.ordinal) [
  | inl less ↦ omega arith
  | inr rest ↦ elim rest [
    | inl same ↦ omega arith
    | inr more ↦ absurd (false≢true (sym (either a b false false (not_lt_is a.ordinal b.ordinal (omega arith)) (not_eq_is a.ordinal b.ordinal (λ e. absurd (omega arith)))) ∙ h))
  ]
]

step_of : (n : ℕ) (d : Delta) (steps : Steps) → d.ordinal ≢ n → cond (d.ordinal == n) ((d.ts, d.change) ∷ steps) steps ≡ steps
step_of n d steps ne = ap (λ b. cond b ((d.ts, d.change) ∷ steps) steps) (not_eq_is d.ordinal n ne)

own_step : (n : ℕ) (d : Delta) (steps : Steps) → d.ordinal ≡ n → cond (d.ordinal == n) ((d.ts, d.change) ∷ steps) steps ≡ (d.ts, d.change) ∷ steps
own_step n d steps e = ap (λ b. cond b ((d.ts, d.change) ∷ steps) steps) (eq_is d.ordinal n e)

none_past : (n : ℕ) (e : Delta) (deltas : List Delta) → n < e.ordinal → AllByRecursion (λ f. is_before e f ≡ true) deltas → steps_for n deltas ≡ []
none_past n e [] past h = refl
none_past n e (f ∷ deltas) past h = let low = not_later e f h.0 in step_of n f (steps_for n deltas) (λ same. absurd (omega arith)) ∙ none_past n e deltas past h.1

-- what lies under a time does so without its first change
under_rest : (n ts : ℕ) (e : Delta) (deltas : List Delta) → Under ts (steps_for n (e ∷ deltas)) → Under ts (steps_for n deltas)
under_rest n ts e deltas h = by (e.ordinal == n) h
  where
    by : (b : Bool) → Under ts (cond b ((e.ts, e.change) ∷ steps_for n deltas) (steps_for n deltas)) → Under ts (steps_for n deltas)
    by true h = h.1
    by false h = h

behind : (n : ℕ) (d e : Delta) (deltas : List Delta) → n ≡ d.ordinal → Under d.ts (steps_for n (e ∷ deltas)) → is_before e d ≡ false → AllByRecursion (λ f. is_before e f ≡ true) deltas → steps_for n (e ∷ deltas) ≡ []
behind n d e deltas is under no_ sorted = elim (cases_cmp e.ordinal n) [
  | inl less ↦ absurd (false≢true (sym no_ ∙ ap (λ b. b || ((e.ordinal == d.ordinal) && nat_lt e.ts d.ts)) (lt_is e.ordinal d.ordinal (omega arith))))
  | inr rest ↦ elim rest [
    | inl same ↦
        let first = (subst (Under d.ts) (own_step n e (steps_for n deltas) same) under).0 in
        absurd (false≢true (sym no_ ∙ either e d false true (not_lt_is e.ordinal d.ordinal (omega arith)) (eq_is e.ordinal d.ordinal (same ∙ is)) ∙ lt_is e.ts d.ts first))
    | inr more ↦ step_of n e (steps_for n deltas) (λ same. absurd (omega arith)) ∙ none_past n e deltas more sorted
  ]
]

-- the changes of its row are as before, with this one behind them
pub joins_row : (d : Delta) (deltas : List Delta) → AreSorted deltas → Under d.ts (steps_for d.ordinal deltas) → steps_for d.ordinal (with_delta d deltas) ≡ steps_for d.ordinal deltas ++ (d.ts, d.change) ∷ []
joins_row d [] sorted under = own_step d.ordinal d [] refl
joins_row d (e ∷ deltas) sorted under = by (is_before e d) refl (joins_row d deltas sorted.1 (under_rest d.ordinal d.ts e deltas under))
  where
    front : (b : Bool) → steps_for d.ordinal (with_delta d deltas) ≡ steps_for d.ordinal deltas ++ (d.ts, d.change) ∷ []
        → cond b ((e.ts, e.change) ∷ steps_for d.ordinal (with_delta d deltas)) (steps_for d.ordinal (with_delta d deltas)) ≡ cond b ((e.ts, e.change) ∷ steps_for d.ordinal deltas) (steps_for d.ordinal deltas) ++ (d.ts, d.change) ∷ []
    front true h = ap (λ steps. (e.ts, e.change) ∷ steps) h
    front false h = h

    by : (b : Bool) → is_before e d ≡ b → steps_for d.ordinal (with_delta d deltas) ≡ steps_for d.ordinal deltas ++ (d.ts, d.change) ∷ []
        → steps_for d.ordinal (cond b (e ∷ with_delta d deltas) (d ∷ e ∷ deltas)) ≡ steps_for d.ordinal (e ∷ deltas) ++ (d.ts, d.change) ∷ []
    by true is more = front (e.ordinal == d.ordinal) more
    by false is more = own_step d.ordinal d (steps_for d.ordinal (e ∷ deltas)) refl ∙ (let none = behind d.ordinal d e deltas refl under is sorted.0 in ap (λ steps. (d.ts, d.change) ∷ steps) none ∙ ap (λ steps. steps ++ (d.ts, d.change) ∷ []) (sym none))

-- and those of every other row are as before
pub leaves_rows : (n : ℕ) (d : Delta) (deltas : List Delta) → d.ordinal ≢ n → steps_for n (with_delta d deltas) ≡ steps_for n deltas
leaves_rows n d [] ne = step_of n d [] ne
leaves_rows n d (e ∷ deltas) ne = by (is_before e d) (leaves_rows n d deltas ne)
  where
    front : (b : Bool) → steps_for n (with_delta d deltas) ≡ steps_for n deltas → cond b ((e.ts, e.change) ∷ steps_for n (with_delta d deltas)) (steps_for n (with_delta d deltas)) ≡ cond b ((e.ts, e.change) ∷ steps_for n deltas) (steps_for n deltas)
    front true h = ap (λ steps. (e.ts, e.change) ∷ steps) h
    front false h = h

    by : (b : Bool) → steps_for n (with_delta d deltas) ≡ steps_for n deltas → steps_for n (cond b (e ∷ with_delta d deltas) (d ∷ e ∷ deltas)) ≡ steps_for n (e ∷ deltas)
    by true more = front (e.ordinal == n) more
    by false more = step_of n d (steps_for n (e ∷ deltas)) ne
