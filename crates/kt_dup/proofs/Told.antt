-- The missed changes of a split, as one list.
use Rattle.std.proofs.Common.{◌≡◌, ℕ, ◌≤◌, List, [], ◌∷◌, ◌++◌, Bool, true, false, ◌&&◌, cond, refl, sym, ap, ◌∙◌, map}
use Rattle.std.specs.Prelude.{unwrap_or, Some}
use Rattle.std.specs.List.{filter}
use Rattle.std.specs.Ordering.{is_eq, is_lt, eq_by_cmp, ordering_reverse}
use Rattle.std.specs.declared.cmp.Ordering.{Ordering}
use Rattle.std.specs.declared.cmp.Ordering.TheVariants.{Less, Equal, Greater}
use Rattle.std.specs.FinMap.Entries.{find, below_all, is_sorted}
use Rattle.std.proofs.lemmas.Cmp.{nat_list_cmp_total}
use Rattle.std.proofs.lemmas.List.Elements.{filter-append}
use Rattle.kt_history.specs.Rows.{key_cmp}
use Rattle.kt_history.specs.Stores.{Steps, Hist, Store, never, hist_in, key_change}
use Rattle.kt_histlaws.specs.Fitting.{steps_above}
use Rattle.kt_histlaws.proofs.Pending.{itself}
use Rattle.kt_dup.specs.Missed.{changes_over, first_above, is_before, is_missed, listed, missed_in, missed_of}
use Rattle.kt_dup.specs.Split.{AreSplit}
use Rattle.kt_dup.proofs.Between.{told_by_split}

and_parts : (a b : Bool) → (a && b) ≡ true → (a ≡ true) × (b ≡ true)
and_parts true b h = (refl, h)
and_parts false b h = absurd (cc)

-- in a store whose keys rise each row is the one under its key
abbrev pub EachFound : Store → Store → Type 0
EachFound [] whole = Unit {0}
EachFound (r ∷ rows) whole = (hist_in r.0 whole ≡ r.1) × EachFound rows whole

above_is_other : (x k : List ℕ) → is_lt (key_cmp k x) ≡ true → eq_by_cmp key_cmp x k ≡ false
above_is_other x k lt = ap is_eq (nat_list_cmp_total.antisymm x k) ∙ one (key_cmp k x) lt
  where
    one : (o : Ordering) → is_lt o ≡ true → is_eq (ordering_reverse o) ≡ false
    one Less lt = refl
    one Equal lt = absurd (cc)
    one Greater lt = absurd (cc)

later_found : (k : List ℕ) (h : Hist) (whole rows : Store) → below_all key_cmp k rows ≡ true → EachFound rows whole → EachFound rows ((k, h) ∷ whole)
later_found k h whole [] below found = tt
later_found k h whole (r ∷ rows) below found =
    let parts = and_parts (is_lt (key_cmp k r.0)) (below_all key_cmp k rows) below in
    (ap (λ b. unwrap_or (cond b (Some h) (find key_cmp r.0 whole)) never) (above_is_other r.0 k parts.0) ∙ found.0, later_found k h whole rows parts.1 found.1)

all_found : (store : Store) → is_sorted key_cmp store ≡ true → EachFound store store
all_found [] sorted = tt
all_found (r ∷ store) sorted =
    let parts = and_parts (below_all key_cmp r.0 store) (is_sorted key_cmp store) sorted in
    (ap (λ b. unwrap_or (cond b (Some r.1) (find key_cmp r.0 store)) never) (itself r.0), later_found r.0 r.1 store store parts.0 (all_found store parts.1))

-- row by row
filter_keyed : (bound : ℕ) (outs : Store) (q : List ℕ) (xs : Steps)
    → filter (is_missed bound outs) (map (key_change q) xs) ≡ map (key_change q) (filter (λ c. is_before c.0 (first_above bound (hist_in q outs).steps)) xs)
filter_keyed bound outs q [] = refl
filter_keyed bound outs q (c ∷ xs) = one (is_before c.0 (first_above bound (hist_in q outs).steps)) (filter_keyed bound outs q xs)
  where
    one : (b : Bool) → filter (is_missed bound outs) (map (key_change q) xs) ≡ map (key_change q) (filter (λ c. is_before c.0 (first_above bound (hist_in q outs).steps)) xs)
        → cond b (key_change q c ∷ filter (is_missed bound outs) (map (key_change q) xs)) (filter (is_missed bound outs) (map (key_change q) xs))
        ≡ map (key_change q) (cond b (c ∷ filter (λ c. is_before c.0 (first_above bound (hist_in q outs).steps)) xs) (filter (λ c. is_before c.0 (first_above bound (hist_in q outs).steps)) xs))
    one true e = ap (λ l. key_change q c ∷ l) e
    one false e = e

told_rows : (j bound : ℕ) (missed : List ℕ → Steps) (ins outs rows : Store) → j ≤ bound → AreSplit j bound missed ins outs → EachFound rows ins
    → filter (is_missed bound outs) (changes_over bound rows) ≡ listed missed rows
told_rows j bound missed ins outs [] le s found = refl
told_rows j bound missed ins outs (r ∷ rows) le s found =
    let here : missed_of bound r.1.steps (hist_in r.0 outs).steps ≡ missed r.0 =
    ap (λ (h : Hist). missed_of bound h.steps (hist_in r.0 outs).steps) (sym found.0) ∙ told_by_split j bound (missed r.0) (hist_in r.0 ins) (hist_in r.0 outs) le (s r.0) in
    filter-append (is_missed bound outs) (map (key_change r.0) (steps_above bound r.1.steps)) (changes_over bound rows)
    ∙ ap (λ l. l ++ filter (is_missed bound outs) (changes_over bound rows)) (filter_keyed bound outs r.0 (steps_above bound r.1.steps) ∙ ap (map (key_change r.0)) here)
    ∙ ap (λ l. map (key_change r.0) (missed r.0) ++ l) (told_rows j bound missed ins outs rows le s found.1)

pub list_told : (j bound : ℕ) (missed : List ℕ → Steps) (ins outs : Store) → j ≤ bound → is_sorted key_cmp ins ≡ true → AreSplit j bound missed ins outs
    → missed_in bound ins outs ≡ listed missed ins
list_told j bound missed ins outs le sorted s = told_rows j bound missed ins outs ins le s (all_found ins sorted)
