-- The changes of the stores in memory, with inserts filled or as the stores keep them.
use Rattle.std.proofs.Common.{◌≡◌, ◌+◌, ◌-◌, ℕ, zero, suc, Bool, true, false, List, [], ◌∷◌, ◌++◌, map, take, Some, None, refl, sym, ap, ◌∙◌, arith, cond}
use Rattle.std.specs.Prelude.{slice_get, nat_le}
use Rattle.std.specs.List.{filter}
use Rattle.std.specs.Option.{option_map}
use Rattle.std.proofs.lemmas.List.{map-append}
use Rattle.kt_history.specs.declared.change.Change.{Change}
use Rattle.kt_history.specs.declared.changes.KeyChange.{KeyChange}
use Rattle.kt_history.specs.Rows.{Row}
use Rattle.kt_history.specs.Stores.{Steps, Store, changes_upto, row_changes}
use Rattle.kt_tablet.specs.Filling.{filled_change, filled, all_told}
use Rattle.kt_tablet.specs.Jobs.{filled_of}

abbrev filled_step : Row → ℕ × Change → ℕ × Change
filled_step fill c = (c.0, filled_change fill c.1)

filter_filled : (fill : Row) (t : ℕ) (steps : Steps) → filter (λ (c : ℕ × Change). nat_le c.0 t) (map (filled_step fill) steps) ≡ map (filled_step fill) (filter (λ (c : ℕ × Change). nat_le c.0 t) steps)
filter_filled fill t [] = refl
filter_filled fill t (c ∷ steps) = elim (nat_le c.0 t) as (λ (b : Bool). cond b (filled_step fill c ∷ filter (λ (d : ℕ × Change). nat_le d.0 t) (map (filled_step fill) steps)) (filter (λ (d : ℕ × Change). nat_le d.0 t) (map (filled_step fill) steps))
    ≡ map (filled_step fill) (cond b (c ∷ filter (λ (d : ℕ × Change). nat_le d.0 t) steps) (filter (λ (d : ℕ × Change). nat_le d.0 t) steps))) [
      | true ↦ ap (λ (l : Steps). filled_step fill c ∷ l) (filter_filled fill t steps)
      | false ↦ filter_filled fill t steps
    ]

keyed_filled : (fill : Row) (q : List ℕ) (steps : Steps) → map (λ (c : ℕ × Change). record { key = q; ts = c.0; change = c.1 }) (map (filled_step fill) steps) ≡ map (filled_of fill) (map (λ (c : ℕ × Change). record { key = q; ts = c.0; change = c.1 }) steps)
keyed_filled fill q [] = refl
keyed_filled fill q (c ∷ steps) = ap (λ (l : List KeyChange). record { key = q; ts = c.0; change = filled_change fill c.1 } ∷ l) (keyed_filled fill q steps)

row_filled : (fill : Row) (t : ℕ) (q : List ℕ) (steps : Steps) → row_changes t q (map (filled_step fill) steps) ≡ map (filled_of fill) (row_changes t q steps)
row_filled fill t q steps = ap (map (λ (c : ℕ × Change). record { key = q; ts = c.0; change = c.1 })) (filter_filled fill t steps) ∙ keyed_filled fill q (filter (λ (c : ℕ × Change). nat_le c.0 t) steps)

-- the changes of a filled store are its changes, filled
pub changes_filled : (fill : Row) (t : ℕ) (store : Store) → map (filled_of fill) (changes_upto t store) ≡ changes_upto t (filled fill store)
changes_filled fill t [] = refl
changes_filled fill t (r ∷ store) =
    map-append (filled_of fill) (row_changes t r.0 r.1.steps) (changes_upto t store)
    ∙ ap (λ (l : List KeyChange). l ++ map (filled_of fill) (changes_upto t store)) (sym (row_filled fill t r.0 r.1.steps))
    ∙ ap (λ (l : List KeyChange). row_changes t r.0 (map (filled_step fill) r.1.steps) ++ l) (changes_filled fill t store)

-- so it is of all that lie in memory
pub lists_filled : (fill : Row) (t n : ℕ) (stores : List Store) → map (map (filled_of fill)) (map (changes_upto t) (take n stores)) ≡ map (changes_upto t) (take n (all_told fill n stores))
lists_filled fill t zero stores = refl
lists_filled fill t (suc n) [] = refl
lists_filled fill t (suc n) (s ∷ stores) =
    ap (λ (l : List KeyChange). l ∷ map (map (filled_of fill)) (map (changes_upto t) (take n stores))) (changes_filled fill t s)
    ∙ ap (λ (l : List (List KeyChange)). changes_upto t (filled fill s) ∷ l) (lists_filled fill t n stores)
    ∙ ap (λ (m : ℕ). changes_upto t (filled fill s) ∷ map (changes_upto t) (take n (all_told fill m stores))) (let e : n ≡ suc n - 1 = omega arith in e)

-- ---- one list more

one_list : (t n : ℕ) (stores : List Store) (list : List KeyChange) → option_map (changes_upto t) (slice_get stores n) ≡ Some list → map (changes_upto t) (take (suc n) stores) ≡ map (changes_upto t) (take n stores) ++ list ∷ []
one_list t n [] list e = absurd (let f : None ≡ Some list = e in cc)
one_list t zero (s ∷ stores) list e = ap (λ (l : List KeyChange). l ∷ []) (some_is (changes_upto t s) list e)
  where
    some_is : (a b : List KeyChange) → Some a ≡ Some b → a ≡ b
    some_is a b h = cc
one_list t (suc n) (s ∷ stores) list e = ap (λ (l : List (List KeyChange)). changes_upto t s ∷ l) (one_list t n stores list e)

-- where the store has the next place behind these
pub next_list : (t at next : ℕ) (stores : List Store) (list : List KeyChange) → next ≡ at → option_map (changes_upto t) (slice_get stores next) ≡ Some list → map (changes_upto t) (take (suc next) stores) ≡ map (changes_upto t) (take at stores) ++ list ∷ []
next_list t at next stores list e is = one_list t next stores list is ∙ ap (λ (m : ℕ). map (changes_upto t) (take m stores) ++ list ∷ []) e
