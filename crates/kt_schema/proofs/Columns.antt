-- What the columns of a schema are: the key columns first, none of truth values and none that may be null, at most 300 in all.
use Rattle.std.proofs.Common.{◌≡◌, ℕ, suc, ◌≤◌, Bool, true, false, not, cond, ◌&&◌, ◌||◌, List, [], ◌∷◌, length, take, drop, map, Option, Some, None, inl, inr, refl, sym, ap, subst, arith}
use Rattle.std.specs.List.{list_any}
use Rattle.std.specs.Option.{option_or, option_map}
use Rattle.std.proofs.lemmas.Bool.{cases_lt, ltb-false, false≢true}
use Rattle.kt_schema.specs.declared.column.Column.{Column}
use Rattle.kt_schema.specs.First.{passes_at}
use Rattle.kt_schema.specs.Columns.{is_late, is_weak, late_column, weak_column, columns_no, key_columns, other_columns, key_kinds}
use Rattle.kt_schema.proofs.Places.{none_passes, passes_at-past}

-- what holds of columns that make a schema
pub record IsSchema (columns : List Column) : Type 0 where
  pub late : (k : ℕ) → is_late columns k ≡ false
  pub weak : (k : ℕ) → passes_at is_weak columns k ≡ false
  pub few : length columns ≤ 300

none_left : {A : Type 0} (o p : Option A) → option_or o p ≡ None → (o ≡ None) × (p ≡ None)
none_left None p h = (refl, h)
none_left (Some x) p h = absurd cc

none_mapped : {A B : Type 0} (f : A → B) (o : Option A) → option_map f o ≡ None → o ≡ None
none_mapped f None h = refl
none_mapped f (Some x) h = absurd cc

no_some : {A : Type 0} (b : Bool) (x : A) → cond b (Some x) None ≡ None → b ≡ false
no_some true x h = absurd cc
no_some false x h = refl

never_late : (columns : List Column) → late_column columns ≡ None → (k : ℕ) → is_late columns k ≡ false
never_late columns none k = elim (cases_lt k (length columns)) [
  | inl lt ↦ none_passes (is_late columns) (length columns) none k lt
  | inr past ↦ ap (λ b. b && list_any (λ c. not c.key) (take k columns)) (passes_at-past (λ (c : Column). c.key) columns k past)
]

never_weak : (columns : List Column) → weak_column columns ≡ None → (k : ℕ) → passes_at is_weak columns k ≡ false
never_weak columns none k = elim (cases_lt k (length columns)) [
  | inl lt ↦ none_passes (passes_at is_weak columns) (length columns) none k lt
  | inr past ↦ passes_at-past is_weak columns k past
]

pub schema_holds : (columns : List Column) → columns_no columns ≡ None → IsSchema columns
schema_holds columns none =
    let late = none_left _ _ (none_left _ _ none).1 in
    let weak = none_left _ _ late.1 in
    let again = none_left _ _ weak.1 in
    record {
      late = never_late columns (none_mapped _ _ late.0);
      weak = never_weak columns (none_mapped _ _ weak.0);
      few = ltb-false 300 (length columns) (no_some _ _ again.1);
    }

-- where no column is a key
pub no_keys : (columns : List Column) → ((k : ℕ) → passes_at (λ c. c.key) columns k ≡ false) → (key_columns columns ≡ []) × (other_columns columns ≡ columns)
no_keys [] none = (refl, refl)
no_keys (c ∷ columns) none = by c.key (none 0) (no_keys columns (λ k. none (suc k)))
  where
    by : (b : Bool) → b ≡ false → (key_columns columns ≡ []) × (other_columns columns ≡ columns)
        → (cond b (c ∷ key_columns columns) (key_columns columns) ≡ []) × (cond (not b) (c ∷ other_columns columns) (other_columns columns) ≡ c ∷ columns)
    by true other more = absurd (false≢true (sym other))
    by false other more = (more.0, ap (λ xs. c ∷ xs) more.1)

pub not_late_after : (b other : Bool) → (b && (true || other)) ≡ false → b ≡ false
not_late_after true other late = absurd (false≢true (sym late))
not_late_after false other late = refl

-- the key columns stand first
pub keys_first : (columns : List Column) → ((k : ℕ) → is_late columns k ≡ false)
    → (key_columns columns ≡ take (length (key_kinds columns)) columns) × (other_columns columns ≡ drop (length (key_kinds columns)) columns)
keys_first [] late = (refl, refl)
keys_first (c ∷ columns) late = by c.key (λ k. late (suc k)) (keys_first columns)
  where
    by : (b : Bool) → ((k : ℕ) → (passes_at (λ x. x.key) columns k && (not b || list_any (λ x. not x.key) (take k columns))) ≡ false)
        → (((k : ℕ) → is_late columns k ≡ false) → (key_columns columns ≡ take (length (key_kinds columns)) columns) × (other_columns columns ≡ drop (length (key_kinds columns)) columns))
        → (cond b (c ∷ key_columns columns) (key_columns columns) ≡ take (length (map (λ (x : Column). x.kind) (cond b (c ∷ key_columns columns) (key_columns columns)))) (c ∷ columns))
        × (cond (not b) (c ∷ other_columns columns) (other_columns columns) ≡ drop (length (map (λ (x : Column). x.kind) (cond b (c ∷ key_columns columns) (key_columns columns)))) (c ∷ columns))
    by true late more = (ap (λ xs. c ∷ xs) (more late).0, (more late).1)
    by false late more =
        let none = no_keys columns (λ k. not_late_after (passes_at (λ x. x.key) columns k) (list_any (λ x. not x.key) (take k columns)) (late k)) in
        let P : List Column → Type 0 = λ ks. (ks ≡ take (length (map (λ (x : Column). x.kind) ks)) (c ∷ columns)) × (c ∷ other_columns columns ≡ drop (length (map (λ (x : Column). x.kind) ks)) (c ∷ columns)) in
        subst P (sym none.0) (refl, ap (λ xs. c ∷ xs) none.1)

pub few_keys : (columns : List Column) → length (key_kinds columns) ≤ length columns
few_keys [] = omega arith
few_keys (c ∷ columns) = by c.key (few_keys columns)
  where
    by : (b : Bool) → length (key_kinds columns) ≤ length columns → length (map (λ (x : Column). x.kind) (cond b (c ∷ key_columns columns) (key_columns columns))) ≤ length (c ∷ columns)
    by true more = omega (arith, more)
    by false more = omega (arith, more)
