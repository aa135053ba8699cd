-- All rows of a disk rowset at a time: they rise by key, and are what it tells of each key.
use Rattle.std.proofs.Common.{◌≡◌, ◌≤◌, ◌-◌, ℕ, suc, take, drop, length, arith, Bool, true, false, ◌&&◌, ◌||◌, cond, List, [], ◌∷◌, Option, Some, None, refl, sym, ap, ◌∙◌}
use Rattle.std.specs.List.{list_any, AllByRecursion, cons_option, between}
use Rattle.std.specs.Option.{option_map}
use Rattle.std.specs.Ordering.{is_lt, is_eq, eq_by_cmp}
use Rattle.std.specs.declared.cmp.Ordering.{Ordering}
use Rattle.std.specs.declared.cmp.Ordering.TheVariants.{Less, Equal, Greater}
use Rattle.std.specs.FinMap.{nat_cmp-IsAntisymmetric, slice_cmp-IsAntisymmetric}
use Rattle.std.specs.FinMap.Entries.{find, below_all, is_sorted}
use Rattle.std.proofs.lemmas.Bool.{false≢true}
use Rattle.std.proofs.lemmas.List.{take_all}
use Rattle.kt_history.specs.Rows.{Row, Rows, key_cmp}
use Rattle.kt_history.specs.Stores.{row_of}
use Rattle.kt_history.specs.Views.{AreRising}
use Rattle.kt_baseset.specs.declared.rows.KeyedRow.{KeyedRow}
use Rattle.kt_baseset.specs.Rows.{keys_in}
use Rattle.kt_rowfiles.specs.Files.{row_under}
use Rattle.kt_diskrowset.specs.declared.data.RowSetData.{RowSetData}
use Rattle.kt_diskrowset.specs.Data.{files_in, fresh_in, keys_of}
use Rattle.kt_diskrowset.specs.Page.{told_at, rows_under}
use Rattle.kt_diskrowset.specs.Rows.{rows_of, hist_found}
use Rattle.kt_diskrowset.proofs.Histories.{hist_is}

equal : (o : Ordering) → is_eq o ≡ true → o ≡ Equal
equal Less e = cc
equal Equal e = refl
equal Greater e = cc

same_key : (x y : List ℕ) → key_cmp x y ≡ Equal → x ≡ y
same_key x y e = slice_cmp-IsAntisymmetric nat_cmp-IsAntisymmetric x y e

-- ---- the rows that some keys have

module _ (row : List ℕ → Option Row) where
  below_rows : (x : List ℕ) (keys : List (List ℕ)) → AllByRecursion (λ (other : List ℕ). key_cmp x other ≡ Less) keys → below_all key_cmp x (rows_under row keys) ≡ true
  below_rows x [] all = refl
  below_rows x (k ∷ keys) all = by (row k) (below_rows x keys all.1)
    where
      by : (o : Option Row) → below_all key_cmp x (rows_under row keys) ≡ true → below_all key_cmp x (cons_option (option_map (λ r. (k, r)) o) (rows_under row keys)) ≡ true
      by None more = more
      by (Some r) more = ap (λ o. is_lt o && below_all key_cmp x (rows_under row keys)) all.0 ∙ more

  pub sorted_rows : (keys : List (List ℕ)) → AreRising keys → is_sorted key_cmp (rows_under row keys) ≡ true
  sorted_rows [] rise = refl
  sorted_rows (k ∷ keys) rise = by (row k) (below_rows k keys rise.0) (sorted_rows keys rise.1)
    where
      by : (o : Option Row) → below_all key_cmp k (rows_under row keys) ≡ true → is_sorted key_cmp (rows_under row keys) ≡ true → is_sorted key_cmp (cons_option (option_map (λ r. (k, r)) o) (rows_under row keys)) ≡ true
      by None below more = more
      by (Some r) below more = ap (λ b. b && is_sorted key_cmp (rows_under row keys)) below ∙ more

  cond_none : (b : Bool) (o : Option Row) → o ≡ None → cond b o None ≡ o
  cond_none true o e = refl
  cond_none false o e = sym e

  found_rows : (key : List ℕ) (keys : List (List ℕ)) → find key_cmp key (rows_under row keys) ≡ cond (list_any (eq_by_cmp key_cmp key) keys) (row key) None
  found_rows key [] = refl
  found_rows key (k ∷ keys) = by (eq_by_cmp key_cmp key k) refl (row k) refl (found_rows key keys)
    where
      rest : Rows
      rest = rows_under row keys

      by : (b : Bool) → eq_by_cmp key_cmp key k ≡ b → (o : Option Row) → row k ≡ o → find key_cmp key rest ≡ cond (list_any (eq_by_cmp key_cmp key) keys) (row key) None
          → find key_cmp key (cons_option (option_map (λ r. (k, r)) o) rest) ≡ cond (b || list_any (eq_by_cmp key_cmp key) keys) (row key) None
      by true here None none more =
          let at : row key ≡ None = ap row (same_key key k (equal (key_cmp key k) here)) ∙ none in
          more ∙ cond_none (list_any (eq_by_cmp key_cmp key) keys) (row key) at
      by true here (Some r) some more =
          let at : row key ≡ Some r = ap row (same_key key k (equal (key_cmp key k) here)) ∙ some in
          ap (λ x. cond x (Some r) (find key_cmp key rest)) here ∙ sym at
      by false other None none more = more
      by false other (Some r) some more = ap (λ x. cond x (Some r) (find key_cmp key rest)) other ∙ more

pub all_between : (keys : List (List ℕ)) (n : ℕ) → length keys ≤ n → between 0 n keys ≡ keys
all_between keys n le = let e : n - 0 ≡ n = omega arith in ap (λ k. take k (drop 0 keys)) e ∙ take_all n keys le

-- ---- a key that the rowset lacks

missed : (q : List ℕ) (n : ℕ) (rows : List KeyedRow) → list_any (eq_by_cmp key_cmp q) (keys_in rows) ≡ false → row_under q n (rows_of rows) ≡ None
missed q n [] h = refl
missed q n (r ∷ rows) h = by (eq_by_cmp key_cmp q r.key) h (missed q (suc n) rows)
  where
    by : (b : Bool) → (b || list_any (eq_by_cmp key_cmp q) (keys_in rows)) ≡ false → (list_any (eq_by_cmp key_cmp q) (keys_in rows) ≡ false → row_under q (suc n) (rows_of rows) ≡ None)
        → cond b (Some (n, r.cells)) (row_under q (suc n) (rows_of rows)) ≡ None
    by true h more = absurd (false≢true (sym h))
    by false h more = more h

module _ (d : RowSetData) (t : ℕ) where
  told_none : (q : List ℕ) → list_any (eq_by_cmp key_cmp q) (keys_of d) ≡ false → told_at t d q ≡ None
  told_none q none = ap (row_of t) (hist_is (files_in d) (fresh_in d) q ∙ ap (hist_found (files_in d) (fresh_in d)) (missed q 0 d.base.set.value.rows none))

  pub told_rows : (key : List ℕ) → find key_cmp key (rows_under (told_at t d) (keys_of d)) ≡ told_at t d key
  told_rows key = found_rows (told_at t d) key (keys_of d) ∙ by key (list_any (eq_by_cmp key_cmp key) (keys_of d)) refl
    where
      by : (key : List ℕ) (b : Bool) → list_any (eq_by_cmp key_cmp key) (keys_of d) ≡ b → cond (list_any (eq_by_cmp key_cmp key) (keys_of d)) (told_at t d key) None ≡ told_at t d key
      by key true e = ap (λ b. cond b (told_at t d key) None) e
      by key false e = ap (λ b. cond b (told_at t d key) None) e ∙ sym (told_none key e)
