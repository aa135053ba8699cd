-- A disk rowset as plain data: the changes of a row in a list, and the keys above another.
use Rattle.std.proofs.Common.{◌≡◌, ◌≤◌, ◌<◌, ◌-◌, ◌+◌, ℕ, zero, suc, true, false, cond, List, [], ◌∷◌, take, drop, length, get_or, drop-cons, Option, Some, None, refl, sym, ap, ◌∙◌, inl, inr, arith}
use Rattle.std.specs.Prelude.{Bool, nat_le, nat_lt, slice_get}
use Rattle.std.specs.List.{find}
use Rattle.std.specs.List.Sorted.{IsPartitionPoint}
use Rattle.std.specs.Ordering.{is_lt}
use Rattle.std.specs.declared.cmp.Ordering.{Ordering}
use Rattle.std.specs.declared.cmp.Ordering.TheVariants.{Less, Equal, Greater}
use Rattle.std.proofs.lemmas.List.{drop_all}
use Rattle.std.proofs.lemmas.Bool.{cases_lt, leb-true, leb-false, ltb-true, ltb-false}
use Rattle.kt_history.specs.declared.change.Change.TheVariants.{Del}
use Rattle.kt_history.specs.declared.changes.Delta.{Delta}
use Rattle.kt_history.specs.Rows.{Row, key_cmp}
use Rattle.kt_history.specs.Stores.{after_steps}
use Rattle.kt_history.specs.Views.{is_above}
use Rattle.kt_deltafile.specs.Order.{ordinal_at}
use Rattle.kt_deltafile.proofs.Sorted.{ordinal_is}
use Rattle.kt_lookup.specs.Index.{IsBelow}
use Rattle.kt_baseset.specs.declared.rows.KeyedRow.{KeyedRow}
use Rattle.kt_baseset.specs.Rows.{keys_in}
use Rattle.kt_baseset.specs.Tables.{key_at}
use Rattle.kt_rowfiles.specs.Files.{records_for}
use Rattle.kt_rowfiles.specs.Reading.{step_in, steps_in}
use Rattle.kt_diskrowset.proofs.OneRow.{own_are}

-- ---- the changes of one row among those of all rows, which are in the order of these

-- some change
abbrev some_delta : Delta
some_delta = record { ordinal = 0; ts = 0; change = Del }

module _ (n : ℕ) (list : List Delta) (start end : ℕ) (upto : start ≤ length list) (within : end ≤ length list)
    (before : IsPartitionPoint (λ (d : Delta). nat_lt d.ordinal n ≡ true) (λ (d : Delta). nat_lt d.ordinal n ≡ false) list start)
    (behind : IsPartitionPoint (λ (d : Delta). nat_le d.ordinal n ≡ true) (λ (d : Delta). nat_le d.ordinal n ≡ false) list end) where
  lies_before : (i : ℕ) → i < start → ordinal_at list i < n
  lies_before i low =
      let at = ordinal_is list i some_delta (omega arith) in
      let less = ltb-true (get_or list i some_delta).ordinal n (before.0 i some_delta (omega arith) low) in omega arith

  lies_at_or_behind : (i : ℕ) → start ≤ i → i < length list → n ≤ ordinal_at list i
  lies_at_or_behind i from low =
      let at = ordinal_is list i some_delta low in
      let more = ltb-false (get_or list i some_delta).ordinal n (before.1 i some_delta from low) in omega arith

  lies_upto : (i : ℕ) → i < end → ordinal_at list i ≤ n
  lies_upto i low =
      let at = ordinal_is list i some_delta (omega arith) in
      let less = leb-true (get_or list i some_delta).ordinal n (behind.0 i some_delta (omega arith) low) in omega arith

  lies_behind : (i : ℕ) → end ≤ i → i < length list → n < ordinal_at list i
  lies_behind i from low =
      let at = ordinal_is list i some_delta low in
      let more = leb-false (get_or list i some_delta).ordinal n (behind.1 i some_delta from low) in omega arith

  pub start_first : start ≤ end
  start_first = elim (cases_lt end start) [
    | inl less ↦ let a = lies_before end less in let b = lies_behind end (omega arith) (omega arith) in absurd (omega arith)
    | inr le ↦ le
  ]

  pub own_between : steps_in (take (end - start) (drop start list)) ≡ records_for n list
  own_between = own_are n list start end start_first within lies_before (λ i from low. let a = lies_at_or_behind i from (omega arith) in let b = lies_upto i low in omega arith) lies_behind

-- ---- changes that are done one by one

module _ (t : ℕ) (list : List Delta) (i : ℕ) (row whole : Option Row) where
  pub deltas_over : length list ≤ i → after_steps t (steps_in (drop i list)) row ≡ whole → row ≡ whole
  deltas_over past so = sym (ap (λ ds. after_steps t (steps_in ds) row) (drop_all i list past)) ∙ so

  pub delta_next : (d : Delta) (row2 : Option Row) → i < length list → d ≡ get_or list i d → row2 ≡ after_steps t (step_in d ∷ []) row → after_steps t (steps_in (drop i list)) row ≡ whole
      → after_steps t (steps_in (drop (i + 1) list)) row2 ≡ whole
  delta_next d row2 low is e so =
      ap (after_steps t (steps_in (drop (i + 1) list))) e
      ∙ (let rest : drop i list ≡ d ∷ drop (i + 1) list = drop-cons list i d low ∙ ap (λ x. x ∷ drop (suc i) list) (sym is) ∙ (let k : suc i ≡ i + 1 = omega arith in ap (λ m. d ∷ drop m list) k) in
      sym (ap (λ ds. after_steps t (steps_in ds) row) rest))
      ∙ so

-- ---- the least key above another

find_at : (test : List ℕ → Bool) (keys : List (List ℕ)) (n : ℕ) → n ≤ length keys → ((i : ℕ) → i < n → test (get_or keys i []) ≡ false) → (n < length keys → test (get_or keys n []) ≡ true) → slice_get keys n ≡ find test keys
find_at test [] zero within no_ here = refl
find_at test [] (suc n) within no_ here = absurd (omega arith)
find_at test (k ∷ keys) zero within no_ here = sym (ap (λ b. cond b (Some k) (find test keys)) (here (omega arith)))
find_at test (k ∷ keys) (suc n) within no_ here =
    find_at test keys n (omega arith) (λ i low. no_ (suc i) (omega arith)) (λ low. here (omega arith))
    ∙ sym (ap (λ b. cond b (Some k) (find test keys)) (no_ 0 (omega arith)))

pub keys_count : (rows : List KeyedRow) → length (keys_in rows) ≡ length rows
keys_count [] = refl
keys_count (r ∷ rows) = ap suc (keys_count rows)

pub key_in : (rows : List KeyedRow) (i : ℕ) → get_or (keys_in rows) i [] ≡ key_at rows i
key_in [] i = refl
key_in (r ∷ rows) zero = refl
key_in (r ∷ rows) (suc i) = key_in rows i

pub not_below : (a b : List ℕ) → ¬ IsBelow a b → is_lt (key_cmp a b) ≡ false
not_below a b h = by (key_cmp a b) h
  where
    by : (o : Ordering) → ¬ (o ≡ Less) → is_lt o ≡ false
    by Less h = absurd (h refl)
    by Equal h = refl
    by Greater h = refl

pub first_above_is : (rows : List KeyedRow) (key : List ℕ) (n : ℕ) → n ≤ length rows → ((i : ℕ) → i < n → ¬ IsBelow key (key_at rows i)) → ((i : ℕ) → n ≤ i → i < length rows → IsBelow key (key_at rows i))
    → slice_get (keys_in rows) n ≡ find (is_above (Some key)) (keys_in rows)
first_above_is rows key n within before above =
    let count = keys_count rows in
    find_at (is_above (Some key)) (keys_in rows) n (omega arith) (λ i low. ap (λ k. is_lt (key_cmp key k)) (key_in rows i) ∙ not_below key (key_at rows i) (before i low))
    (λ low. ap (λ k. is_lt (key_cmp key k)) (key_in rows n) ∙ ap is_lt (above n (omega arith) (omega arith)))

pub first_is : (rows : List KeyedRow) → slice_get (keys_in rows) 0 ≡ find (is_above None) (keys_in rows)
first_is [] = refl
first_is (r ∷ rows) = refl

-- the key at a place
pub key_got : (rows : List KeyedRow) (i : ℕ) → i < length rows → slice_get (keys_in rows) i ≡ Some (key_at rows i)
key_got [] i low = absurd (omega arith)
key_got (r ∷ rows) zero low = refl
key_got (r ∷ rows) (suc i) low = key_got rows i (omega arith)

pub no_key : (rows : List KeyedRow) (i : ℕ) → length rows ≤ i → slice_get (keys_in rows) i ≡ None
no_key [] i past = refl
no_key (r ∷ rows) zero past = absurd (omega arith)
no_key (r ∷ rows) (suc i) past = no_key rows i (omega arith)
