-- Rows by rising key: where a key stands, the row that it has, and the key behind it.
use Rattle.std.proofs.Common.{◌≡◌, ℕ, zero, suc, ◌+◌, ◌-◌, ◌<◌, ◌≤◌, List, [], ◌∷◌, Some, None, Ok, Err, Result, refl, true, false, ◌&&◌, cond, sym, ap, ◌∙◌, subst, arith, length, get_or, inl, inr}
use Rattle.std.specs.Prelude.{not, slice_get}
use Rattle.std.specs.List.{find as find_first, AllWithin}
use Rattle.std.specs.List.Sorted.{IsPartitionedBy, IsPartitionPoint}
use Rattle.std.specs.Option.{option_map}
use Rattle.std.specs.Ordering.{is_lt, is_gt, is_eq, ordering_reverse}
use Rattle.std.specs.declared.cmp.Ordering.{Ordering}
use Rattle.std.specs.declared.cmp.Ordering.TheVariants.{Less, Equal, Greater}
use Rattle.std.specs.FinMap.{nat_cmp-IsAntisymmetric, slice_cmp-IsAntisymmetric}
use Rattle.std.specs.FinMap.Entries.{by_order, find, below_all, is_sorted}
use Rattle.std.proofs.lemmas.Cmp.{nat_list_cmp_total}
use Rattle.std.proofs.lemmas.Bool.{and_parts, cases_eq, false≢true}
use Rattle.std.proofs.lemmas.Option.{get_or_from_slice_get, slice_get-get_or}
use Rattle.kt_history.specs.Places.{place_of, one_later}
use Rattle.kt_history.specs.Rows.{Row, Rows, key_cmp}
use Rattle.kt_views.specs.Keys.{keys_under, is_of_key, is_below, is_above as is_over, IsGap}
use Rattle.kt_history.specs.Views.{is_above, key_above}

-- ---- orders

less : (o : Ordering) → is_lt o ≡ true → o ≡ Less
less Less h = refl
less Equal h = cc
less Greater h = cc

equal : (o : Ordering) → is_eq o ≡ true → o ≡ Equal
equal Less h = cc
equal Equal h = refl
equal Greater h = cc

turned : (a q : List ℕ) → key_cmp q a ≡ ordering_reverse (key_cmp a q)
turned a q = nat_list_cmp_total.antisymm q a

greater : (a q : List ℕ) → is_lt (key_cmp a q) ≡ true → key_cmp q a ≡ Greater
greater a q h = turned a q ∙ ap ordering_reverse (less _ h)

-- what is neither below nor the key is above it
above : (a q : List ℕ) → is_lt (key_cmp a q) ≡ false → is_eq (key_cmp q a) ≡ false → key_cmp q a ≡ Less
above a q ge ne = by (key_cmp q a) (key_cmp a q) (turned a q) ge ne
  where
    by : (o p : Ordering) → o ≡ ordering_reverse p → is_lt p ≡ false → is_eq o ≡ false → o ≡ Less
    by Less p e ge ne = refl
    by Equal p e ge ne = cc
    by Greater Less e ge ne = cc
    by Greater Equal e ge ne = cc
    by Greater Greater e ge ne = cc

-- ---- rows by rising key

below_at : (x : List ℕ) (rows : Rows) (k : ℕ) (d : List ℕ × Row) → below_all key_cmp x rows ≡ true → k < length rows → key_cmp x (get_or rows k d).0 ≡ Less
below_at x [] k d h lt = absurd (omega arith)
below_at x (r ∷ rows) zero d h lt = less _ (and_parts _ _ h).0
below_at x (r ∷ rows) (suc k) d h lt = below_at x rows k d (and_parts _ _ h).1 (omega arith)

sorted_at : (rows : Rows) (i j : ℕ) (d : List ℕ × Row) → is_sorted key_cmp rows ≡ true → i < j → j < length rows → key_cmp (get_or rows i d).0 (get_or rows j d).0 ≡ Less
sorted_at [] i j d h lt within = absurd (omega arith)
sorted_at (r ∷ rows) i zero d h lt within = absurd (omega arith)
sorted_at (r ∷ rows) zero (suc j) d h lt within = below_at r.0 rows j d (and_parts _ _ h).0 (omega arith)
sorted_at (r ∷ rows) (suc i) (suc j) d h lt within = sorted_at rows i j d (and_parts _ _ h).1 (omega arith) (omega arith)

below_too : (a b q : List ℕ) → key_cmp a b ≡ Less → is_lt (key_cmp b q) ≡ true → is_lt (key_cmp a q) ≡ true
below_too a b q le lt = ap is_lt (nat_list_cmp_total.trans a b q le (less _ lt))

pub parts_below : (rows : Rows) (q : List ℕ) → is_sorted key_cmp rows ≡ true → IsPartitionedBy (λ (r : List ℕ × Row). is_lt (key_cmp r.0 q)) rows
parts_below rows q h i j d le within lt = elim (cases_eq i j) [
  | inl e ↦ subst (λ (k : ℕ). is_lt (key_cmp (get_or rows k d).0 q) ≡ true) (sym e) lt
  | inr ne ↦ below_too (get_or rows i d).0 (get_or rows j d).0 q (sorted_at rows i j d h (omega arith) within) lt
]

above_too : (a b q : List ℕ) → key_cmp a b ≡ Less → not (is_lt (key_cmp q b)) ≡ true → not (is_lt (key_cmp q a)) ≡ true
above_too a b q lt h = elim (is_lt (key_cmp q a)) as (λ v. is_lt (key_cmp q a) ≡ v → not v ≡ true) [
  | true ↦ λ e. sym (ap (λ v. not v) (ap is_lt (nat_list_cmp_total.trans q a b (less _ e) lt))) ∙ h
  | false ↦ λ e. refl
] refl

-- what is not above a key, so is all before it
pub parts_not_above : (rows : Rows) (q : List ℕ) → is_sorted key_cmp rows ≡ true → IsPartitionedBy (λ (r : List ℕ × Row). not (is_lt (key_cmp q r.0))) rows
parts_not_above rows q h i j d le within lt = elim (cases_eq i j) [
  | inl e ↦ subst (λ (k : ℕ). not (is_lt (key_cmp q (get_or rows k d).0)) ≡ true) (sym e) lt
  | inr ne ↦ above_too (get_or rows i d).0 (get_or rows j d).0 q (sorted_at rows i j d h (omega arith) within) lt
]

-- ---- the place of a key behind those that are below it

pub place_end : (q : List ℕ) (rows : Rows) → ((k : ℕ) (d : List ℕ × Row) → k < length rows → is_lt (key_cmp (get_or rows k d).0 q) ≡ true) → place_of key_cmp q rows ≡ Err (length rows)
place_end q [] h = refl
place_end q (r ∷ rows) h =
    ap (λ o. by_order o (Err 0) (Ok 0) (one_later (place_of key_cmp q rows))) (greater r.0 q (h zero r (omega arith)))
    ∙ ap one_later (place_end q rows (λ k d lt. h (suc k) d (omega arith)))

pub place_here : (q : List ℕ) (rows : Rows) (n : ℕ) (d : List ℕ × Row) → n < length rows → ((k : ℕ) (d : List ℕ × Row) → k < n → is_lt (key_cmp (get_or rows k d).0 q) ≡ true) → is_eq (key_cmp q (get_or rows n d).0) ≡ true → place_of key_cmp q rows ≡ Ok n
place_here q [] n d lt h e = absurd (omega arith)
place_here q (x ∷ rows) zero d lt h e = ap (λ o. by_order o (Err 0) (Ok 0) (one_later (place_of key_cmp q rows))) (equal _ e)
place_here q (x ∷ rows) (suc n) d lt h e =
    ap (λ o. by_order o (Err 0) (Ok 0) (one_later (place_of key_cmp q rows))) (greater x.0 q (h zero x (omega arith)))
    ∙ ap one_later (place_here q rows n d (omega arith) (λ k d below. h (suc k) d (omega arith)) e)

pub place_gap : (q : List ℕ) (rows : Rows) (n : ℕ) (d : List ℕ × Row) → n < length rows → ((k : ℕ) (d : List ℕ × Row) → k < n → is_lt (key_cmp (get_or rows k d).0 q) ≡ true) → is_lt (key_cmp (get_or rows n d).0 q) ≡ false → is_eq (key_cmp q (get_or rows n d).0) ≡ false
    → place_of key_cmp q rows ≡ Err n
place_gap q [] n d lt h ge ne = absurd (omega arith)
place_gap q (x ∷ rows) zero d lt h ge ne = ap (λ o. by_order o (Err 0) (Ok 0) (one_later (place_of key_cmp q rows))) (above x.0 q ge ne)
place_gap q (x ∷ rows) (suc n) d lt h ge ne =
    ap (λ o. by_order o (Err 0) (Ok 0) (one_later (place_of key_cmp q rows))) (greater x.0 q (h zero x (omega arith)))
    ∙ ap one_later (place_gap q rows n d (omega arith) (λ k d below. h (suc k) d (omega arith)) ge ne)

-- ---- a key whose row is at a place

entry_of : (q : List ℕ) (rows : Rows) (n : ℕ) → is_of_key q (slice_get rows n) ≡ true → (n < length rows) × ((d : List ℕ × Row) → key_cmp q (get_or rows n d).0 ≡ Equal)
entry_of q [] zero h = cc
entry_of q [] (suc n) h = cc
entry_of q (r ∷ rows) zero h = (omega arith, λ d. equal _ h)
entry_of q (r ∷ rows) (suc n) h = let rest = entry_of q rows n h in (omega (arith, rest.0), rest.1)

pub place_known : (q : List ℕ) (rows : Rows) (n : ℕ) → is_sorted key_cmp rows ≡ true → is_of_key q (slice_get rows n) ≡ true → place_of key_cmp q rows ≡ Ok n
place_known q [] n sorted h = absurd (omega (arith, (entry_of q [] n h).0))
place_known q (x ∷ rows) n sorted h = place_here q (x ∷ rows) n x there.0 below (ap is_eq (there.1 x))
  where
    there : (n < length (x ∷ rows)) × ((d : List ℕ × Row) → key_cmp q (get_or (x ∷ rows) n d).0 ≡ Equal)
    there = entry_of q (x ∷ rows) n h

    below : (k : ℕ) (d : List ℕ × Row) → k < n → is_lt (key_cmp (get_or (x ∷ rows) k d).0 q) ≡ true
    below k d lt = ap is_lt (subst (λ (p : List ℕ). key_cmp (get_or (x ∷ rows) k d).0 p ≡ Less) (sym (slice_cmp-IsAntisymmetric nat_cmp-IsAntisymmetric q (get_or (x ∷ rows) n d).0 (there.1 d))) (sorted_at (x ∷ rows) k n d sorted lt there.0))

-- those behind the row of a key are above it, and no others
pub parts_behind : (q : List ℕ) (rows : Rows) (n : ℕ) → is_sorted key_cmp rows ≡ true → is_of_key q (slice_get rows n) ≡ true
    → (n + 1 ≤ length rows) × IsPartitionPoint (λ r. not (is_lt (key_cmp q r.0)) ≡ true) (λ r. not (is_lt (key_cmp q r.0)) ≡ false) rows (n + 1)
parts_behind q rows n sorted h =
    let there = entry_of q rows n h in (
      omega (arith, there.0),
      (
        λ k d from below. parts_not_above rows q sorted k n d (omega arith) there.0 (ap (λ o. not (is_lt o)) (there.1 d)),
        λ k d from below. ap (λ o. not (is_lt o)) (above_too_at q (get_or rows n d).0 (get_or rows k d).0 (there.1 d) (sorted_at rows n k d sorted (omega arith) below)),
      ),
    )
  where
    above_too_at : (q a b : List ℕ) → key_cmp q a ≡ Equal → key_cmp a b ≡ Less → key_cmp q b ≡ Less
    above_too_at q a b e lt = ap (λ (p : List ℕ). key_cmp p b) (slice_cmp-IsAntisymmetric nat_cmp-IsAntisymmetric q a e) ∙ lt

-- ---- a place where a key would stand

over : (a q : List ℕ) → is_gt (key_cmp q a) ≡ true → key_cmp a q ≡ Less
over a q gt = turned q a ∙ by (key_cmp q a) gt
  where
    by : (o : Ordering) → is_gt o ≡ true → ordering_reverse o ≡ Less
    by Less e = cc
    by Equal e = cc
    by Greater e = refl

below_here : (q : List ℕ) (rows : Rows) (n : ℕ) (d : List ℕ × Row) → is_below q (slice_get rows n) ≡ true → n < length rows → key_cmp q (get_or rows n d).0 ≡ Less
below_here q [] n d h lt = absurd (omega arith)
below_here q (r ∷ rows) zero d h lt = less _ h
below_here q (r ∷ rows) (suc n) d h lt = below_here q rows n d h (omega arith)

over_here : (q : List ℕ) (rows : Rows) (n : ℕ) → is_over q (slice_get rows n) ≡ true → (n < length rows) × ((d : List ℕ × Row) → key_cmp (get_or rows n d).0 q ≡ Less)
over_here q [] zero h = cc
over_here q [] (suc n) h = cc
over_here q (r ∷ rows) zero h = (omega arith, λ d. over r.0 q h)
over_here q (r ∷ rows) (suc n) h = let rest = over_here q rows n h in (omega (arith, rest.0), rest.1)

-- what is above the key at a place, so are all behind it
above_from : (q : List ℕ) (rows : Rows) (n : ℕ) → is_sorted key_cmp rows ≡ true → is_below q (slice_get rows n) ≡ true → (k : ℕ) (d : List ℕ × Row) → n ≤ k → k < length rows → is_lt (key_cmp q (get_or rows k d).0) ≡ true
above_from q rows n sorted h k d le within = elim (cases_eq n k) [
  | inl e ↦ ap is_lt (subst (λ (m : ℕ). key_cmp q (get_or rows m d).0 ≡ Less) e (below_here q rows n d h (omega arith)))
  | inr ne ↦ ap is_lt (nat_list_cmp_total.trans q (get_or rows n d).0 (get_or rows k d).0 (below_here q rows n d h (omega arith)) (sorted_at rows n k d sorted (omega arith) within))
]

pub gap_first : (q : List ℕ) (rows : Rows) → is_sorted key_cmp rows ≡ true → is_below q (slice_get rows 0) ≡ true → IsGap q rows 0
gap_first q rows sorted h = record { within = omega arith; below = λ k d lt. absurd (omega arith); above = above_from q rows 0 sorted h }

pub gap_behind : (q : List ℕ) (rows : Rows) (n : ℕ) → is_sorted key_cmp rows ≡ true → 0 < n → is_over q (slice_get rows (n - 1)) ≡ true → is_below q (slice_get rows n) ≡ true → IsGap q rows n
gap_behind q rows n sorted some over h =
    let front = over_here q rows (n - 1) over in
    record {
      within = omega (arith, front.0);
      below = λ k d lt. parts_below rows q sorted k (n - 1) d (omega arith) front.0 (ap is_lt (front.1 d));
      above = above_from q rows n sorted h;
    }

pub place_is_gap : (q : List ℕ) (rows : Rows) (n : ℕ) → IsGap q rows n → place_of key_cmp q rows ≡ Err n
place_is_gap q rows n gap = elim (cases_eq n (length rows)) [
  | inl e ↦ place_end q rows (λ k d lt. gap.below k d (omega arith)) ∙ ap (λ (m : ℕ). Err m) (sym e)
  | inr ne ↦
      let d : List ℕ × Row = ([], []) in
      let lt : n < length rows = omega (arith, gap.within) in
      let less_here : key_cmp q (get_or rows n d).0 ≡ Less = less _ (gap.above n d (omega arith) lt) in
      let more : key_cmp (get_or rows n d).0 q ≡ Greater = turned q (get_or rows n d).0 ∙ ap ordering_reverse less_here in
      place_gap q rows n d lt gap.below (ap is_lt more) (ap is_eq less_here)
]

pub parts_gap : (q : List ℕ) (rows : Rows) (n : ℕ) → IsGap q rows n → IsPartitionPoint (λ r. not (is_lt (key_cmp q r.0)) ≡ true) (λ r. not (is_lt (key_cmp q r.0)) ≡ false) rows n
parts_gap q rows n gap = (
  λ k d from below. ap (λ o. not (is_lt o)) (greater (get_or rows k d).0 q (gap.below k d below)),
  λ k d from below. ap (λ b. not b) (gap.above k d from below),
)

-- ---- what the place says of the key

-- the row at a place, and none at a gap
abbrev pub Finds : List ℕ → Rows → Result ℕ ℕ → Type 0
Finds q rows (Ok i) = (i < length rows) × ((d : List ℕ × Row) → find key_cmp q rows ≡ Some (get_or rows i d).1)
Finds q rows (Err i) = find key_cmp q rows ≡ None

later_finds : (q : List ℕ) (e : List ℕ × Row) (rows : Rows) (r : Result ℕ ℕ) → key_cmp q e.0 ≡ Greater → Finds q rows r → Finds q (e ∷ rows) (one_later r)
later_finds q e rows (Ok i) h f = (omega (arith, f.0), λ d. ap (λ o. cond (is_eq o) (Some e.1) (find key_cmp q rows)) h ∙ f.1 d)
later_finds q e rows (Err i) h f = ap (λ o. cond (is_eq o) (Some e.1) (find key_cmp q rows)) h ∙ f

none_below : (q : List ℕ) (rows : Rows) → below_all key_cmp q rows ≡ true → find key_cmp q rows ≡ None
none_below q [] h = refl
none_below q (r ∷ rows) h = ap (λ o. cond (is_eq o) (Some r.1) (find key_cmp q rows)) (less _ (and_parts _ _ h).0) ∙ none_below q rows (and_parts _ _ h).1

below_lower : (x y : List ℕ) (rows : Rows) → key_cmp x y ≡ Less → below_all key_cmp y rows ≡ true → below_all key_cmp x rows ≡ true
below_lower x y [] h b = refl
below_lower x y (r ∷ rows) h b =
    let here : is_lt (key_cmp x r.0) ≡ true = ap is_lt (nat_list_cmp_total.trans x y r.0 h (less _ (and_parts _ _ b).0)) in
    ap (λ v. v && below_all key_cmp x rows) here ∙ below_lower x y rows h (and_parts _ _ b).1

place_finds : (q : List ℕ) (rows : Rows) → is_sorted key_cmp rows ≡ true → Finds q rows (place_of key_cmp q rows)
place_finds q [] h = refl
place_finds q (e ∷ rows) h =
    elim (key_cmp q e.0) as (λ o. key_cmp q e.0 ≡ o → Finds q (e ∷ rows) (by_order o (Err 0) (Ok 0) (one_later (place_of key_cmp q rows)))) [
      | Less ↦ λ lt. ap (λ o. cond (is_eq o) (Some e.1) (find key_cmp q rows)) lt ∙ none_below q rows (below_lower q e.0 rows lt (and_parts _ _ h).0)
      | Equal ↦ λ eq. (omega arith, λ d. ap (λ o. cond (is_eq o) (Some e.1) (find key_cmp q rows)) eq)
      | Greater ↦ λ gt. later_finds q e rows (place_of key_cmp q rows) gt (place_finds q rows (and_parts _ _ h).1)
    ] refl

found_at : (q : List ℕ) (rows : Rows) (r : Result ℕ ℕ) (i : ℕ) → is_sorted key_cmp rows ≡ true → r ≡ place_of key_cmp q rows → r ≡ Ok i → (i < length rows) × ((d : List ℕ × Row) → find key_cmp q rows ≡ Some (get_or rows i d).1)
found_at q rows r i sorted is ok = subst (Finds q rows) (sym is ∙ ok) (place_finds q rows sorted)

pub missing_at : (q : List ℕ) (rows : Rows) (r : Result ℕ ℕ) (i : ℕ) → is_sorted key_cmp rows ≡ true → r ≡ place_of key_cmp q rows → r ≡ Err i → find key_cmp q rows ≡ None
missing_at q rows r i sorted is err = subst (Finds q rows) (sym is ∙ err) (place_finds q rows sorted)

-- ---- a row that was read at a place

pub tells_at : (q : List ℕ) (rows : Rows) (r : Result ℕ ℕ) (i : ℕ) (entry : List ℕ × Row) → is_sorted key_cmp rows ≡ true → r ≡ place_of key_cmp q rows → r ≡ Ok i → slice_get rows i ≡ Some entry → Some entry.1 ≡ find key_cmp q rows
tells_at q rows r i entry sorted is ok at =
    sym ((found_at q rows r i sorted is ok).1 entry ∙ ap (λ (x : List ℕ × Row). Some x.1) (get_or_from_slice_get rows i entry entry at))

pub never_none : (q : List ℕ) (rows : Rows) (r : Result ℕ ℕ) (i : ℕ) → is_sorted key_cmp rows ≡ true → r ≡ place_of key_cmp q rows → r ≡ Ok i → slice_get rows i ≡ None → ⊥
never_none q rows r i sorted is ok at = let some = slice_get-get_or rows i ([], []) (found_at q rows r i sorted is ok).0 in cc

-- ---- the first of those that are above a key

pub key_above_at : (q : List ℕ) (rows : Rows) (n : ℕ) → n ≤ length rows → AllWithin (λ r. not (is_lt (key_cmp q r.0)) ≡ true) rows 0 n → AllWithin (λ r. not (is_lt (key_cmp q r.0)) ≡ false) rows n (length rows)
    → option_map (λ r. r.0) (slice_get rows n) ≡ key_above (Some q) (keys_under rows)
key_above_at q [] zero le low high = refl
key_above_at q [] (suc n) le low high = absurd (omega arith)
key_above_at q (r ∷ rows) zero le low high = elim (is_lt (key_cmp q r.0)) as (λ b. not b ≡ false → Some r.0 ≡ cond b (Some r.0) (find_first (is_above (Some q)) (keys_under rows))) [
  | true ↦ λ h. refl
  | false ↦ λ h. absurd (false≢true (sym h))
] (high zero r (omega arith) (omega arith))
key_above_at q (r ∷ rows) (suc n) le low high = elim (is_lt (key_cmp q r.0)) as (λ b. not b ≡ true → option_map (λ (x : List ℕ × Row). x.0) (slice_get rows n) ≡ cond b (Some r.0) (find_first (is_above (Some q)) (keys_under rows))) [
  | true ↦ λ h. absurd (false≢true h)
  | false ↦ λ h. key_above_at q rows n (omega arith) (λ k d a b. low (suc k) d (omega arith) (omega arith)) (λ k d a b. high (suc k) d (omega arith) (omega arith))
] (low zero r (omega arith) (omega arith))

pub key_first : (rows : Rows) → option_map (λ r. r.0) (slice_get rows 0) ≡ key_above None (keys_under rows)
key_first [] = refl
key_first (r ∷ rows) = refl
