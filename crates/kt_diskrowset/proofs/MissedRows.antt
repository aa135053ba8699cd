-- Changes in memory above a time, row by row.
use Rattle.std.proofs.Common.{◌≡◌, ◌≢◌, ◌≤◌, ◌<◌, ◌+◌, ℕ, zero, suc, Bool, true, false, cond, List, [], ◌∷◌, ◌++◌, append_assoc, map, take, drop, length, Option, Some, refl, sym, ap, subst, ◌∙◌, inl, inr, arith}
use Rattle.std.specs.Prelude.{nat_le, nat_lt, ◌==◌}
use Rattle.std.specs.List.{find, AllByRecursion}
use Rattle.std.specs.Option.{option_map}
use Rattle.std.proofs.lemmas.Bool.{cases_lt}
use Rattle.std.proofs.lemmas.Bool.Decides.{nat_tests}
use Rattle.std.proofs.lemmas.List.{append-nil, map-append, drop_all}
use Rattle.std.proofs.lemmas.List.Elements.{filter-append}
use Rattle.kt_baseset.specs.declared.rows.KeyedRow.{KeyedRow}
use Rattle.kt_baseset.specs.Tables.{key_at}
use Rattle.kt_history.specs.declared.change.Change.{Change}
use Rattle.kt_history.specs.declared.changes.Delta.{Delta}
use Rattle.kt_history.specs.declared.changes.KeyChange.{KeyChange}
use Rattle.kt_history.specs.Stores.{Steps, key_change}
use Rattle.kt_pool.specs.Contents.{Contents}
use Rattle.kt_dms.specs.declared.store.DeltaMem.{DeltaMem}
use Rattle.kt_dms.specs.Stores.{AreSorted, is_before, deltas_of, steps_for, steps_above}
use Rattle.kt_diskrowset.specs.Mems.{steps_in_mems}
use Rattle.kt_diskrowset.specs.Missed.{changes_from, Precedes}
use Rattle.kt_diskrowset.specs.Rows.{Fresh}
use Rattle.kt_diskrowset.proofs.Beside.{steps-append}
use Rattle.kt_diskrowset.proofs.MemsInTurn.{store_at, rest_is}

-- ---- the next row that has a change

not_later : (d e : Delta) → is_before d e ≡ true → d.ordinal ≤ e.ordinal
not_later d e h = grind (arith, nat_tests, h)

other_row : (a n : ℕ) → a ≢ n → (a == n) ≡ false
other_row a n ne = grind (arith, nat_tests)

none_behind : (n : ℕ) (d : Delta) (deltas : List Delta) → n < d.ordinal → AllByRecursion (λ (e : Delta). is_before d e ≡ true) deltas → steps_for n deltas ≡ []
none_behind n d [] low h = refl
none_behind n d (e ∷ deltas) low h =
    let later = not_later d e h.0 in
    ap (λ b. cond b ((e.ts, e.change) ∷ steps_for n deltas) (steps_for n deltas)) (other_row e.ordinal n (λ s. absurd (omega arith))) ∙ none_behind n d deltas low h.1

le_says : (a b : ℕ) → nat_le a b ≡ true → a ≤ b
le_says a b h = grind (arith, nat_tests, h)

not_le_says : (a b : ℕ) → nat_le a b ≡ false → b < a
not_le_says a b h = grind (arith, nat_tests, h)

-- the row of the first change that is of a row from one on
abbrev pub first_row : ℕ → List Delta → Option ℕ
first_row from deltas = option_map (λ (d : Delta). d.ordinal) (find (λ (d : Delta). nat_le from d.ordinal) deltas)

pub row_behind : (from n : ℕ) (deltas : List Delta) → n < from → Precedes n (first_row from deltas)
row_behind from n [] low = tt
row_behind from n (d ∷ deltas) low = by (nat_le from d.ordinal) refl (row_behind from n deltas low)
  where
    by : (b : Bool) → nat_le from d.ordinal ≡ b → Precedes n (first_row from deltas) → Precedes n (option_map (λ (d : Delta). d.ordinal) (cond b (Some d) (find (λ (d : Delta). nat_le from d.ordinal) deltas)))
    by true le more = let up = le_says from d.ordinal le in omega arith
    by false gt more = more

pub none_before : (from n : ℕ) (deltas : List Delta) → AreSorted deltas → from ≤ n → Precedes n (first_row from deltas) → steps_for n deltas ≡ []
none_before from n [] sorted low h = refl
none_before from n (d ∷ deltas) sorted low h = by (nat_le from d.ordinal) refl h (none_before from n deltas sorted.1 low)
  where
    by : (b : Bool) → nat_le from d.ordinal ≡ b → Precedes n (option_map (λ (d : Delta). d.ordinal) (cond b (Some d) (find (λ (d : Delta). nat_le from d.ordinal) deltas))) → (Precedes n (first_row from deltas) → steps_for n deltas ≡ [])
        → cond (d.ordinal == n) ((d.ts, d.change) ∷ steps_for n deltas) (steps_for n deltas) ≡ []
    by true le before more =
        ap (λ b. cond b ((d.ts, d.change) ∷ steps_for n deltas) (steps_for n deltas)) (other_row d.ordinal n (λ s. absurd (omega arith))) ∙ none_behind n d deltas before sorted.0
    by false gt before more =
        let under = not_le_says from d.ordinal gt in
        ap (λ b. cond b ((d.ts, d.change) ∷ steps_for n deltas) (steps_for n deltas)) (other_row d.ordinal n (λ s. absurd (omega arith))) ∙ more before

-- ---- several stores

module _ (pool : Contents) (mems : List DeltaMem) (i : ℕ) where
  pub none_more : (n : ℕ) → i < length mems → steps_in_mems pool n (take i mems) ≡ [] → steps_for n (deltas_of (store_at mems i) pool) ≡ [] → (more : List DeltaMem) → more ≡ take i mems ++ store_at mems i ∷ [] → steps_in_mems pool n more ≡ []
  none_more n low so here more is =
      ap (steps_in_mems pool n) is ∙ steps-append pool n (take i mems) (store_at mems i ∷ [])
      ∙ ap (λ steps. steps ++ (steps_for n (deltas_of (store_at mems i) pool) ++ [])) so ∙ ap (λ steps. steps ++ []) here

-- the changes of a row in some stores above a time, under a key
abbrev pub listed : Contents → ℕ → ℕ → List ℕ → List DeltaMem → List KeyChange
listed pool above n key mems = map (key_change key) (steps_above above (steps_in_mems pool n mems))

steps_more : (above : ℕ) (key : List ℕ) (xs ys : Steps) → map (key_change key) (steps_above above (xs ++ ys)) ≡ map (key_change key) (steps_above above xs) ++ map (key_change key) (steps_above above ys)
steps_more above key xs ys = ap (map (key_change key)) (filter-append (λ (c : ℕ × Change). nat_lt above c.0) xs ys) ∙ map-append (key_change key) (steps_above above xs) (steps_above above ys)

module _ (pool : Contents) (above n : ℕ) (key : List ℕ) (mems : List DeltaMem) (i : ℕ) (now whole : List KeyChange) (so : now ++ listed pool above n key (drop i mems) ≡ whole) where
  pub listed_more : i < length mems → (now2 : List KeyChange) → now2 ≡ now ++ map (key_change key) (steps_above above (steps_for n (deltas_of (store_at mems i) pool))) → now2 ++ listed pool above n key (drop (i + 1) mems) ≡ whole
  listed_more low now2 e =
      let here = map (key_change key) (steps_above above (steps_for n (deltas_of (store_at mems i) pool))) in
      ap (λ xs. xs ++ listed pool above n key (drop (i + 1) mems)) e ∙ append_assoc now here (listed pool above n key (drop (i + 1) mems))
      ∙ ap (λ xs. now ++ xs) (sym (steps_more above key (steps_for n (deltas_of (store_at mems i) pool)) (steps_in_mems pool n (drop (i + 1) mems))))
      ∙ sym (ap (λ ms. now ++ listed pool above n key ms) (rest_is pool n mems i low)) ∙ so

  pub listed_over : length mems ≤ i → now ≡ whole
  listed_over past = sym (append-nil now) ∙ sym (ap (λ ms. now ++ listed pool above n key ms) (drop_all i mems past)) ∙ so

-- with one store behind others
pub listed_behind : (pool : Contents) (above n : ℕ) (key : List ℕ) (xs : List DeltaMem) (a : DeltaMem)
    → listed pool above n key (xs ++ a ∷ []) ≡ listed pool above n key xs ++ map (key_change key) (steps_above above (steps_for n (deltas_of a pool)))
listed_behind pool above n key xs a =
    ap (λ steps. map (key_change key) (steps_above above steps)) (steps-append pool n xs (a ∷ []) ∙ ap (λ steps. steps_in_mems pool n xs ++ steps) (append-nil (steps_for n (deltas_of a pool))))
    ∙ steps_more above key (steps_in_mems pool n xs) (steps_for n (deltas_of a pool))

-- ---- row by row

module _ (above : ℕ) (fresh : Fresh) where
  abbrev of_row : ℕ → List ℕ → List KeyChange
  of_row n key = map (key_change key) (steps_above above (fresh n))

  none_of_row : (n : ℕ) (key : List ℕ) → fresh n ≡ [] → of_row n key ≡ []
  none_of_row n key e = ap (λ steps. map (key_change key) (steps_above above steps)) e

  -- with the next row that has a change
  rows_more : (n : ℕ) (rows : List KeyedRow) (from at : ℕ) → from ≤ at → at < length rows → ((m : ℕ) → from ≤ m → m < at → fresh (n + m) ≡ [])
      → changes_from above fresh n (take (suc at) rows) ≡ changes_from above fresh n (take from rows) ++ of_row (n + at) (key_at rows at)
  rows_more n [] from at le low none = absurd (omega arith)
  rows_more n (r ∷ rows) zero zero le low none = append-nil (of_row n r.key) ∙ (let e : n ≡ n + 0 = omega arith in ap (λ k. of_row k r.key) e)
  rows_more n (r ∷ rows) zero (suc at) le low none =
      ap (λ xs. xs ++ changes_from above fresh (suc n) (take (suc at) rows)) (none_of_row n r.key ((let e : n ≡ n + 0 = omega arith in ap fresh e) ∙ none 0 (omega arith) (omega arith)))
      ∙ rows_more (suc n) rows 0 at (omega arith) (omega arith) (λ m a b. (let e : suc n + m ≡ n + suc m = omega arith in ap fresh e) ∙ none (suc m) (omega arith) (omega arith))
      ∙ (let e : suc n + at ≡ n + suc at = omega arith in ap (λ k. of_row k (key_at rows at)) e)
  rows_more n (r ∷ rows) (suc from) zero le low none = absurd (omega arith)
  rows_more n (r ∷ rows) (suc from) (suc at) le low none =
      ap (λ xs. of_row n r.key ++ xs) (
      rows_more (suc n) rows from at (omega arith) (omega arith) (λ m a b. (let e : suc n + m ≡ n + suc m = omega arith in ap fresh e) ∙ none (suc m) (omega arith) (omega arith))
      ∙ (let e : suc n + at ≡ n + suc at = omega arith in ap (λ k. changes_from above fresh (suc n) (take from rows) ++ of_row k (key_at rows at)) e)
      )
      ∙ sym (append_assoc (of_row n r.key) (changes_from above fresh (suc n) (take from rows)) (of_row (n + suc at) (key_at rows at)))

  -- and with no row more
  rows_over : (n : ℕ) (rows : List KeyedRow) (from : ℕ) → ((m : ℕ) → from ≤ m → m < length rows → fresh (n + m) ≡ []) → changes_from above fresh n (take from rows) ≡ changes_from above fresh n rows
  rows_over n [] zero none = refl
  rows_over n [] (suc from) none = refl
  rows_over n (r ∷ rows) zero none =
      sym (
      ap (λ xs. xs ++ changes_from above fresh (suc n) rows) (none_of_row n r.key ((let e : n ≡ n + 0 = omega arith in ap fresh e) ∙ none 0 (omega arith) (omega arith)))
      ∙ sym (rows_over (suc n) rows 0 (λ m a b. (let e : suc n + m ≡ n + suc m = omega arith in ap fresh e) ∙ none (suc m) (omega arith) (omega arith)))
      )
  rows_over n (r ∷ rows) (suc from) none =
      ap (λ xs. of_row n r.key ++ xs) (rows_over (suc n) rows from (λ m a b. (let e : suc n + m ≡ n + suc m = omega arith in ap fresh e) ∙ none (suc m) (omega arith) (omega arith)))

  -- counted from the first
  pub all_more : (rows : List KeyedRow) (from at : ℕ) → from ≤ at → at < length rows → ((m : ℕ) → from ≤ m → m < at → fresh m ≡ []) → changes_from above fresh 0 (take (at + 1) rows) ≡ changes_from above fresh 0 (take from rows) ++ of_row at (key_at rows at)
  all_more rows from at le low none =
      (let e : at + 1 ≡ suc at = omega arith in ap (λ k. changes_from above fresh 0 (take k rows)) e)
      ∙ rows_more 0 rows from at le low (λ m a b. (let e : 0 + m ≡ m = omega arith in ap fresh e) ∙ none m a b)
      ∙ (let e : 0 + at ≡ at = omega arith in ap (λ k. changes_from above fresh 0 (take from rows) ++ of_row k (key_at rows at)) e)

  pub all_over : (rows : List KeyedRow) (from : ℕ) → ((m : ℕ) → from ≤ m → m < length rows → fresh m ≡ []) → changes_from above fresh 0 (take from rows) ≡ changes_from above fresh 0 rows
  all_over rows from none = rows_over 0 rows from (λ m a b. (let e : 0 + m ≡ m = omega arith in ap fresh e) ∙ none m a b)

-- a row that no earlier one precedes is not before these
pub starts_behind : (from row : ℕ) (r : Option ℕ) → r ≡ Some row → ((n : ℕ) → n < from → Precedes n r) → from ≤ row
starts_behind from row r is h = elim (cases_lt row from) [
  | inl less ↦ let e : row < row = subst (Precedes row) is (h row less) in absurd (omega arith)
  | inr le ↦ le
]
