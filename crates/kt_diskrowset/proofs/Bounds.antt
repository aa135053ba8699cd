-- The least key of a base file and the greatest, and what lies outside them.
use Rattle.std.proofs.Common.{◌≡◌, ◌≢◌, ℕ, zero, suc, ◌-◌, ◌<◌, ◌≤◌, Bool, true, false, ◌&&◌, List, [], ◌∷◌, length, refl, sym, ap, subst, ◌∙◌, arith}
use Rattle.std.specs.List.{AllByRecursion}
use Rattle.std.specs.Ordering.{is_le}
use Rattle.std.specs.declared.cmp.Ordering.TheVariants.{Less}
use Rattle.std.specs.Cmp.{tied_itself}
use Rattle.std.specs.Cmp.Lexicographic.{nat_list_cmp_total}
use Rattle.std.proofs.lemmas.Bool.{false≢true}
use Rattle.kt_history.specs.Rows.{Row, Rows, key_cmp}
use Rattle.kt_history.specs.Views.{AreRising}
use Rattle.kt_baseset.specs.Rows.{keys_in}
use Rattle.kt_baseset.specs.Tables.{key_at}
use Rattle.kt_baseset.specs.declared.rows.KeyedRow.{KeyedRow}
use Rattle.kt_rowfiles.proofs.Places.{row_missed}
use Rattle.kt_diskrowset.specs.Laws.{rows_are_of_keys}
use Rattle.kt_diskrowset.specs.Rows.{rows_of}
use Rattle.kt_diskrowset.specs.Rowset.{files_of, fresh_of}
use Rattle.kt_diskrowset.proofs.Histories.{nothing_there}

-- a key that is the least where there is one, and empty where there is none
pub least_is : (rows : List KeyedRow) (key : List ℕ) → (0 < length rows → key ≡ key_at rows 0) → (length rows ≡ 0 → key ≡ []) → key ≡ key_at rows 0
least_is [] key some none = none refl
least_is (r ∷ rows) key some none = some (omega arith)

pub greatest_is : (rows : List KeyedRow) (key : List ℕ) → (0 < length rows → key ≡ key_at rows (length rows - 1)) → (length rows ≡ 0 → key ≡ []) → key ≡ key_at rows (length rows - 1)
greatest_is [] key some none = none refl
greatest_is (r ∷ rows) key some none = some (omega arith)

-- ---- keys that rise

le_same : (a : List ℕ) → is_le (key_cmp a a) ≡ true
le_same a = ap is_le (tied_itself nat_list_cmp_total a)

behind : (key : List ℕ) (rows : List KeyedRow) (j : ℕ) → AllByRecursion (λ (other : List ℕ). key_cmp key other ≡ Less) (keys_in rows) → j < length rows → is_le (key_cmp key (key_at rows j)) ≡ true
behind key [] j h low = absurd (omega arith)
behind key (r ∷ rows) zero h low = ap is_le h.0
behind key (r ∷ rows) (suc j) h low = behind key rows j h.1 (omega arith)

-- a key in front of another is not above it
pub rising : (rows : List KeyedRow) (i j : ℕ) → AreRising (keys_in rows) → i ≤ j → j < length rows → is_le (key_cmp (key_at rows i) (key_at rows j)) ≡ true
rising [] i j rise le low = absurd (omega arith)
rising (r ∷ rows) zero zero rise le low = le_same r.key
rising (r ∷ rows) zero (suc j) rise le low = behind r.key rows j rise.0 (omega arith)
rising (r ∷ rows) (suc i) zero rise le low = absurd (omega arith)
rising (r ∷ rows) (suc i) (suc j) rise le low = rising rows i j rise.1 (omega arith) (omega arith)

-- the least is not above the greatest
pub in_order : (rows : List KeyedRow) → AreRising (keys_in rows) → is_le (key_cmp (key_at rows 0) (key_at rows (length rows - 1))) ≡ true
in_order [] rise = le_same []
in_order (r ∷ rows) rise = rising (r ∷ rows) 0 (length (r ∷ rows) - 1) rise (omega arith) (omega arith)

-- ---- what lies outside

others : (q : List ℕ) (rows : List KeyedRow) → ((i : ℕ) → i < length rows → key_at rows i ≢ q) → AllByRecursion (λ (key : List ℕ). key ≢ q) (keys_in rows)
others q [] h = tt
others q (r ∷ rows) h = (h 0 (omega arith), others q rows (λ i low. h (suc i) (omega arith)))

both : (a b : Bool) → a ≡ true → b ≡ true → (a && b) ≡ true
both true b e f = f
both false b e f = absurd (false≢true e)

-- a key that is below the least or above the greatest is no row's
pub outside : (q : List ℕ) (rows : List KeyedRow) → AreRising (keys_in rows) → (is_le (key_cmp (key_at rows 0) q) && is_le (key_cmp q (key_at rows (length rows - 1)))) ≡ false → AllByRecursion (λ (key : List ℕ). key ≢ q) (keys_in rows)
outside q rows rise out = others q rows (λ i low same.
    let least : is_le (key_cmp (key_at rows 0) q) ≡ true = subst (λ key. is_le (key_cmp (key_at rows 0) key) ≡ true) same (rising rows 0 i rise (omega arith) low) in
    let greatest : is_le (key_cmp q (key_at rows (length rows - 1))) ≡ true = subst (λ key. is_le (key_cmp key (key_at rows (length rows - 1))) ≡ true) same (rising rows i (length rows - 1) rise (omega arith) (omega arith)) in
    false≢true (sym out ∙ both _ _ least greatest))

each_row : (q : List ℕ) (rows : List KeyedRow) → AllByRecursion (λ (key : List ℕ). key ≢ q) (keys_in rows) → AllByRecursion (λ (r : List ℕ × Row). r.0 ≢ q) (rows_of rows)
each_row q [] h = tt
each_row q (r ∷ rows) h = (h.0, each_row q rows h.1)

-- and a key that no row has is not there
pub other_keys : rows_are_of_keys
other_keys s pool q other = nothing_there (files_of s) (fresh_of s pool) q (row_missed q 0 (rows_of s.base.set.value.rows) (each_row q s.base.set.value.rows other))
