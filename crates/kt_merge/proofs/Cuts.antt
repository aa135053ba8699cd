-- Disk rowsets that are cut one behind the other.
use Rattle.std.proofs.Common.{◌≡◌, ◌≤◌, ◌<◌, Bool, true, false, ◌||◌, List, [], ◌∷◌, ◌++◌, map, length, append_assoc, refl, sym, ap, ◌∙◌, subst, arith}
use Rattle.std.specs.Prelude.{nat_le}
use Rattle.std.specs.List.{AllByRecursion, flat_map, sum_by}
use Rattle.std.proofs.lemmas.Bool.{lt-leb, leb-false}
use Rattle.std.proofs.lemmas.List.{append-nil, map-append}
use Rattle.std.proofs.lemmas.List.Sums.{sum_by-cons}
use Rattle.kt_history.specs.Views.{AreRising}
use Rattle.kt_baseset.specs.declared.schema.ColumnShape.{ColumnShape}
use Rattle.kt_baseset.specs.declared.rows.KeyedRow.{KeyedRow}
use Rattle.kt_baseset.specs.Rows.{keys_in}
use Rattle.kt_diskrowset.specs.declared.data.RowSetData.{RowSetData}
use Rattle.kt_merge.specs.Told.{Told, told_in, told_by_all, insert_len, is_full, rows_in, IsOpen, IsTaken, IsCut, AreCut, IsOutput, AreOutputs}

-- ---- one rowset more

pub all_more : {X : Type 0} (P : X → Type 0) (xs : List X) (x : X) → AllByRecursion P xs → P x → AllByRecursion P (xs ++ x ∷ [])
all_more P [] x all own = (own, tt)
all_more P (y ∷ xs) x all own = (all.0, all_more P xs x all.1 own)

cut_more : (xs : List (List KeyedRow)) (rows : List KeyedRow) → AreCut xs → AllByRecursion (λ (r : List KeyedRow). is_full r ≡ true) xs → IsCut rows → AreCut (xs ++ rows ∷ [])
cut_more [] rows cut full own = own
cut_more (x ∷ []) rows cut full own = (cut, full.0, own)
cut_more (x ∷ y ∷ xs) rows cut full own = (cut.0, cut.1, cut_more (y ∷ xs) rows cut.2 full.1 own)

full_rows : (done : List RowSetData) → AllByRecursion (λ (d : RowSetData). is_full (rows_in d) ≡ true) done → AllByRecursion (λ (r : List KeyedRow). is_full r ≡ true) (map rows_in done)
full_rows [] h = tt
full_rows (d ∷ done) h = (h.0, full_rows done h.1)

pub outputs_more : (columns : List ColumnShape) (done : List RowSetData) (d : RowSetData) → AreOutputs columns done → AllByRecursion (λ (x : RowSetData). is_full (rows_in x) ≡ true) done → IsOutput columns d → IsCut (rows_in d)
    → AreRising (flat_map (λ (x : RowSetData). keys_in (rows_in x)) (done ++ d ∷ [])) → AreOutputs columns (done ++ d ∷ [])
outputs_more columns done d are full own cut rise = record {
  each = all_more (IsOutput columns) done d are.each own;
  rise = rise;
  cut = subst AreCut (sym (map-append rows_in done (d ∷ []))) (cut_more (map rows_in done) (rows_in d) are.cut (full_rows done full) cut);
}

pub told-more : (done : List RowSetData) (d : RowSetData) → told_by_all (done ++ d ∷ []) ≡ told_by_all done ++ told_in d
told-more [] d = append-nil (told_in d)
told-more (x ∷ done) d = ap (λ (t : Told). told_in x ++ t) (told-more done d) ∙ sym (append_assoc (told_in x) (told_by_all done) (told_in d))

-- ---- its rows

-- rows that are some have a last one
pub has_last : (rows : List KeyedRow) → 0 < length rows → (front : List KeyedRow) × (last : KeyedRow) × (rows ≡ front ++ last ∷ [])
has_last [] low = absurd (omega arith)
has_last (r ∷ []) low = ([], r, refl)
has_last (r ∷ s ∷ rows) low = let more = has_last (s ∷ rows) (omega arith) in (r ∷ more.0, more.1, ap (λ (l : List KeyedRow). r ∷ l) more.2)

pub is_cut : (rows : List KeyedRow) → 0 < length rows → IsTaken rows → IsCut rows
is_cut rows low taken = let last = has_last rows low in record { front = last.0; last = last.1; are = last.2; opened = taken last.0 last.1 last.2 }

len_more : (xs : List KeyedRow) (x : KeyedRow) → (length xs ≤ length (xs ++ x ∷ [])) × (sum_by insert_len xs ≤ sum_by insert_len (xs ++ x ∷ []))
len_more [] x = (omega arith, omega arith)
len_more (y ∷ xs) x =
    let more = len_more xs x in
    let a = sum_by-cons insert_len y xs in
    let b = sum_by-cons insert_len y (xs ++ x ∷ []) in
    (omega (arith, more.0), omega (arith, more.1, a, b))

pub or_parts : (a b : Bool) → (a || b) ≡ false → (a ≡ false) × (b ≡ false)
or_parts true b e = cc
or_parts false b e = (refl, e)

both_false : (a b : Bool) → a ≡ false → b ≡ false → (a || b) ≡ false
both_false a b p q = ap (λ (x : Bool). x || b) p ∙ q

-- what is before the last row of rows that do not fill a rowset does not fill it either
pub open_front : (rows : List KeyedRow) → IsOpen rows → IsTaken rows
open_front rows open_ front last are =
    let whole = or_parts (nat_le 65536 (length rows)) (nat_le 33554432 (sum_by insert_len rows)) open_ in
    let few = leb-false 65536 (length rows) whole.0 in
    let small = leb-false 33554432 (sum_by insert_len rows) whole.1 in
    let more = len_more front last in
    let count = ap length are in
    let bytes = ap (sum_by insert_len) are in
    both_false (nat_le 65536 (length front)) (nat_le 33554432 (sum_by insert_len front)) (lt-leb 65536 (length front) (omega (arith, few, more.0, count))) (lt-leb 33554432 (sum_by insert_len front) (omega (arith, small, more.1, bytes)))

-- rows with one more than rows that do not fill a rowset
pub taken_more : (rows : List KeyedRow) (r : KeyedRow) → IsOpen rows → IsTaken (rows ++ r ∷ [])
taken_more rows r open_ front last are = subst IsOpen (same_front rows front r last are) open_
  where
    same_front : (xs ys : List KeyedRow) (x y : KeyedRow) → xs ++ x ∷ [] ≡ ys ++ y ∷ [] → xs ≡ ys
    same_front [] [] x y e = refl
    same_front [] (b ∷ []) x y e = cc
    same_front [] (b ∷ c ∷ ys) x y e = cc
    same_front (a ∷ []) [] x y e = cc
    same_front (a ∷ c ∷ xs) [] x y e = cc
    same_front (a ∷ xs) (b ∷ ys) x y e = let first : a ≡ b = cc in let rest : xs ++ x ∷ [] ≡ ys ++ y ∷ [] = cc in ap (λ (l : List KeyedRow). a ∷ l) (same_front xs ys x y rest) ∙ ap (λ (z : KeyedRow). z ∷ ys) first
