-- The rows that written disk rowsets tell.
use Rattle.std.proofs.Common.{◌≡◌, ◌≢◌, ◌≤◌, ◌+◌, ℕ, suc, Bool, true, false, cond, List, [], ◌∷◌, ◌++◌, length, map, Option, Some, None, refl, sym, ap, ◌∙◌, arith}
use Rattle.std.specs.Prelude.{◌==◌}
use Rattle.std.specs.List.{All, AllByRecursion}
use Rattle.std.specs.Option.{option_map}
use Rattle.std.specs.Ordering.{eq_by_cmp}
use Rattle.std.specs.FinMap.Entries.{find}
use Rattle.std.proofs.lemmas.Bool.{eq-eqb, ne_eqb}
use Rattle.std.proofs.lemmas.List.{append-nil}
use Rattle.kt_history.specs.declared.changes.Delta.{Delta}
use Rattle.kt_history.specs.Rows.{Row, key_cmp}
use Rattle.kt_history.specs.Stores.{Steps}
use Rattle.kt_histlaws.specs.Disks.{DiskRow}
use Rattle.kt_histlaws.specs.Histories.{or_else}
use Rattle.kt_baseset.specs.declared.rows.KeyedRow.{KeyedRow}
use Rattle.kt_baseset.specs.Rows.{keys_in}
use Rattle.kt_rowfiles.specs.Files.{row_under, records_for, records_in}
use Rattle.kt_rowfiles.specs.Reading.{steps_in}
use Rattle.kt_diskrowset.specs.declared.files.FileHeld.{FileHeld}
use Rattle.kt_diskrowset.specs.Files.{lists_of}
use Rattle.kt_diskrowset.specs.Rows.{rows_of}
use Rattle.kt_merge.specs.Minor.{held_records}
use Rattle.kt_merge.specs.Rows.{redos_of}
use Rattle.kt_merge.specs.Told.{Told, told_from, deletes_of, AreOfRows}

-- ---- the records of a row

pub records-append : (n : ℕ) (xs ys : List Delta) → records_for n (xs ++ ys) ≡ records_for n xs ++ records_for n ys
records-append n [] ys = refl
records-append n (d ∷ xs) ys = by (d.ordinal == n) (records-append n xs ys)
  where
    by : (b : Bool) → records_for n (xs ++ ys) ≡ records_for n xs ++ records_for n ys
        → cond b ((d.ts, d.change) ∷ records_for n (xs ++ ys)) (records_for n (xs ++ ys)) ≡ cond b ((d.ts, d.change) ∷ records_for n xs) (records_for n xs) ++ records_for n ys
    by true h = ap (λ (l : Steps). (d.ts, d.change) ∷ l) h
    by false h = h

-- each is of this row
abbrev pub AllOf : ℕ → List Delta → Type 0
AllOf n records = AllByRecursion (λ (d : Delta). d.ordinal ≡ n) records

pub all_of : (n : ℕ) (xs : List Delta) → All (λ (d : Delta). d.ordinal ≡ n) xs → AllOf n xs
all_of n [] h = tt
all_of n (d ∷ xs) h = (h 0 d (omega arith), all_of n xs (λ k e low. h (suc k) e (omega arith)))

pub own_records : (n : ℕ) (xs : List Delta) → AllOf n xs → records_for n xs ≡ steps_in xs
own_records n [] h = refl
own_records n (d ∷ xs) h = ap (λ (b : Bool). cond b ((d.ts, d.change) ∷ records_for n xs) (records_for n xs)) (eq-eqb d.ordinal n h.0) ∙ ap (λ (l : Steps). (d.ts, d.change) ∷ l) (own_records n xs h.1)

pub other_records : (n m : ℕ) (xs : List Delta) → m ≢ n → AllOf m xs → records_for n xs ≡ []
other_records n m [] ne h = refl
other_records n m (d ∷ xs) ne h =
    ap (λ (b : Bool). cond b ((d.ts, d.change) ∷ records_for n xs) (records_for n xs)) (ne_eqb d.ordinal n (λ e. ne (sym h.0 ∙ e))) ∙ other_records n m xs ne h.1

pub earlier_records : (n m : ℕ) (xs : List Delta) → m ≤ n → AreOfRows m xs → records_for n xs ≡ []
earlier_records n m [] le h = refl
earlier_records n m (d ∷ xs) le h =
    ap (λ (b : Bool). cond b ((d.ts, d.change) ∷ records_for n xs) (records_for n xs)) (ne_eqb d.ordinal n (λ e. absurd (omega (arith, e, le, h.0)))) ∙ earlier_records n m xs le h.1

-- ---- one row more

told_more_at : (n m : ℕ) (rows : List KeyedRow) (r : KeyedRow) (undos redos u v : List Delta) → m ≡ n + length rows → AreOfRows m undos → AreOfRows m redos → AllOf m u → AllOf m v
    → told_from n (rows ++ r ∷ []) (undos ++ u) (redos ++ v) ≡ told_from n rows undos redos ++ (r.key, record { base = r.cells; undos = steps_in u; redos = steps_in v }) ∷ []
told_more_at n m [] r undos redos u v at low below own deletes =
    let same : m ≡ n = omega (arith, at) in
    let here : (old more : List Delta) → AreOfRows m old → AllOf m more → records_for n (old ++ more) ≡ steps_in more =
    λ old more a b. records-append n old more ∙ ap (λ (l : Steps). l ++ records_for n more) (earlier_records n m old (omega (arith, same)) a)
    ∙ ap (λ (k : ℕ). records_for k more) (sym same) ∙ own_records m more b in
    ap (λ (s : Steps). (r.key, record { base = r.cells; undos = s; redos = records_for n (redos ++ v) }) ∷ []) (here undos u low own)
    ∙ ap (λ (s : Steps). (r.key, record { base = r.cells; undos = steps_in u; redos = s }) ∷ []) (here redos v below deletes)
told_more_at n m (x ∷ rows) r undos redos u v at low below own deletes =
    let other : m ≢ n = λ e. absurd (omega (arith, at, e)) in
    let here : (old more : List Delta) → AllOf m more → records_for n (old ++ more) ≡ records_for n old =
    λ old more b. records-append n old more ∙ ap (λ (l : Steps). records_for n old ++ l) (other_records n m more other b) ∙ append-nil (records_for n old) in
    ap (λ (s : Steps). (x.key, record { base = x.cells; undos = s; redos = records_for n (redos ++ v) }) ∷ told_from (suc n) (rows ++ r ∷ []) (undos ++ u) (redos ++ v)) (here undos u own)
    ∙ ap (λ (s : Steps). (x.key, record { base = x.cells; undos = records_for n undos; redos = s }) ∷ told_from (suc n) (rows ++ r ∷ []) (undos ++ u) (redos ++ v)) (here redos v deletes)
    ∙ ap (λ (t : Told). (x.key, record { base = x.cells; undos = records_for n undos; redos = records_for n redos }) ∷ t) (told_more_at (suc n) m rows r undos redos u v (omega (arith, at)) low below own deletes)

pub delete_is : (n : ℕ) (deleted : Option ℕ) → (steps_in (deletes_of n deleted) ≡ redos_of deleted) × AllOf n (deletes_of n deleted)
delete_is n None = (refl, tt)
delete_is n (Some ts) = (refl, (refl, tt))

pub told_more : (rows : List KeyedRow) (r : KeyedRow) (undos redos u : List Delta) (deleted : Option ℕ) → AreOfRows (length rows) undos → AreOfRows (length rows) redos → AllOf (length rows) u
    → told_from 0 (rows ++ r ∷ []) (undos ++ u) (redos ++ deletes_of (length rows) deleted) ≡ told_from 0 rows undos redos ++ (r.key, record { base = r.cells; undos = steps_in u; redos = redos_of deleted }) ∷ []
told_more rows r undos redos u deleted low below own =
    let delete = delete_is (length rows) deleted in
    told_more_at 0 (length rows) rows r undos redos u (deletes_of (length rows) deleted) (omega arith) low below own delete.1
    ∙ ap (λ (s : Steps). told_from 0 rows undos redos ++ (r.key, record { base = r.cells; undos = steps_in u; redos = s }) ∷ []) delete.0

-- records stay of the first rows where there is one more, and the row's own are
low_more : (n : ℕ) (xs : List Delta) → AreOfRows n xs → AreOfRows (n + 1) xs
low_more n [] h = tt
low_more n (d ∷ xs) h = (omega (arith, h.0), low_more n xs h.1)

low_own : (n : ℕ) (xs : List Delta) → AllOf n xs → AreOfRows (n + 1) xs
low_own n [] h = tt
low_own n (d ∷ xs) h = (omega (arith, h.0), low_own n xs h.1)

both_low : (n : ℕ) (xs ys : List Delta) → AreOfRows n xs → AreOfRows n ys → AreOfRows n (xs ++ ys)
both_low n [] ys h k = k
both_low n (d ∷ xs) ys h k = (h.0, both_low n xs ys h.1 k)

pub rows_more : (n : ℕ) (old own : List Delta) → AreOfRows n old → AllOf n own → AreOfRows (n + 1) (old ++ own)
rows_more n old own h k = both_low (n + 1) old own (low_more n old h) (low_own n own k)

pub deletes_are_own : (n : ℕ) (deleted : Option ℕ) → AllOf n (deletes_of n deleted)
deletes_are_own n deleted = (delete_is n deleted).1

-- ---- what is told of a key

-- a row that is found, with its records
abbrev pub row_found : List Delta → List Delta → ℕ × Row → DiskRow
row_found undos redos found = record { base = found.1; undos = records_for found.0 undos; redos = records_for found.0 redos }

pub find_told : (q : List ℕ) (n : ℕ) (rows : List KeyedRow) (undos redos : List Delta) → find key_cmp q (told_from n rows undos redos) ≡ option_map (row_found undos redos) (row_under q n (rows_of rows))
find_told q n [] undos redos = refl
find_told q n (r ∷ rows) undos redos = by (eq_by_cmp key_cmp q r.key) (find_told q (suc n) rows undos redos)
  where
    by : (b : Bool) → find key_cmp q (told_from (suc n) rows undos redos) ≡ option_map (row_found undos redos) (row_under q (suc n) (rows_of rows))
        → cond b (Some (row_found undos redos (n, r.cells))) (find key_cmp q (told_from (suc n) rows undos redos)) ≡ option_map (row_found undos redos) (cond b (Some (n, r.cells)) (row_under q (suc n) (rows_of rows)))
    by true h = refl
    by false h = h

-- the records of a row in several files
pub in_files : (n : ℕ) (files : List FileHeld) → records_for n (held_records files) ≡ records_in n (lists_of files)
in_files n [] = refl
in_files n (f ∷ files) = records-append n f.deltas.value.list (held_records files) ∙ ap (λ (l : Steps). records_for n f.deltas.value.list ++ l) (in_files n files)

-- among rows behind others
pub find-append : (q : List ℕ) (xs ys : Told) → find key_cmp q (xs ++ ys) ≡ or_else (find key_cmp q xs) (find key_cmp q ys)
find-append q [] ys = refl
find-append q (x ∷ xs) ys = by (eq_by_cmp key_cmp q x.0) (find-append q xs ys)
  where
    by : (b : Bool) → find key_cmp q (xs ++ ys) ≡ or_else (find key_cmp q xs) (find key_cmp q ys) → cond b (Some x.1) (find key_cmp q (xs ++ ys)) ≡ or_else (cond b (Some x.1) (find key_cmp q xs)) (find key_cmp q ys)
    by true h = refl
    by false h = h

pub told_keys : (n : ℕ) (rows : List KeyedRow) (undos redos : List Delta) → map (λ (r : List ℕ × DiskRow). r.0) (told_from n rows undos redos) ≡ keys_in rows
told_keys n [] undos redos = refl
told_keys n (r ∷ rows) undos redos = ap (λ (keys : List (List ℕ)). r.key ∷ keys) (told_keys (suc n) rows undos redos)
