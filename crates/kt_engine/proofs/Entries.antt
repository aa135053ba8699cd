-- How many rows and changes disk rowsets tell.
use Rattle.std.proofs.Common.{◌≡◌, ◌≤◌, ◌<◌, ◌+◌, ℕ, zero, suc, Bool, true, false, cond, List, [], ◌∷◌, ◌++◌, length, map, take, get_or, min, Some, Option, refl, sym, ap, ◌∙◌, subst, arith, append_assoc, length-append}
use Rattle.std.specs.Prelude.{◌==◌, ◌^◌, nat_le, nat_lt}
use Rattle.std.specs.List.{AllByRecursion, count_by, sum_by}
use Rattle.std.specs.List.Sorted.{IsNonDecreasingBy}
use Rattle.std.proofs.lemmas.Bool.{leb-true, leb-false, le-leb, lt-leb, ltb-true, ltb-false, ne_eqb, eqb-true, eqb-false}
use Rattle.std.proofs.lemmas.List.{take_more, map_push}
use Rattle.std.proofs.lemmas.List.Sums.{sum_by-cons, sum_by_more}
use Rattle.kt_history.specs.declared.change.Change.{Change}
use Rattle.kt_history.specs.declared.changes.Delta.{Delta}
use Rattle.kt_history.specs.declared.changes.KeyChange.{KeyChange}
use Rattle.kt_history.specs.Rows.{Row, apply, undo}
use Rattle.kt_history.specs.Stores.{Steps, Hist, Store}
use Rattle.kt_histlaws.specs.Disks.{led_over}
use Rattle.kt_rowfiles.specs.Files.{records_for, records_in, put_rising, put_falling, rising, falling}
use Rattle.kt_baseset.specs.declared.rows.KeyedRow.{KeyedRow}
use Rattle.kt_baseset.specs.declared.schema.ColumnShape.{ColumnShape}
use Rattle.kt_baseset.specs.Rows.{AllFit}
use Rattle.kt_diskrowset.specs.declared.data.RowSetData.{RowSetData}
use Rattle.kt_diskrowset.specs.declared.files.FileHeld.{FileHeld}
use Rattle.kt_diskrowset.specs.Data.{files_in, fresh_in, store_in}
use Rattle.kt_diskrowset.specs.Files.{lists_of}
use Rattle.kt_diskrowset.specs.declared.inputs.Inputs.{Inputs}
use Rattle.kt_diskrowset.specs.Rows.{UndosLeadBack, rows_of, hist_at, hists_from}
use Rattle.kt_joblaws.specs.Compacts.{AreRecordsOf, IsOfColumns}
use Rattle.kt_merge.specs.Merge.{IsReadable, changes_in, rows_and_changes}
use Rattle.kt_tablet.specs.Jobs.{entries, entries_in}

-- ---- one more of a list

pub all_push : {X : Type 0} (P : X → Type 0) (xs : List X) (x : X) → AllByRecursion P xs → P x → AllByRecursion P (xs ++ x ∷ [])
all_push P [] x all own = (own, tt)
all_push P (y ∷ xs) x all own = (all.0, all_push P xs x all.1 own)

pub all_more : {X : Type 0} (P : X → Type 0) (xs : List X) (k : ℕ) (x : X) → k < length xs → x ≡ get_or xs k x → AllByRecursion P (take k xs) → P x → AllByRecursion P (take (k + 1) xs)
all_more P xs k x lt is all own = subst (AllByRecursion P) (ap (λ (d : _). take k xs ++ d ∷ []) is ∙ sym (take_more xs k x lt)) (all_push P (take k xs) x all own)

-- two lists that are the same so far, and at the next place
pub take_same : {X : Type 0} (one other : List X) (k : ℕ) (d e : X) → k < length one → k < length other → take k one ≡ take k other → get_or one k d ≡ get_or other k e → take (k + 1) one ≡ take (k + 1) other
take_same one other k d e low high so here = take_more one k d low ∙ ap (λ (l : List _). l ++ get_or one k d ∷ []) so ∙ ap (λ (x : _). take k other ++ x ∷ []) here ∙ sym (take_more other k e high)

-- the records of files, file by file
abbrev pub FileIsOf : List ColumnShape → FileHeld → Type 0
FileIsOf columns f = AreRecordsOf columns f.deltas.value.list

pub files_are_of : (columns : List ColumnShape) (files : List FileHeld) → AllByRecursion (FileIsOf columns) files → AllByRecursion (AreRecordsOf columns) (lists_of files)
files_are_of columns [] all = tt
files_are_of columns (f ∷ files) all = (all.0, files_are_of columns files all.1)

-- a disk rowset is of these columns, file by file
pub of_columns : (columns own other behind : List ColumnShape) (d : RowSetData) (undo redo : List FileHeld) (fresh : List Delta) → AllFit columns d.base.set.value.rows → own ≡ columns → other ≡ columns → behind ≡ columns → undo ≡ d.undo → redo ≡ d.redo → fresh ≡ d.fresh
    → AllByRecursion (AreRecordsOf own) (lists_of undo) → AllByRecursion (AreRecordsOf other) (lists_of redo) → AreRecordsOf behind fresh → IsOfColumns columns d
of_columns columns own other behind d undo redo fresh rows a b e low high last undos redos records = record {
  rows = rows;
  undos = subst (λ (l : List FileHeld). AllByRecursion (AreRecordsOf columns) (lists_of l)) low (subst (λ (l : List ColumnShape). AllByRecursion (AreRecordsOf l) (lists_of undo)) a undos);
  redos = subst (λ (l : List FileHeld). AllByRecursion (AreRecordsOf columns) (lists_of l)) high (subst (λ (l : List ColumnShape). AllByRecursion (AreRecordsOf l) (lists_of redo)) b redos);
  fresh = subst (AreRecordsOf columns) last (subst (λ (l : List ColumnShape). AreRecordsOf l fresh) e records);
}

-- what is read of disk rowsets
pub readable_all : (ds : List RowSetData) → AllByRecursion (λ (d : RowSetData). UndosLeadBack (files_in d)) ds → AllByRecursion (λ (d : RowSetData). IsNonDecreasingBy (λ (x : Delta). x.ordinal) d.fresh) ds → AllByRecursion IsReadable ds
readable_all [] lead order = tt
readable_all (d ∷ ds) lead order = ((lead.0, order.0), readable_all ds lead.1 order.1)

pub few_in : (inputs : Inputs) (many : Bool) → inputs.mems ≡ [] → many ≡ nat_le (2 ^ 31) (sum_by changes_in inputs.rowsets) → many ≡ false → rows_and_changes inputs < 2 ^ 31
few_in inputs many none is few =
    subst (λ (l : List (List KeyChange)). sum_by (λ (list : List KeyChange). length list) l + sum_by changes_in inputs.rowsets < 2 ^ 31) (sym none)
    (let low = leb-false (2 ^ 31) (sum_by changes_in inputs.rowsets) (sym is ∙ few) in omega arith)

-- ---- sums over places

abbrev total : ℕ → ℕ → (ℕ → ℕ) → ℕ
total n zero f = 0
total n (suc m) f = f n + total (suc n) m f

total_zero : (n m : ℕ) → total n m (λ i. 0) ≡ 0
total_zero n zero = refl
total_zero n (suc m) = let rest = total_zero (suc n) m in omega arith

total_sum : (n m : ℕ) (f g : ℕ → ℕ) → total n m (λ i. f i + g i) ≡ total n m f + total n m g
total_sum n zero f g = omega arith
total_sum n (suc m) f g = let rest = total_sum (suc n) m f g in omega arith

total_same : (n m : ℕ) (f g : ℕ → ℕ) → ((i : ℕ) → f i ≡ g i) → total n m f ≡ total n m g
total_same n zero f g e = refl
total_same n (suc m) f g e = let here = e n in let rest = total_same (suc n) m f g e in omega arith

-- one at a place
abbrev once : ℕ → ℕ → ℕ
once o i = cond (o == i) 1 0

total_below : (o n m : ℕ) → o < n → total n m (once o) ≡ 0
total_below o n zero lt = refl
total_below o n (suc m) lt = ap (λ (b : Bool). cond b 1 0 + total (suc n) m (once o)) (ne_eqb o n (λ e. omega arith)) ∙ (let rest = total_below o (suc n) m (omega arith) in omega arith)

total_above : (o n m : ℕ) → n + m ≤ o → total n m (once o) ≡ 0
total_above o n zero le = refl
total_above o n (suc m) le = ap (λ (b : Bool). cond b 1 0 + total (suc n) m (once o)) (ne_eqb o n (λ e. omega arith)) ∙ (let rest = total_above o (suc n) m (omega arith) in omega arith)

total_within : (o n m : ℕ) → n ≤ o → o < n + m → total n m (once o) ≡ 1
total_within o n zero le lt = absurd (omega arith)
total_within o n (suc m) le lt = by (total_within o (suc n) m) (o == n) refl
  where
    by : (suc n ≤ o → o < suc n + m → total (suc n) m (once o) ≡ 1) → (b : Bool) → (o == n) ≡ b → cond b 1 0 + total (suc n) m (once o) ≡ 1
    by behind true e = let rest = total_below o (suc n) m (let same = eqb-true o n e in omega arith) in omega arith
    by behind false e = let rest = behind (let other = eqb-false o n e in omega arith) (omega arith) in omega arith

total_once : (o m : ℕ) → total 0 m (once o) ≡ cond (nat_lt o m) 1 0
total_once o m = by (nat_lt o m) refl
  where
    by : (b : Bool) → nat_lt o m ≡ b → total 0 m (once o) ≡ cond b 1 0
    by true e = let lt = ltb-true o m e in total_within o 0 m (omega arith) (omega arith)
    by false e = let le = ltb-false o m e in total_above o 0 m (omega arith)

-- ---- the records of all rows

-- how many records are of so many rows
abbrev pub told_in : ℕ → List Delta → ℕ
told_in rows records = count_by (λ (d : Delta). nat_lt d.ordinal rows) records

abbrev pub told_in_files : ℕ → List FileHeld → ℕ
told_in_files rows files = sum_by (λ (f : FileHeld). told_in rows f.deltas.value.list) files

for_all : (m : ℕ) (list : List Delta) → total 0 m (λ i. length (records_for i list)) ≡ told_in m list
for_all m [] = total_zero 0 m
for_all m (d ∷ list) =
    total_same 0 m (λ i. length (records_for i (d ∷ list))) (λ i. once d.ordinal i + length (records_for i list)) (λ i. by i (d.ordinal == i))
    ∙ total_sum 0 m (once d.ordinal) (λ i. length (records_for i list))
    ∙ (let own = total_once d.ordinal m in let rest = for_all m list in let more = sum_by-cons (λ (x : Delta). cond (nat_lt x.ordinal m) 1 0) d list in omega arith)
  where
    by : (i : ℕ) (b : Bool) → length (cond b ((d.ts, d.change) ∷ records_for i list) (records_for i list)) ≡ cond b 1 0 + length (records_for i list)
    by i true = omega arith
    by i false = omega arith

in_all : (m : ℕ) (files : List FileHeld) → total 0 m (λ i. length (records_in i (lists_of files))) ≡ told_in_files m files
in_all m [] = total_zero 0 m
in_all m (f ∷ files) =
    total_same 0 m (λ i. length (records_in i (lists_of (f ∷ files)))) (λ i. length (records_for i f.deltas.value.list) + length (records_in i (lists_of files))) (λ i. length-append (records_for i f.deltas.value.list) (records_in i (lists_of files)))
    ∙ total_sum 0 m (λ i. length (records_for i f.deltas.value.list)) (λ i. length (records_in i (lists_of files)))
    ∙ (let own = for_all m f.deltas.value.list in let rest = in_all m files in let more = sum_by-cons (λ (x : FileHeld). told_in m x.deltas.value.list) f files in omega arith)

-- ---- the changes of a row

put_up : (c : ℕ × Change) (steps : Steps) → length (put_rising c steps) ≡ suc (length steps)
put_up c [] = refl
put_up c (s ∷ steps) = by (nat_lt s.0 c.0) (put_up c steps)
  where
    by : (b : Bool) → length (put_rising c steps) ≡ suc (length steps) → length (cond b (s ∷ put_rising c steps) (c ∷ s ∷ steps)) ≡ suc (suc (length steps))
    by true e = ap suc e
    by false e = refl

up_long : (steps : Steps) → length (rising steps) ≡ length steps
up_long [] = refl
up_long (c ∷ steps) = put_up c (rising steps) ∙ ap suc (up_long steps)

put_down : (c : ℕ × Change) (steps : Steps) → length (put_falling c steps) ≡ suc (length steps)
put_down c [] = refl
put_down c (s ∷ steps) = by (nat_lt c.0 s.0) (put_down c steps)
  where
    by : (b : Bool) → length (put_falling c steps) ≡ suc (length steps) → length (cond b (s ∷ put_falling c steps) (c ∷ s ∷ steps)) ≡ suc (suc (length steps))
    by true e = ap suc e
    by false e = refl

down_long : (steps : Steps) → length (falling steps) ≡ length steps
down_long [] = refl
down_long (c ∷ steps) = put_down c (falling steps) ∙ ap suc (down_long steps)

led_long : (undos : Steps) (row : Option Row) → length (led_over undos row) ≡ length undos
led_long [] row = refl
led_long (u ∷ undos) row = length-append (led_over undos (apply u.1 row)) ((u.0, undo u.1 row) ∷ []) ∙ (let rest = led_long undos (apply u.1 row) in omega arith)

-- how many of a row are in files and in memory
abbrev changes_at : RowSetData → ℕ → ℕ
changes_at d n = (length (records_in n (lists_of d.undo)) + length (records_in n (lists_of d.redo))) + length (records_for n d.fresh)

hist_long : (d : RowSetData) (n : ℕ) (row : Row) → length (hist_at (files_in d) (fresh_in d) (n, row)).steps ≡ changes_at d n
hist_long d n row =
    let undos : Steps = falling (records_in n (lists_of d.undo)) in
    let redos : Steps = rising (records_in n (lists_of d.redo)) in
    length-append (led_over undos (Some row) ++ redos) (records_for n d.fresh)
    ∙ (let a = length-append (led_over undos (Some row)) redos in let b = led_long undos (Some row) in let e = down_long (records_in n (lists_of d.undo)) in let f = up_long (records_in n (lists_of d.redo)) in omega arith)

-- ---- and of all rows

abbrev changes_of : List ℕ × Hist → ℕ
changes_of r = length r.1.steps

rows_long : (d : RowSetData) (n : ℕ) (rows : List KeyedRow) → length (hists_from (files_in d) (fresh_in d) n (rows_of rows)) ≡ length rows
rows_long d n [] = refl
rows_long d n (r ∷ rows) = ap suc (rows_long d (suc n) rows)

changes_long : (d : RowSetData) (n : ℕ) (rows : List KeyedRow) → sum_by changes_of (hists_from (files_in d) (fresh_in d) n (rows_of rows)) ≡ total n (length rows) (changes_at d)
changes_long d n [] = refl
changes_long d n (r ∷ rows) =
    sum_by-cons changes_of (r.key, hist_at (files_in d) (fresh_in d) (n, r.cells)) (hists_from (files_in d) (fresh_in d) (suc n) (rows_of rows))
    ∙ (let own = hist_long d n r.cells in let rest = changes_long d (suc n) rows in omega arith)

-- the rows of a disk rowset, and the records of these rows
abbrev pub told_count : RowSetData → ℕ
told_count d = let rows = length d.base.set.value.rows in rows + told_in_files rows d.undo + told_in_files rows d.redo + told_in rows d.fresh

pub entries_told : (d : RowSetData) → entries (store_in d) ≡ told_count d
entries_told d =
    let m : ℕ = length d.base.set.value.rows in
    let rows = rows_long d 0 d.base.set.value.rows in
    let changes = changes_long d 0 d.base.set.value.rows in
    let two = total_sum 0 m (λ i. length (records_in i (lists_of d.undo)) + length (records_in i (lists_of d.redo))) (λ i. length (records_for i d.fresh)) in
    let one = total_sum 0 m (λ i. length (records_in i (lists_of d.undo))) (λ i. length (records_in i (lists_of d.redo))) in
    let a = in_all m d.undo in let b = in_all m d.redo in let e = for_all m d.fresh in
    omega arith

pub entries_all : (ds : List RowSetData) → entries_in (map store_in ds) ≡ sum_by told_count ds
entries_all [] = refl
entries_all (d ∷ ds) =
    sum_by-cons entries (store_in d) (map store_in ds) ∙ (let own = entries_told d in let rest = entries_all ds in let more = sum_by-cons told_count d ds in omega arith)

-- one more is read
pub stores_more : (list after : List RowSetData) (d x : RowSetData) (was : List RowSetData) → store_in d ≡ store_in x → was ≡ x ∷ after → map store_in (list ++ d ∷ []) ++ map store_in after ≡ map store_in list ++ map store_in was
stores_more list after d x was same is =
    ap (λ (l : List Store). l ++ map store_in after) (map_push store_in list d) ∙ append_assoc (map store_in list) (store_in d ∷ []) (map store_in after)
    ∙ ap (λ (s : Store). map store_in list ++ s ∷ map store_in after) same ∙ ap (λ (l : List RowSetData). map store_in list ++ map store_in l) (sym is)

-- ---- counts up to a top

-- whether a count is as much as the top
pub capped_test : (top n : ℕ) → nat_le top (min n top) ≡ nat_le top n
capped_test top n = by (nat_le top n) refl
  where
    by : (b : Bool) → nat_le top n ≡ b → nat_le top (min n top) ≡ b
    by true e = le-leb top (min n top) (let le = leb-true top n e in omega arith)
    by false e = lt-leb top (min n top) (let lt = leb-false top n e in omega arith)

-- a count goes on with four more, of which three go up to the top
capped_sum : (top was rows a b e count x y z now after : ℕ) → count ≡ min was top → x ≡ min a top → y ≡ min b top → z ≡ min e top → now ≡ min (count + rows + x + y + z) top → after ≡ was + (rows + a + b + e) → now ≡ min after top
capped_sum top was rows a b e count x y z now after count_is x_is y_is z_is now_is after_is = omega arith

-- one more disk rowset is counted
pub told_more : (list : List RowSetData) (k : ℕ) (d : RowSetData) (undo redo : List FileHeld) (fresh : List Delta) (rows count x y z now : ℕ) → k < length list → d ≡ get_or list k d → rows ≡ length d.base.set.value.rows → undo ≡ d.undo → redo ≡ d.redo → fresh ≡ d.fresh
    → count ≡ min (sum_by told_count (take k list)) (2 ^ 31) → x ≡ min (told_in_files rows undo) (2 ^ 31) → y ≡ min (told_in_files rows redo) (2 ^ 31) → z ≡ min (told_in rows fresh) (2 ^ 31) → now ≡ min (count + rows + x + y + z) (2 ^ 31)
    → now ≡ min (sum_by told_count (take (k + 1) list)) (2 ^ 31)
told_more list k d undo redo fresh rows count x y z now lt is rows_is undo_is redo_is fresh_is count_is x_is y_is z_is now_is =
    let m : ℕ = length d.base.set.value.rows in
    let a : x ≡ min (told_in_files m d.undo) (2 ^ 31) = x_is ∙ ap (λ (l : List FileHeld). min (told_in_files rows l) (2 ^ 31)) undo_is ∙ ap (λ (n : ℕ). min (told_in_files n d.undo) (2 ^ 31)) rows_is in
    let b : y ≡ min (told_in_files m d.redo) (2 ^ 31) = y_is ∙ ap (λ (l : List FileHeld). min (told_in_files rows l) (2 ^ 31)) redo_is ∙ ap (λ (n : ℕ). min (told_in_files n d.redo) (2 ^ 31)) rows_is in
    let e : z ≡ min (told_in m d.fresh) (2 ^ 31) = z_is ∙ ap (λ (l : List Delta). min (told_in rows l) (2 ^ 31)) fresh_is ∙ ap (λ (n : ℕ). min (told_in n d.fresh) (2 ^ 31)) rows_is in
    capped_sum (2 ^ 31) (sum_by told_count (take k list)) m (told_in_files m d.undo) (told_in_files m d.redo) (told_in m d.fresh) count x y z now (sum_by told_count (take (k + 1) list)) count_is a b e
    (now_is ∙ ap (λ (n : ℕ). min (count + n + x + y + z) (2 ^ 31)) rows_is)
    (sum_by_more told_count list k d lt ∙ ap (λ (x : RowSetData). sum_by told_count (take k list) + told_count x) (sym is))
