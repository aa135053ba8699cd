-- The rows of new files, one by one, as REDO records are folded into them.
use Rattle.std.proofs.Common.{◌≡◌, ◌≢◌, ◌≤◌, ◌<◌, ◌+◌, ◌-◌, ◌⊎◌, ◌^◌, ℕ, zero, suc, inl, inr, Bool, true, false, cond, List, [], ◌∷◌, ◌++◌, length, get_or, take, Option, Some, None, refl, sym, ap, ◌∙◌, subst, arith}
use Rattle.std.specs.Prelude.{nat_lt}
use Rattle.std.specs.List.{All, AllByRecursion, Contains}
use Rattle.std.proofs.lemmas.Bool.{cases_eq, eq-eqb, ne_eqb}
use Rattle.std.proofs.lemmas.List.{append-nil, map-append, length-map}
use Rattle.kt_history.specs.declared.change.Change.{Change}
use Rattle.kt_history.specs.declared.change.Change.TheVariants.{Del}
use Rattle.kt_history.specs.declared.changes.Delta.{Delta}
use Rattle.kt_history.specs.Rows.{Row}
use Rattle.kt_history.specs.Stores.{Steps, Hist}
use Rattle.kt_histlaws.specs.Disks.{DiskRow}
use Rattle.kt_baseset.specs.declared.schema.ColumnShape.{ColumnShape}
use Rattle.kt_baseset.specs.declared.rows.KeyedRow.{KeyedRow}
use Rattle.std.specs.declared.cmp.Ordering.TheVariants.{Less}
use Rattle.kt_history.specs.Rows.{key_cmp}
use Rattle.kt_baseset.specs.Rows.{keys_in, RowFits, IsBase}
use Rattle.kt_baseset.specs.Tables.{BaseValue, no_row, key_at, cells_in}
use Rattle.kt_rowfiles.specs.Files.{records_for, records_in, put_rising, rising}
use Rattle.kt_rowfiles.specs.Reading.{step_in, steps_in}
use Rattle.kt_rowfiles.specs.Flushing.{after_all, written, written_deleted}
use Rattle.kt_diskrowset.specs.declared.files.FileHeld.{FileHeld}
use Rattle.kt_diskrowset.specs.Files.{lists_of}
use Rattle.kt_merge.specs.Folding.{on_base, folded_by, row_folded}
use Rattle.kt_merge.specs.Fitting.{IsUnder, AreFalling, FitsFiles}
use Rattle.kt_merge.specs.Major.{redos_at, row_so_far, redos_from, AreFoldedTo, Falls, IsHeld, IsOldDelete}
use Rattle.kt_merge.specs.Minor.{held_records}
use Rattle.kt_merge.specs.OneKey.{UndosFitFile}
use Rattle.kt_merge.specs.Rows.{deleted_at, but_last, before_last, redos_of, disk_row_of}
use Rattle.kt_merge.specs.Told.{deletes_of, AreOfRows}
use Rattle.kt_merge.specs.declared.output.Growing.{Growing}
use Rattle.kt_merge.specs.declared.row.RowWritten.{RowWritten}
use Rattle.kt_merge.proofs.Copying.{take_more_of}
use Rattle.kt_merge.proofs.Cuts.{all_more}
use Rattle.kt_merge.proofs.Goes.{few_rising, few_undone, few_front}
use Rattle.kt_merge.proofs.RoomFirst.{sums, sums_few}
use Rattle.kt_merge.proofs.ToldRows.{AllOf, records-append, own_records, other_records, earlier_records, delete_is, in_files}
use Rattle.kt_merge.proofs.Written.{came_from, ends_with}

get_or_any : {X : Type 0} (xs : List X) (i : ℕ) (a b : X) → i < length xs → get_or xs i a ≡ get_or xs i b
get_or_any [] i a b low = absurd (omega arith)
get_or_any (x ∷ xs) zero a b low = refl
get_or_any (x ∷ xs) (suc i) a b low = get_or_any xs i a b (omega arith)

-- ---- one row more

cells_front : (rows : List KeyedRow) (r : KeyedRow) (n : ℕ) → n < length rows → cells_in (rows ++ r ∷ []) n ≡ cells_in rows n
cells_front [] r n low = absurd (omega arith)
cells_front (x ∷ rows) r zero low = refl
cells_front (x ∷ rows) r (suc n) low = cells_front rows r n (omega arith)

cells_last : (rows : List KeyedRow) (r : KeyedRow) → cells_in (rows ++ r ∷ []) (length rows) ≡ r.cells
cells_last [] r = refl
cells_last (x ∷ rows) r = cells_last rows r

abbrev made : Row → Steps → Steps → DiskRow
made base undos redos = record { base = base; undos = undos; redos = redos }

same_made : (a b : Row) (s t v w : Steps) → a ≡ b → s ≡ t → v ≡ w → made a s v ≡ made b t w
same_made a b s t v w e f g = ap (λ (x : Row). made x s v) e ∙ ap (λ (x : Steps). made b x v) f ∙ ap (λ (x : Steps). made b t x) g

module _ (old new : Growing) (r : KeyedRow) (u : List Delta) (deleted : Option ℕ) (m : ℕ) (at : m ≡ length old.rows.items)
    (rows : new.rows.items ≡ old.rows.items ++ r ∷ []) (undos : new.undos.items ≡ old.undos.items ++ u) (redos : new.redos.items ≡ old.redos.items ++ deletes_of (length old.rows.items) deleted) (own : AllOf m u) where
  deletes : List Delta
  deletes = deletes_of (length old.rows.items) deleted

  -- the earlier rows are as they were
  pub row_same : (n : ℕ) → n < m → row_so_far n new ≡ row_so_far n old
  row_same n low =
      let ne : m ≢ n = λ e. absurd (omega (arith, e, low)) in
      let other : length old.rows.items ≢ n = λ e. absurd (omega (arith, e, low, at)) in
      same_made (cells_in new.rows.items n) (cells_in old.rows.items n) (records_for n new.undos.items) (records_for n old.undos.items) (records_for n new.redos.items) (records_for n old.redos.items)
      (ap (λ (l : List KeyedRow). cells_in l n) rows ∙ cells_front old.rows.items r n (omega (arith, at, low)))
      (ap (records_for n) undos ∙ records-append n old.undos.items u ∙ ap (λ (l : Steps). records_for n old.undos.items ++ l) (other_records n m u ne own) ∙ append-nil (records_for n old.undos.items))
      (ap (records_for n) redos ∙ records-append n old.redos.items (deletes_of (length old.rows.items) deleted)
      ∙ ap (λ (l : Steps). records_for n old.redos.items ++ l) (other_records n (length old.rows.items) (deletes_of (length old.rows.items) deleted) other (delete_is (length old.rows.items) deleted).1) ∙ append-nil (records_for n old.redos.items))

  -- and the next one is new
  pub row_new : AreOfRows (length old.rows.items) old.undos.items → AreOfRows (length old.rows.items) old.redos.items → row_so_far m new ≡ made r.cells (steps_in u) (redos_of deleted)
  row_new low below =
      let k = length old.rows.items in
      let ds = deletes_of (length old.rows.items) deleted in
      let delete = delete_is (length old.rows.items) deleted in
      same_made (cells_in new.rows.items m) r.cells (records_for m new.undos.items) (steps_in u) (records_for m new.redos.items) (redos_of deleted)
      (ap (λ (l : List KeyedRow). cells_in l m) rows ∙ ap (cells_in (old.rows.items ++ r ∷ [])) at ∙ cells_last old.rows.items r)
      (ap (records_for m) undos ∙ records-append m old.undos.items u ∙ ap (λ (l : Steps). l ++ records_for m u) (earlier_records m k old.undos.items (omega (arith, at)) low) ∙ own_records m u own)
      (ap (records_for m) redos ∙ records-append m old.redos.items ds ∙ ap (λ (l : Steps). l ++ records_for m ds) (earlier_records m k old.redos.items (omega (arith, at)) below)
      ∙ own_records m ds (subst (λ (x : ℕ). AllOf x ds) (sym at) delete.1) ∙ delete.0)

-- the changes of a row, behind none
pub redos_are : (none list : List Delta) (all : Steps) → none ≡ [] → steps_in list ≡ steps_in none ++ all → steps_in list ≡ all
redos_are none list all empty so = so ∙ ap (λ (l : List Delta). steps_in l ++ all) empty

-- ---- deletes that are records of the old files

abbrev Has : ℕ × Change → Steps → Type 0
Has c [] = ⊥
Has c (x ∷ steps) = (x ≡ c) ⊎ Has c steps

has_last : (c : ℕ × Change) (steps : Steps) → Has c (steps ++ c ∷ [])
has_last c [] = inl refl
has_last c (x ∷ steps) = inr (has_last c steps)

has_put : (c x : ℕ × Change) (steps : Steps) → Has c (put_rising x steps) → Has c (x ∷ steps)
has_put c x [] h = h
has_put c x (d ∷ steps) h = by (nat_lt d.0 x.0) h (λ more. has_put c x steps more)
  where
    turned : Has c (x ∷ steps) → Has c (x ∷ d ∷ steps)
    turned (inl a) = inl a
    turned (inr b) = inr (inr b)

    in_rest : (Has c (put_rising x steps) → Has c (x ∷ steps)) → Has c (d ∷ put_rising x steps) → Has c (x ∷ d ∷ steps)
    in_rest more (inl a) = inr (inl a)
    in_rest more (inr b) = turned (more b)

    by : (b : Bool) → Has c (cond b (d ∷ put_rising x steps) (x ∷ d ∷ steps)) → (Has c (put_rising x steps) → Has c (x ∷ steps)) → Has c (x ∷ d ∷ steps)
    by true g more = in_rest more g
    by false g more = g

has_rising : (c : ℕ × Change) (steps : Steps) → Has c (rising steps) → Has c steps
has_rising c [] h = h
has_rising c (x ∷ steps) h = by (has_put c x (rising steps) h) (λ more. has_rising c steps more)
  where
    by : Has c (x ∷ rising steps) → (Has c (rising steps) → Has c steps) → Has c (x ∷ steps)
    by (inl a) more = inl a
    by (inr b) more = inr (more b)

later : (list : List Delta) (d x : Delta) → Contains list x → Contains (d ∷ list) x
later list d x has = (suc has.0, omega (arith, has.1), has.2)

has_record : (n : ℕ) (list : List Delta) (c : ℕ × Change) → Has c (records_for n list) → Contains list (record { ordinal = n; ts = c.0; change = c.1 })
has_record n [] c h = absurd h
has_record n (d ∷ list) c h = elim (cases_eq d.ordinal n) [
  | inl same ↦ here same (subst (Has c) (ap (λ (b : Bool). cond b ((d.ts, d.change) ∷ records_for n list) (records_for n list)) (eq-eqb d.ordinal n same)) h) (λ more. has_record n list c more)
  | inr ne ↦ later list d (record { ordinal = n; ts = c.0; change = c.1 }) (has_record n list c (subst (Has c) (ap (λ (b : Bool). cond b ((d.ts, d.change) ∷ records_for n list) (records_for n list)) (ne_eqb d.ordinal n ne)) h))
]
  where
    here : d.ordinal ≡ n → Has c ((d.ts, d.change) ∷ records_for n list) → (Has c (records_for n list) → Contains list (record { ordinal = n; ts = c.0; change = c.1 })) → Contains (d ∷ list) (record { ordinal = n; ts = c.0; change = c.1 })
    here same (inl is) more = (0, omega arith, ap (λ (m : ℕ). ◌mk m d.ts d.change) same ∙ ap (λ (x : ℕ × Change). ◌mk n x.0 x.1) is)
      where
        ◌mk : ℕ → ℕ → Change → Delta
        ◌mk m ts change = record { ordinal = m; ts = ts; change = change }
    here same (inr rest) more = later list d (record { ordinal = n; ts = c.0; change = c.1 }) (more rest)

old_delete : (redo : List FileHeld) (n ts : ℕ) → deleted_at (redos_at n redo) ≡ Some ts → IsOldDelete redo (record { ordinal = n; ts = ts; change = Del })
old_delete redo n ts is =
    let last : Has (ts, Del) (redos_at n redo) = subst (Has (ts, Del)) (sym (ends_with (redos_at n redo) ts is)) (has_last (ts, Del) (but_last (redos_at n redo))) in
    let listed : Has (ts, Del) (records_for n (held_records redo)) = subst (Has (ts, Del)) (sym (in_files n redo)) (has_rising (ts, Del) (records_in n (lists_of redo)) last) in
    (refl, has_record n (held_records redo) (ts, Del) listed)

pub deletes_more : (redo : List FileHeld) (n m : ℕ) (old new : List Delta) (deleted : Option ℕ) → n ≡ m → new ≡ old ++ deletes_of m deleted → ((ts : ℕ) → deleted ≡ Some ts → deleted_at (redos_at n redo) ≡ Some ts)
    → AllByRecursion (IsOldDelete redo) old → AllByRecursion (IsOldDelete redo) new
deletes_more redo n m old new deleted same put are all = subst (AllByRecursion (IsOldDelete redo)) (sym put) (by deleted are)
  where
    by : (o : Option ℕ) → ((ts : ℕ) → o ≡ Some ts → deleted_at (redos_at n redo) ≡ Some ts) → AllByRecursion (IsOldDelete redo) (old ++ deletes_of m o)
    by None f = subst (AllByRecursion (IsOldDelete redo)) (sym (append-nil old)) all
    by (Some ts) f = all_more (IsOldDelete redo) old (record { ordinal = m; ts = ts; change = Del }) all (subst (λ (k : ℕ). IsOldDelete redo (record { ordinal = k; ts = ts; change = Del })) same (old_delete redo n ts (f ts refl)))

-- ---- what a row is folded to

abbrev first_ts : Steps → ℕ
first_ts [] = 0
first_ts (c ∷ steps) = c.0

-- it is deleted where the last REDO record deletes it
pub folded_deletes : (j : ℕ) (base : Row) (steps : Steps) (w : RowWritten) → Some (disk_row_of w) ≡ row_folded j base steps → (ts : ℕ) → w.deleted ≡ Some ts → deleted_at steps ≡ Some ts
folded_deletes j base steps w is ts e = by (deleted_at steps) (sym is)
  where
    h : Hist
    h = on_base base steps

    last : (t : ℕ) → ((t, Del) ∷ []) ≡ redos_of w.deleted → Some t ≡ Some ts
    last t f = ap (λ (n : ℕ). Some n) (ap first_ts (f ∙ ap redos_of e))

    none : [] ≡ redos_of w.deleted → ⊥
    none f = let g : [] ≡ ((ts, Del) ∷ []) = f ∙ ap redos_of e in cc

    by : (o : Option ℕ) → folded_by j h o ≡ Some (disk_row_of w) → o ≡ Some ts
    by None f = absurd (none (ap (λ (d : DiskRow). d.redos) (came_from (written j h) (after_all h.steps h.first) (disk_row_of w) f).2))
    by (Some t) f = last t (ap (λ (d : DiskRow). d.redos) (came_from (written_deleted j (before_last h) t) (after_all (before_last h).steps h.first) (disk_row_of w) f).2)

-- with no more UNDO records than it had REDO records
pub few_folded : (j : ℕ) (base : Row) (list : List Delta) (w : RowWritten) → Some (disk_row_of w) ≡ row_folded j base (steps_in list) → length w.undos.items ≤ length list
few_folded j base list w is =
    let few = by (deleted_at (steps_in list)) (sym is) in
    let a = length-map w.undos.items step_in in
    let b = length-map list step_in in
    omega (arith, few, a, b)
  where
    h : Hist
    h = on_base base (steps_in list)

    by : (o : Option ℕ) → folded_by j h o ≡ Some (disk_row_of w) → length (steps_in w.undos.items) ≤ length (steps_in list)
    by None f =
        let from = came_from (written j h) (after_all h.steps h.first) (disk_row_of w) f in
        let few = few_undone j h.steps h.first [] in
        subst (λ (x : DiskRow). length x.undos ≤ length (steps_in list)) from.2 (omega (arith, few))
    by (Some t) f =
        let from = came_from (written_deleted j (before_last h) t) (after_all (before_last h).steps h.first) (disk_row_of w) f in
        let few = few_undone j (but_last h.steps) h.first [] in
        let front = few_front (length h.steps - 1) h.steps in
        subst (λ (x : DiskRow). length x.undos ≤ length (steps_in list)) from.2 (omega (arith, few, front))

-- files can hold it
falls_in : (top : Option ℕ) (b : ℕ) (undos : List Delta) → b ≤ 2 ^ 64 → ((t : ℕ) → t < b → IsUnder top t) → Falls b (steps_in undos) → UndosFitFile (steps_in undos) → AreFalling top undos
falls_in top b [] le so h fit = tt
falls_in top b (d ∷ undos) le so h fit = (so d.ts h.0, omega (arith, h.0, le), fit.0, falls_in (Some d.ts) d.ts undos (omega (arith, h.0, le)) (λ t lt. lt) h.1 fit.1)

pub held_fits : (columns : List ColumnShape) (key : List ℕ) (w : RowWritten) → length key ≤ 16384 → IsHeld columns (disk_row_of w) → FitsFiles columns key w
held_fits columns key w short h = record { short = short; cells = h.cells; undos = falls_in None (2 ^ 64) w.undos.items (omega arith) (λ t lt. tt) h.fall h.fit }

-- a row without records
pub no_records : (n : ℕ) (w : RowWritten) → w.undos.items ≡ [] → All (λ (d : Delta). d.ordinal ≡ n) w.undos.items
no_records n w none = subst (All (λ (d : Delta). d.ordinal ≡ n)) (sym none) (λ k d low. absurd (omega arith))

-- ---- how many records there are

redos_sums : (n k : ℕ) (files : List FileHeld) → redos_from n k files ≡ sums n k (held_records files)
redos_sums n zero files = refl
redos_sums n (suc k) files =
    let rest = redos_sums (suc n) k files in
    let here = few_rising (records_in n (lists_of files)) in
    let same = ap length (in_files n files) in
    omega (arith, rest, here, same)

pub redos_few : (k : ℕ) (files : List FileHeld) → redos_from 0 k files ≤ length (held_records files)
redos_few k files = let few = sums_few 0 k (held_records files) in let same = redos_sums 0 k files in omega (arith, few, same)

redos_next : (n k : ℕ) (files : List FileHeld) → redos_from n (suc k) files ≡ redos_from n k files + length (redos_at (n + k) files)
redos_next n zero files = let e : n ≡ n + 0 = omega arith in let same = ap (λ (x : ℕ). length (redos_at x files)) e in omega (arith, same)
redos_next n (suc k) files =
    let rest = redos_next (suc n) k files in
    let e : suc n + k ≡ n + suc k = omega arith in
    let same = ap (λ (x : ℕ). length (redos_at x files)) e in
    omega (arith, rest, same)

pub redos_more : (k : ℕ) (files : List FileHeld) → redos_from 0 (k + 1) files ≡ redos_from 0 k files + length (redos_at k files)
redos_more k files =
    let e : k + 1 ≡ suc k = omega arith in
    let z : 0 + k ≡ k = omega arith in
    ap (λ (x : ℕ). redos_from 0 x files) e ∙ redos_next 0 k files ∙ ap (λ (x : ℕ). redos_from 0 k files + length (redos_at x files)) z

-- ---- the keys of the first rows

front_length : (keys : List (List ℕ)) (m : ℕ) → m ≤ length keys → length (take m keys) ≡ m
front_length keys zero low = refl
front_length [] (suc m) low = absurd (omega arith)
front_length (k ∷ keys) (suc m) low = ap suc (front_length keys m (omega arith))

pub row_count : (rows : List KeyedRow) (keys : List (List ℕ)) (m : ℕ) → keys_in rows ≡ take m keys → m ≤ length keys → m ≡ length rows
row_count rows keys m front low =
    let a = ap length front in
    let b = length-map rows (λ (r : KeyedRow). r.key) in
    let c = front_length keys m low in
    omega (arith, a, b, c)

pub key_is : (rows : List KeyedRow) (i : ℕ) → i < length rows → key_at rows i ≡ get_or (keys_in rows) i []
key_is [] i low = absurd (omega arith)
key_is (r ∷ rows) zero low = refl
key_is (r ∷ rows) (suc i) low = key_is rows i (omega arith)

pub keys_count : (rows : List KeyedRow) → length (keys_in rows) ≡ length rows
keys_count rows = length-map rows (λ (r : KeyedRow). r.key)

all_front : (P : List ℕ → Type 0) (keys : List (List ℕ)) (m : ℕ) → m ≤ length keys → ((i : ℕ) → i < m → P (get_or keys i [])) → AllByRecursion P (take m keys)
all_front P keys zero low each = tt
all_front P [] (suc m) low each = absurd (omega arith)
all_front P (k ∷ keys) (suc m) low each = (each 0 (omega arith), all_front P keys m (omega arith) (λ i lt. each (suc i) (omega arith)))

module _ (schema : List ColumnShape) (rows : List KeyedRow) (m : ℕ) (base : IsBase schema rows) (low : m < length rows) where
  -- the next key is above the first ones
  pub above_front : (key : List ℕ) → key ≡ key_at rows m → AllByRecursion (λ (k : List ℕ). key_cmp k key ≡ Less) (take m (keys_in rows))
  above_front key is =
      let count = keys_count rows in
      all_front (λ (k : List ℕ). key_cmp k key ≡ Less) (keys_in rows) m (omega (arith, count, low))
      (λ i lt. subst (λ (k : List ℕ). key_cmp (get_or (keys_in rows) i []) k ≡ Less) (sym (is ∙ key_is rows m low)) (base.keys.rise i m lt (omega (arith, count, low))))

  pub front_more : (old new : List KeyedRow) (r : KeyedRow) → new ≡ old ++ r ∷ [] → r.key ≡ key_at rows m → keys_in old ≡ take m (keys_in rows) → keys_in new ≡ take (m + 1) (keys_in rows)
  front_more old new r put is front =
      let count = keys_count rows in
      ap keys_in put ∙ map-append (λ (x : KeyedRow). x.key) old (r ∷ []) ∙ ap (λ (l : List (List ℕ)). l ++ r.key ∷ []) front
      ∙ sym (take_more_of (keys_in rows) m r.key (omega (arith, count, low)) (is ∙ key_is rows m low ∙ get_or_any (keys_in rows) m [] r.key (omega (arith, count, low))))

  pub key_short : length (key_at rows m) ≤ 16384
  key_short = let count = keys_count rows in subst (λ (k : List ℕ). length k ≤ 16384) (sym (key_is rows m low)) (base.keys.short m [] (omega (arith, count, low)))

  -- files can hold the base row alone
  pub alone_fits : (w : RowWritten) → w.base ≡ cells_in rows m → w.undos.items ≡ [] → FitsFiles schema (key_at rows m) w
  alone_fits w is none = record {
    short = key_short;
    cells = subst (RowFits schema) (sym is) (base.cells m no_row low);
    undos = subst (AreFalling None) (sym none) tt;
  }

-- each of the first rows, and the next one
pub folded_more : (k mark : ℕ) (base : BaseValue) (redo : List FileHeld) (old new : Growing) → AreFoldedTo k mark base redo old → ((n : ℕ) → n < k → row_so_far n new ≡ row_so_far n old)
    → ((d : DiskRow) → row_folded mark (cells_in base.rows k) (redos_at k redo) ≡ Some d → IsHeld base.schema d → row_so_far k new ≡ d) → AreFoldedTo (k + 1) mark base redo new
folded_more k mark base redo old new are same own n d lt e held = elim (cases_eq n k) [
  | inl at ↦ subst (λ (m : ℕ). row_so_far m new ≡ d) (sym at) (own d (subst (λ (m : ℕ). row_folded mark (cells_in base.rows m) (redos_at m redo) ≡ Some d) at e) held)
  | inr ne ↦ (let low : n < k = omega (arith, lt, ne) in same n low ∙ are n d low e held)
]

pub redos_room : (k : ℕ) (files : List FileHeld) (undos : ℕ) → undos ≤ redos_from 0 k files → length (held_records files) < 2 ^ 32 → undos + length (redos_at k files) < 2 ^ 32
redos_room k files undos few all = let more = redos_more k files in let most = redos_few (k + 1) files in omega (arith, few, all, more, most)
