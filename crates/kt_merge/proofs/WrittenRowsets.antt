-- Disk rowsets that are written, cut one behind the other.
use Rattle.std.proofs.Common.{◌≡◌, ◌≤◌, ◌<◌, ℕ, zero, suc, true, false, List, [], ◌∷◌, ◌++◌, map, length, length-append, append_assoc, refl, sym, ap, ◌∙◌, subst, arith}
use Rattle.std.specs.Prelude.{nat_le}
use Rattle.std.specs.List.{All, AllByRecursion, flat_map, sum_by}
use Rattle.std.proofs.lemmas.Bool.{leb-false}
use Rattle.std.specs.declared.cmp.Ordering.TheVariants.{Less}
use Rattle.std.proofs.lemmas.List.{append-nil, map-append, length-map}
use Rattle.kt_history.specs.Rows.{key_cmp}
use Rattle.kt_history.specs.Views.{AreRising}
use Rattle.kt_histlaws.specs.Disks.{DiskRow}
use Rattle.kt_baseset.specs.declared.schema.ColumnShape.{ColumnShape}
use Rattle.kt_baseset.specs.declared.rows.KeyedRow.{KeyedRow}
use Rattle.kt_baseset.specs.Rows.{AreKeys, keys_in}
use Rattle.kt_baseset.specs.Tables.{BaseValue}
use Rattle.kt_history.specs.declared.changes.Delta.{Delta}
use Rattle.kt_deltafile.specs.declared.file.Way.{Way}
use Rattle.kt_deltafile.specs.declared.file.Way.TheVariants.{Redo, Undo}
use Rattle.kt_deltafile.specs.Rules.{FileFits}
use Rattle.kt_diskrowset.specs.declared.files.FileHeld.{FileHeld}
use Rattle.kt_diskrowset.specs.declared.data.RowSetData.{RowSetData}
use Rattle.kt_merge.specs.Merge.{told_of}
use Rattle.kt_merge.specs.Minor.{held_records}
use Rattle.kt_merge.specs.Told.{Told, told_from, told_in, told_by_all, told_so_far, insert_len, is_full, rows_in, AreFilesOver, AreNewFiles, IsOpen, IsTaken, IsOutput, AreOutputs, Grown}
use Rattle.kt_merge.specs.declared.output.Growing.{Growing}
use Rattle.kt_merge.specs.declared.outputs.Writing.{Writing}
use Rattle.kt_merge.proofs.Cuts.{all_more, or_parts, has_last, outputs_more, told-more, is_cut, taken_more}
use Rattle.kt_merge.proofs.FilesMore.{file_over, rises_of, rising_more}
use Rattle.kt_merge.proofs.ToldRows.{told_keys}

-- ---- the keys of a base file

short_all : (keys : List (List ℕ)) → AllByRecursion (λ (key : List ℕ). length key ≤ 16384) keys → All (λ (key : List ℕ). length key ≤ 16384) keys
short_all [] h k d low = absurd (omega arith)
short_all (x ∷ keys) h zero d low = h.0
short_all (x ∷ keys) h (suc k) d low = short_all keys h.1 k d (omega arith)

pub are_keys : (columns : List ColumnShape) (g : Growing) → Grown columns g → 0 < length g.rows.items → length g.rows.items ≤ 3435973836 → AreKeys (keys_in g.rows.items)
are_keys columns g grown some few =
    let count : length (keys_in g.rows.items) ≡ length g.rows.items = length-map g.rows.items (λ (r : KeyedRow). r.key) in
    record { some = omega (arith, count, some); few = omega (arith, count, few); rise = rises_of (keys_in g.rows.items) grown.rise; short = short_all (keys_in g.rows.items) grown.short }

-- ---- its records

-- the records of rows that were taken are of the rows of their base file
module _ (columns : List ColumnShape) (g : Growing) (set : BaseValue) (grown : Grown columns g) (is : set ≡ record { schema = columns; rows = g.rows.items }) where
  pub undone_over : FileFits Undo (length set.rows) g.undos.items
  undone_over = subst (λ (s : BaseValue). FileFits Undo (length s.rows) g.undos.items) (sym is) (file_over Undo (length g.rows.items) g.undos.items grown.undos grown.undone)

  pub redone_over : FileFits Redo (length set.rows) g.redos.items
  redone_over = subst (λ (s : BaseValue). FileFits Redo (length s.rows) g.redos.items) (sym is) (file_over Redo (length g.rows.items) g.redos.items grown.redos grown.redone)

-- a new file has the records that it was given
pub files_over : (way : Way) (n rows : ℕ) (files : List FileHeld) (records : List Delta) → AreNewFiles files → AllByRecursion (λ (f : FileHeld). f.deltas.value.way ≡ way) files → held_records files ≡ records → FileFits way n records → rows ≡ n
    → AreFilesOver way rows files
files_over way n rows [] records new ways are fits same = tt
files_over way n rows (f ∷ []) records new ways are fits same =
    let list : f.deltas.value.list ≡ records = sym (append-nil f.deltas.value.list) ∙ are in
    ((ways.0, subst (λ (m : ℕ). FileFits way m f.deltas.value.list) (sym same) (subst (FileFits way n) (sym list) fits)), tt)
files_over way n rows (f ∷ g ∷ files) records new ways are fits same = absurd new

-- ---- what a rowset tells

pub told_cut : (d : RowSetData) (g : Growing) → rows_in d ≡ g.rows.items → held_records d.undo ≡ g.undos.items → held_records d.redo ≡ g.redos.items → told_in d ≡ told_so_far g
told_cut d g rows undos redos =
    ap (λ l. told_from 0 l (held_records d.undo) (held_records d.redo)) rows
    ∙ ap (λ l. told_from 0 g.rows.items l (held_records d.redo)) undos
    ∙ ap (λ l. told_from 0 g.rows.items g.undos.items l) redos

none_told : (g : Growing) → g.rows.items ≡ [] → told_so_far g ≡ []
none_told g none = ap (λ (l : List KeyedRow). told_from 0 l g.undos.items g.redos.items) none

keys_told : (ds : List RowSetData) → map (λ (r : List ℕ × DiskRow). r.0) (told_by_all ds) ≡ flat_map (λ (d : RowSetData). keys_in (rows_in d)) ds
keys_told [] = refl
keys_told (d ∷ ds) =
    map-append (λ (r : List ℕ × DiskRow). r.0) (told_in d) (told_by_all ds)
    ∙ ap (λ (l : List (List ℕ)). l ++ map (λ (r : List ℕ × DiskRow). r.0) (told_by_all ds)) (told_keys 0 (rows_in d) (held_records d.undo) (held_records d.redo))
    ∙ ap (λ (l : List (List ℕ)). keys_in (rows_in d) ++ l) (keys_told ds)

pub written_told : (old new : Writing) (d : RowSetData) → new.done.items ≡ old.done.items ++ d ∷ [] → told_in d ≡ told_so_far old.growing → new.growing.rows.items ≡ [] → told_of new ≡ told_of old
written_told old new d put told none =
    ap (λ (ds : List RowSetData). told_by_all ds ++ told_so_far new.growing) put
    ∙ ap (λ (t : Told). told_by_all (old.done.items ++ d ∷ []) ++ t) (none_told new.growing none)
    ∙ append-nil (told_by_all (old.done.items ++ d ∷ []))
    ∙ told-more old.done.items d ∙ ap (λ (t : Told). told_by_all old.done.items ++ t) told

-- the rowset that takes rows is cut, and stands behind the others
module _ (columns : List ColumnShape) (done : List RowSetData) (g : Growing) (d : RowSetData) (are : AreOutputs columns done) (full : AllByRecursion (λ (x : RowSetData). is_full (rows_in x) ≡ true) done)
    (rise : AreRising (map (λ (r : List ℕ × DiskRow). r.0) (told_by_all done ++ told_so_far g))) (own : IsOutput columns d) (rows : rows_in d ≡ g.rows.items) (told : told_in d ≡ told_so_far g)
    (taken : IsTaken g.rows.items) (some : 0 < length g.rows.items) where
  pub outputs_cut : AreOutputs columns (done ++ d ∷ [])
  outputs_cut =
      outputs_more columns done d are full own
      (is_cut (rows_in d) (subst (λ (l : List KeyedRow). 0 < length l) (sym rows) some) (subst IsTaken (sym rows) taken))
      (subst AreRising (ap (map (λ (r : List ℕ × DiskRow). r.0)) (ap (λ (t : Told). told_by_all done ++ t) (sym told) ∙ sym (told-more done d)) ∙ keys_told (done ++ d ∷ [])) rise)

  pub full_cut : is_full g.rows.items ≡ true → AllByRecursion (λ (x : RowSetData). is_full (rows_in x) ≡ true) (done ++ d ∷ [])
  full_cut so_ = all_more (λ (x : RowSetData). is_full (rows_in x) ≡ true) done d full (ap is_full rows ∙ so_)

-- ---- how many rows there are

pub full_some : (rows : List KeyedRow) → is_full rows ≡ true → 0 < length rows
full_some [] e = absurd (let f : false ≡ true = e in cc)
full_some (r ∷ rows) e = omega arith

pub open_few : (rows : List KeyedRow) → IsOpen rows → length rows < 65536
open_few rows opened = let few = leb-false 65536 (length rows) (or_parts (nat_le 65536 (length rows)) (nat_le 33554432 (sum_by insert_len rows)) opened).0 in omega (arith, few)

pub taken_few : (rows : List KeyedRow) → 0 < length rows → IsTaken rows → length rows ≤ 65536
taken_few rows some taken =
    let last = has_last rows some in
    let few = open_few last.0 (taken last.0 last.1 last.2) in
    let count = ap length last.2 ∙ length-append last.0 (last.1 ∷ []) in
    omega (arith, few, count)

-- ---- one row more

part_above : (key : List ℕ) (xs ys : Told) → AllByRecursion (λ (r : List ℕ × DiskRow). key_cmp r.0 key ≡ Less) (xs ++ ys) → AllByRecursion (λ (r : List ℕ × DiskRow). key_cmp r.0 key ≡ Less) ys
part_above key [] ys h = h
part_above key (x ∷ xs) ys h = part_above key xs ys h.1

keys_above : (key : List ℕ) (told : Told) → AllByRecursion (λ (r : List ℕ × DiskRow). key_cmp r.0 key ≡ Less) told → AllByRecursion (λ (k : List ℕ). key_cmp k key ≡ Less) (map (λ (r : List ℕ × DiskRow). r.0) told)
keys_above key [] h = tt
keys_above key (r ∷ told) h = (h.0, keys_above key told h.1)

pub rows_above : (key : List ℕ) (w : Writing) → AllByRecursion (λ (r : List ℕ × DiskRow). key_cmp r.0 key ≡ Less) (told_of w) → AllByRecursion (λ (k : List ℕ). key_cmp k key ≡ Less) (keys_in w.growing.rows.items)
rows_above key w h =
    subst (AllByRecursion (λ (k : List ℕ). key_cmp k key ≡ Less)) (told_keys 0 w.growing.rows.items w.growing.undos.items w.growing.redos.items)
    (keys_above key (told_so_far w.growing) (part_above key (told_by_all w.done.items) (told_so_far w.growing) h))

pub told_put : (old new : Writing) (t : Told) → new.done.items ≡ old.done.items → told_so_far new.growing ≡ told_so_far old.growing ++ t → told_of new ≡ told_of old ++ t
told_put old new t same more =
    ap (λ (ds : List RowSetData). told_by_all ds ++ told_so_far new.growing) same ∙ ap (λ (l : Told). told_by_all old.done.items ++ l) more
    ∙ sym (append_assoc (told_by_all old.done.items) (told_so_far old.growing) t)

pub rise_put : (key : List ℕ) (row : DiskRow) (old new : Told) → new ≡ old ++ (key, row) ∷ [] → AreRising (map (λ (r : List ℕ × DiskRow). r.0) old) → AllByRecursion (λ (r : List ℕ × DiskRow). key_cmp r.0 key ≡ Less) old
    → AreRising (map (λ (r : List ℕ × DiskRow). r.0) new)
rise_put key row old new put rise above =
    subst AreRising (sym (ap (map (λ (r : List ℕ × DiskRow). r.0)) put ∙ map-append (λ (r : List ℕ × DiskRow). r.0) old ((key, row) ∷ [])))
    (rising_more (map (λ (r : List ℕ × DiskRow). r.0) old) key rise (keys_above key old above))

pub taken_put : (rows new : List KeyedRow) (r : KeyedRow) → new ≡ rows ++ r ∷ [] → IsOpen rows → IsTaken new
taken_put rows new r put opened = subst IsTaken (sym put) (taken_more rows r opened)

-- at the end no row is left
pub told_end : (columns : List ColumnShape) (w : Writing) → length w.growing.rows.items ≡ 0 → told_by_all w.done.items ≡ told_of w
told_end columns w none = sym (ap (λ (t : Told). told_by_all w.done.items ++ t) (none_told w.growing (no_rows w.growing.rows.items none)) ∙ append-nil (told_by_all w.done.items))
  where
    no_rows : (rows : List KeyedRow) → length rows ≡ 0 → rows ≡ []
    no_rows [] e = refl
    no_rows (r ∷ rows) e = absurd (omega arith)

pub told_last : (w : Writing) (d : RowSetData) → told_in d ≡ told_so_far w.growing → told_by_all (w.done.items ++ d ∷ []) ≡ told_of w
told_last w d told = told-more w.done.items d ∙ ap (λ (t : Told). told_by_all w.done.items ++ t) told
