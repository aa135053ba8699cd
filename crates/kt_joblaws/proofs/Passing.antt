-- New disk rowsets that have of each key what is written of it pass the rules of the table.
use Rattle.std.proofs.Common.{◌≡◌, ◌≤◌, ◌<◌, ◌+◌, ◌^◌, ℕ, suc, Bool, true, false, cond, List, [], ◌∷◌, ◌++◌, map, length, Some, None, inl, inr, refl, sym, ap, ◌∙◌, subst, arith}
use Rattle.std.specs.Prelude.{nat_lt, nat_le, ◌==◌}
use Rattle.std.specs.List.{AllByRecursion, flat_map}
use Rattle.std.specs.Ordering.{is_eq, eq_by_cmp}
use Rattle.std.specs.FinMap.Entries.{find}
use Rattle.std.specs.declared.cmp.Ordering.TheVariants.{Less}
use Rattle.std.proofs.lemmas.Bool.{cases_lt, ltb-true, eq-eqb}
use Rattle.kt_base.proofs.Values.{both_true, both}
use Rattle.kt_history.specs.declared.changes.Delta.{Delta}
use Rattle.kt_history.specs.Rows.{key_cmp}
use Rattle.kt_history.specs.Stores.{Steps}
use Rattle.kt_history.specs.Views.{AreRising}
use Rattle.kt_histlaws.specs.Disks.{DiskRow}
use Rattle.kt_histlaws.proofs.Pending.{itself}
use Rattle.kt_baseset.specs.Rows.{keys_in}
use Rattle.std.proofs.lemmas.List.{map-append}
use Rattle.kt_rowfiles.specs.Files.{records_for, records_in, falling}
use Rattle.kt_rowfiles.specs.Fitting.{steps_fit, rows_fit}
use Rattle.kt_cells.specs.Rules.{EachAfter}
use Rattle.kt_baseset.specs.declared.rows.KeyedRow.{KeyedRow}
use Rattle.kt_deltafile.specs.declared.file.Way.{Way}
use Rattle.kt_deltafile.specs.declared.file.Way.TheVariants.{Undo, Redo}
use Rattle.kt_deltafile.specs.Order.{last_ordinal}
use Rattle.kt_deltafile.specs.Rules.{Follows}
use Rattle.kt_diskrowset.specs.declared.files.FileHeld.{FileHeld}
use Rattle.kt_diskrowset.specs.declared.data.RowSetData.{RowSetData}
use Rattle.kt_diskrowset.specs.declared.inputs.Inputs.{Inputs}
use Rattle.kt_diskrowset.specs.Data.{files_in}
use Rattle.kt_diskrowset.specs.Files.{lists_of}
use Rattle.kt_diskrowset.specs.Rows.{rows_of}
use Rattle.kt_content.specs.Rules.{Rules, ChangePasses, BasePasses, FilePasses, FilesPass, StepsPass, RowsetPasses, RowsetsPass}
use Rattle.kt_merge.specs.Merge.{hists_upto}
use Rattle.kt_merge.specs.Minor.{held_records}
use Rattle.kt_merge.specs.Told.{Told, told_from, told_in, told_by_all, rows_in, AreFilesOver, AreOfRows, IsOutput}
use Rattle.kt_merge.proofs.KeyChanges.{same_key, by_bool}
use Rattle.kt_merge.proofs.ToldRows.{in_files, records-append, told_keys}
use Rattle.kt_joblaws.specs.Outputs.{outputs_pass}
use Rattle.kt_joblaws.proofs.WrittenFits.{IsGood, good_falls, good_key}

-- ---- each row that is told is the one that is found under its key

abbrev keys_told : Told → List (List ℕ)
keys_told told = map (λ (r : List ℕ × DiskRow). r.0) told

abbrev AllGood : Rules → Told → Type 0
AllGood rules told = AllByRecursion (λ (r : List ℕ × DiskRow). IsGood rules (2 ^ 64) r.0 r.1) told

none_above : (q : List ℕ) (xs : Told) → AllByRecursion (λ (other : List ℕ). key_cmp q other ≡ Less) (keys_told xs) → find key_cmp q xs ≡ None
none_above q [] h = refl
none_above q (x ∷ xs) h = ap (λ (b : Bool). cond b (Some x.1) (find key_cmp q xs)) (ap is_eq h.0) ∙ none_above q xs h.1

good_all : (rules : Rules) (xs : Told) → AreRising (keys_told xs) → ((q : List ℕ) (d : DiskRow) → find key_cmp q xs ≡ Some d → IsGood rules (2 ^ 64) q d) → AllGood rules xs
good_all rules [] rise good = tt
good_all rules (x ∷ xs) rise good = (
  good x.0 x.1 (ap (λ (b : Bool). cond b (Some x.1) (find key_cmp x.0 xs)) (itself x.0)),
  good_all rules xs rise.1 (λ q d is. good q d (ap (λ (b : Bool). cond b (Some x.1) (find key_cmp q xs)) (other q d is) ∙ is)),
)
  where
    other : (q : List ℕ) (d : DiskRow) → find key_cmp q xs ≡ Some d → eq_by_cmp key_cmp q x.0 ≡ false
    other q d is = by_bool (eq_by_cmp key_cmp q x.0)
        (λ tied. absurd (let e : None ≡ Some d = sym (none_above q xs (subst (λ (k : List ℕ). AllByRecursion (λ (o : List ℕ). key_cmp k o ≡ Less) (keys_told xs)) (sym (same_key q x.0 tied)) rise.0)) ∙ is in cc))
        (λ e. e)

keys_of_all : (rowsets : List RowSetData) → keys_told (told_by_all rowsets) ≡ flat_map (λ (d : RowSetData). keys_in (rows_in d)) rowsets
keys_of_all [] = refl
keys_of_all (d ∷ rowsets) =
    map-append (λ (r : List ℕ × DiskRow). r.0) (told_in d) (told_by_all rowsets)
    ∙ ap (λ (l : List (List ℕ)). l ++ keys_told (told_by_all rowsets)) (told_keys 0 (rows_in d) (held_records d.undo) (held_records d.redo))
    ∙ ap (λ (l : List (List ℕ)). keys_in (rows_in d) ++ l) (keys_of_all rowsets)

good_front : (rules : Rules) (xs ys : Told) → AllGood rules (xs ++ ys) → AllGood rules xs
good_front rules [] ys g = tt
good_front rules (x ∷ xs) ys g = (g.0, good_front rules xs ys g.1)

good_behind : (rules : Rules) (xs ys : Told) → AllGood rules (xs ++ ys) → AllGood rules ys
good_behind rules [] ys g = g
good_behind rules (x ∷ xs) ys g = good_behind rules xs ys g.1

-- ---- the records of a file

pub ordinals : (way : Way) (rows : ℕ) (front list : List Delta) → EachAfter (Follows way rows) front list → AreOfRows rows list
ordinals way rows front [] each = tt
ordinals way rows front (d ∷ list) each =
    let here : Follows way rows front d = each.0 in
    (ltb-true d.ordinal rows (both_true (nat_le (last_ordinal front) d.ordinal) (nat_lt d.ordinal rows) here.comes).1, ordinals way rows (front ++ d ∷ []) list each.1)

-- the records of each of so many rows pass
abbrev pub EachRowPasses : Rules → ℕ → List Delta → Type 0
EachRowPasses rules rows list = (n : ℕ) → n < rows → StepsPass rules (records_for n list)

pub steps_front : (rules : Rules) (xs ys : Steps) → StepsPass rules (xs ++ ys) → StepsPass rules xs
steps_front rules [] ys p = tt
steps_front rules (c ∷ xs) ys p = (p.0, steps_front rules xs ys p.1)

pub steps_behind : (rules : Rules) (xs ys : Steps) → StepsPass rules (xs ++ ys) → StepsPass rules ys
steps_behind rules [] ys p = p
steps_behind rules (c ∷ xs) ys p = steps_behind rules xs ys p.1

one_passes : (rules : Rules) (d : Delta) (n : ℕ) (more : Steps) (b : Bool) → b ≡ true → StepsPass rules (cond b ((d.ts, d.change) ∷ more) more) → ChangePasses rules d.change
one_passes rules d n more true e p = p.0
one_passes rules d n more false e p = cc

more_pass : (rules : Rules) (d : Delta) (more : Steps) (b : Bool) → StepsPass rules (cond b ((d.ts, d.change) ∷ more) more) → StepsPass rules more
more_pass rules d more true p = p.1
more_pass rules d more false p = p

pub file_passes : (rules : Rules) (rows : ℕ) (list : List Delta) → AreOfRows rows list → EachRowPasses rules rows list → FilePasses rules list
file_passes rules rows [] of each = tt
file_passes rules rows (d ∷ list) of each = (
  one_passes rules d d.ordinal (records_for d.ordinal list) (d.ordinal == d.ordinal) (eq-eqb d.ordinal d.ordinal refl) (each d.ordinal of.0),
  file_passes rules rows list of.1 (λ n lt. more_pass rules d (records_for n list) (d.ordinal == n) (each n lt)),
)

files_pass : (rules : Rules) (way : Way) (rows : ℕ) (files : List FileHeld) → AreFilesOver way rows files → EachRowPasses rules rows (held_records files) → FilesPass rules (lists_of files)
files_pass rules way rows [] of each = tt
files_pass rules way rows (f ∷ files) of each =
    let list : List Delta = f.deltas.value.list in
    let split : (n : ℕ) → n < rows → StepsPass rules (records_for n list ++ records_for n (held_records files)) = λ n lt. subst (StepsPass rules) (records-append n list (held_records files)) (each n lt) in (
      file_passes rules rows list (ordinals way rows [] list of.0.1.each) (λ n lt. steps_front rules (records_for n list) (records_for n (held_records files)) (split n lt)),
      files_pass rules way rows files of.1 (λ n lt. steps_behind rules (records_for n list) (records_for n (held_records files)) (split n lt)),
    )

-- ---- one disk rowset

base_passes : (rules : Rules) (n : ℕ) (rows : List KeyedRow) (undos redos : List Delta) → AllGood rules (told_from n rows undos redos) → BasePasses rules (rows_of rows)
base_passes rules n [] undos redos g = tt
base_passes rules n (r ∷ rows) undos redos g = (g.0.key, g.0.base, base_passes rules (suc n) rows undos redos g.1)

each_passes : (rules : Rules) (n : ℕ) (rows : List KeyedRow) (undos redos : List Delta) → AllGood rules (told_from n rows undos redos) → (m : ℕ) → n ≤ m → m < n + length rows
    → StepsPass rules (records_for m undos) × StepsPass rules (records_for m redos)
each_passes rules n [] undos redos g m low up = absurd (let e : m < n + 0 = up in omega arith)
each_passes rules n (r ∷ rows) undos redos g m low up = elim (cases_lt n m) [
  | inl lt ↦ each_passes rules (suc n) rows undos redos g.1 m (omega arith) (omega arith)
  | inr le ↦
      let same : n ≡ m = omega arith in
      subst (λ (k : ℕ). StepsPass rules (records_for k undos) × StepsPass rules (records_for k redos)) same (g.0.undos, g.0.redos)
]

fit_rows : (rules : Rules) (d : RowSetData) (n : ℕ) (rows : List KeyedRow) → AllGood rules (told_from n rows (held_records d.undo) (held_records d.redo)) → rows_fit (files_in d) n (rows_of rows) ≡ true
fit_rows rules d n [] g = refl
fit_rows rules d n (r ∷ rows) g =
    let own = g.0 in
    let sorted : falling (records_in n (lists_of d.undo)) ≡ records_for n (held_records d.undo) =
    ap falling (sym (in_files n d.undo)) ∙ good_falls rules (2 ^ 64) r.key (record { base = r.cells; undos = records_for n (held_records d.undo); redos = records_for n (held_records d.redo) }) own in
    both (steps_fit (2 ^ 64) (falling (records_in n (lists_of d.undo))) (Some r.cells)) (rows_fit (files_in d) (suc n) (rows_of rows))
    (ap (λ (s : Steps). steps_fit (2 ^ 64) s (Some r.cells)) sorted ∙ own.fit) (fit_rows rules d (suc n) rows g.1)

rowset_passes : (rules : Rules) (d : RowSetData) → AllGood rules (told_in d) → AreFilesOver Undo (length (rows_in d)) d.undo → AreFilesOver Redo (length (rows_in d)) d.redo → RowsetPasses rules (files_in d)
rowset_passes rules d g undo redo =
    let each = each_passes rules 0 (rows_in d) (held_records d.undo) (held_records d.redo) g in
    record {
      base = base_passes rules 0 (rows_in d) (held_records d.undo) (held_records d.redo) g;
      undos = files_pass rules Undo (length (rows_in d)) d.undo undo (λ n lt. (each n (omega arith) (omega arith)).0);
      redos = files_pass rules Redo (length (rows_in d)) d.redo redo (λ n lt. (each n (omega arith) (omega arith)).1);
      fits = fit_rows rules d 0 (rows_in d) g;
    }

-- ---- all of them

rowsets_pass : (rules : Rules) (inputs : Inputs) (rowsets : List RowSetData) → AllByRecursion (IsOutput inputs.columns) rowsets → AllGood rules (told_by_all rowsets) → RowsetsPass rules (map files_in rowsets)
rowsets_pass rules inputs [] are g = tt
rowsets_pass rules inputs (d ∷ rowsets) are g = (
  rowset_passes rules d (good_front rules (told_in d) (told_by_all rowsets) g) are.0.undo.1 are.0.redo.1,
  rowsets_pass rules inputs rowsets are.1 (good_behind rules (told_in d) (told_by_all rowsets) g),
)

pub they_pass : outputs_pass
they_pass rules span inputs rowsets closed low sound are have passes =
    let good : (q : List ℕ) (d : DiskRow) → find key_cmp q (told_by_all rowsets) ≡ Some d → IsGood rules (2 ^ 64) q d =
    λ q d is. good_key rules closed inputs.columns span.mark (2 ^ 64) low q (hists_upto span.bound q inputs) (sound.each q) (passes q) d (sym (have q) ∙ is) in
    rowsets_pass rules inputs rowsets are.each (good_all rules (told_by_all rowsets) (subst AreRising (sym (keys_of_all rowsets)) are.rise) good)
