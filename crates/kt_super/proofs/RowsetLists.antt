-- A rowset, and rowsets behind their count, as parts of the format.
use Rattle.std.proofs.Common.{◌≡◌, ℕ, suc, ◌+◌, ◌-◌, ◌^◌, ◌<◌, ◌≤◌, leb, ltb, List, [], ◌∷◌, ◌++◌, length, Result, refl, sym, ap, subst, ◌∙◌, arith, length-append}
use Rattle.std.specs.List.{concat, flat_map}
use Rattle.std.specs.Int.{w32, w64, to_le_bytes}
use Rattle.std.proofs.lemmas.Bool.{ltb-true, lt-ltb, leb-true, le-leb}
use Rattle.std.proofs.lemmas.List.{append-nil, length_push, length-map}
use Rattle.std.proofs.lemmas.List.Folds.{concat-append}
use Rattle.kt_bytes.specs.Reading.{◌>>=◌, checked_at, many_at, EachAfter}
use Rattle.kt_bytes.proofs.Numbers.{wide32, wide64}
use Rattle.kt_bytes.proofs.Formats.{Part}
use Rattle.kt_bytes.proofs.Leaves.{Passes, number_fields, number_part}
use Rattle.kt_bytes.proofs.Joins.{both_part, same_part, made_at, made_part, AreItems, many_part, concat_items}
use Rattle.kt_super.specs.declared.meta.FileRef.{FileRef}
use Rattle.kt_super.specs.declared.meta.MetaRowset.{MetaRowset}
use Rattle.kt_super.specs.Rowsets.{is_small, numbers_of, IsFile, taken_by, IsRowset, AreRowsets, spelled_file, spelled_files, spelled_rowset, spelled_rowsets, is_next_rowset, may_have, least_after, taken_after, file_at, counted_files_at, rowset_at, next_rowset_at, counted_rowsets_at}
use Rattle.kt_super.specs.Fields.{file_fields, files_fields, rowset_fields, rowsets_fields, FilesCount}
use Rattle.kt_super.proofs.ColumnParts.{both, and_true}
use Rattle.kt_super.proofs.RowsetParts.{small_below, small_part, Files, files_push, files_few, files_none, files_all, file_part, FilesFit, counted_files_part}

pub least_push : (least : ℕ) (front : List MetaRowset) (r : MetaRowset) → least_after least (front ++ r ∷ []) ≡ r.rowset + 1
least_push least [] r = refl
least_push least (s ∷ front) r = least_push (s.rowset + 1) front r

pub taken_push : (taken : List ℕ) (front : List MetaRowset) (r : MetaRowset) → taken_after taken (front ++ r ∷ []) ≡ taken_by (taken_after taken front) r
taken_push taken [] r = refl
taken_push taken (s ∷ front) r = taken_push (taken_by taken s) front r

-- rowsets that keep the rules, with counts that can be said
pub record RowsetsFit (next_rowset next_file : ℕ) (rowsets : List MetaRowset) : Type 0 where
  pub are : AreRowsets next_rowset next_file 0 [] rowsets
  pub count : length rowsets < 2 ^ 32
  pub files : FilesCount rowsets

module _ (next_rowset next_file : ℕ) (low_rowset : next_rowset < 2 ^ 62) (low_file : next_file < 2 ^ 62) where
  -- ---- a rowset

  -- a rowset with numbers for so many behind it
  pub record NextRowset (behind least : ℕ) (taken : List ℕ) (r : MetaRowset) : Type 0 where
    pub is : IsRowset next_rowset next_file least taken r
    pub above : r.rowset + behind < next_rowset
    pub room : length (taken_by taken r) + behind + 3 ≤ next_file
    pub undo : length r.undo < 2 ^ 32
    pub redo : length r.redo < 2 ^ 32

  module _ (behind least : ℕ) (taken : List ℕ) where
    abbrev made : ℕ → ℕ → FileRef → List FileRef → List FileRef → MetaRowset
    made rowset dms base undo redo = record { rowset = rowset; last_dms = dms; base = base; undo = undo; redo = redo }

    abbrev after_base : FileRef → List ℕ
    after_base base = taken ++ base.file ∷ []

    abbrev after_undo : FileRef → List FileRef → List ℕ
    after_undo base undo = taken ++ base.file ∷ [] ++ numbers_of undo

    abbrev Fit : List ℕ → List FileRef → Type 0
    Fit numbers = FilesFit next_file low_file numbers behind

    abbrev Redo : ℕ → ℕ → FileRef → List FileRef → MetaRowset → Type 0
    Redo rowset dms base undo r = Fit (after_undo base undo) r.redo × (made rowset dms base undo r.redo ≡ r)

    abbrev Undo : ℕ → ℕ → FileRef → MetaRowset → Type 0
    Undo rowset dms base r = Fit (after_base base) r.undo × Redo rowset dms base r.undo r

    abbrev Base : ℕ → ℕ → MetaRowset → Type 0
    Base rowset dms r = IsFile next_file taken r.base × Undo rowset dms r.base r

    abbrev Dms : ℕ → MetaRowset → Type 0
    Dms rowset r = Passes is_small (2 ^ 64) r.last_dms × Base rowset r.last_dms r

    abbrev Numbers : ℕ → Type 0
    Numbers = Passes (is_next_rowset least next_rowset behind) (2 ^ 64)

    abbrev redo_step : ℕ → ℕ → FileRef → List FileRef → List ℕ → Result (MetaRowset × List ℕ) ℕ
    redo_step rowset dms base undo = made_at (counted_files_at next_file (after_undo base undo) behind) (made rowset dms base undo)

    abbrev undo_step : ℕ → ℕ → FileRef → List ℕ → Result (MetaRowset × List ℕ) ℕ
    undo_step rowset dms base bytes = counted_files_at next_file (after_base base) behind bytes >>= λ undo. redo_step rowset dms base undo.0 undo.1

    abbrev base_step : ℕ → ℕ → List ℕ → Result (MetaRowset × List ℕ) ℕ
    base_step rowset dms bytes = file_at next_file taken bytes >>= λ base. undo_step rowset dms base.0 base.1

    abbrev dms_step : ℕ → List ℕ → Result (MetaRowset × List ℕ) ℕ
    dms_step rowset bytes = checked_at w64 is_small bytes >>= λ dms. base_step rowset dms.0 dms.1

    module _ (space : length taken + behind + 4 ≤ next_file) (apart : Files next_file taken) where
      redo_part : (rowset dms : ℕ) (base : FileRef) (undo : List FileRef) → IsFile next_file taken base → Fit (after_base base) undo → Part (redo_step rowset dms base undo) (λ r. files_fields r.redo) (Redo rowset dms base undo)
      redo_part rowset dms base undo f g =
          made_part (counted_files_at next_file (after_undo base undo) behind) files_fields (Fit (after_undo base undo)) (made rowset dms base undo) (λ r. r.redo) (λ redo h. refl)
          (counted_files_part next_file low_file (after_undo base undo) behind
          (omega (arith, g.room, length-append (after_base base) (numbers_of undo), length-map undo (λ (x : FileRef). x.file)))
          (files_all next_file (after_base base) undo (files_push next_file taken base.file apart f.0) g.are))

      undo_part : (rowset dms : ℕ) (base : FileRef) → IsFile next_file taken base → Part (undo_step rowset dms base) (λ r. files_fields r.undo ++ files_fields r.redo) (Undo rowset dms base)
      undo_part rowset dms base f =
          both_part (counted_files_at next_file (after_base base) behind) files_fields (Fit (after_base base)) (redo_step rowset dms base) (λ r. files_fields r.redo) (Redo rowset dms base) (λ r. r.undo)
          (λ undo r g. sym (ap (λ (x : MetaRowset). x.undo) g.1))
          (counted_files_part next_file low_file (after_base base) behind (omega (arith, space, length_push taken base.file)) (files_push next_file taken base.file apart f.0))
          (λ undo g. redo_part rowset dms base undo f g)

      base_part : (rowset dms : ℕ) → Part (base_step rowset dms) (λ r. file_fields r.base ++ (files_fields r.undo ++ files_fields r.redo)) (Base rowset dms)
      base_part rowset dms =
          both_part (file_at next_file taken) file_fields (IsFile next_file taken) (undo_step rowset dms) (λ r. files_fields r.undo ++ files_fields r.redo) (Undo rowset dms) (λ r. r.base)
          (λ base r g. sym (ap (λ (x : MetaRowset). x.base) g.1.1)) (file_part next_file low_file taken (omega (arith, space))) (λ base f. undo_part rowset dms base f)

      behind_number : MetaRowset → List (List ℕ)
      behind_number r = to_le_bytes w64 r.last_dms ∷ file_fields r.base ++ (files_fields r.undo ++ files_fields r.redo)

      dms_part : (rowset : ℕ) → Part (dms_step rowset) behind_number (Dms rowset)
      unfolding behind_number
      dms_part rowset =
          both_part (checked_at w64 is_small) (number_fields w64) (Passes is_small (2 ^ 64)) (base_step rowset) (λ r. file_fields r.base ++ (files_fields r.undo ++ files_fields r.redo)) (Base rowset) (λ r. r.last_dms)
          (λ dms r g. sym (ap (λ (x : MetaRowset). x.last_dms) g.1.1.1)) small_part (λ dms f. base_part rowset dms)

      pub rowset_part : least + behind < next_rowset → Part (rowset_at next_rowset next_file behind least taken) rowset_fields (NextRowset behind least taken)
      unfolding rowset_at behind_number
      rowset_part above =
          same_part (rowset_at next_rowset next_file behind least taken) rowset_fields rowset_fields (λ r. Numbers r.rowset × Dms r.rowset r) (NextRowset behind least taken) to from (λ r f. refl)
          (both_part (checked_at w64 (is_next_rowset least next_rowset behind)) (number_fields w64) Numbers dms_step behind_number Dms (λ r. r.rowset) (λ rowset r g. sym (ap (λ (x : MetaRowset). x.rowset) g.1.1.1.1))
          (number_part w64 (2 ^ 64) wide64 (is_next_rowset least next_rowset behind) (omega arith) least
          (and_true (leb least least) (ltb behind (next_rowset - least)) (le-leb least least (omega arith)) (lt-ltb behind (next_rowset - least) (omega (arith, above)))) (omega (arith, above, low_rowset)))
          (λ rowset f. dms_part rowset))
        where
          all_taken : (r : MetaRowset) → length (taken_by taken r) ≡ length (after_undo r.base r.undo) + length r.redo
          all_taken r = omega (arith, length-append (after_undo r.base r.undo) (numbers_of r.redo), length-map r.redo (λ (x : FileRef). x.file))

          after_all : (r : MetaRowset) → length (after_undo r.base r.undo) ≡ length (after_base r.base) + length r.undo
          after_all r = omega (arith, length-append (after_base r.base) (numbers_of r.undo), length-map r.undo (λ (x : FileRef). x.file))

          to : (r : MetaRowset) → Numbers r.rowset × Dms r.rowset r → NextRowset behind least taken r
          to r f =
              let n = both (leb least r.rowset) (ltb behind (next_rowset - r.rowset)) f.0.0 in
              let high = ltb-true behind (next_rowset - r.rowset) n.1 in
              record {
                is = record {
                  rowset = and_true (leb least r.rowset) (ltb r.rowset next_rowset) n.0 (lt-ltb r.rowset next_rowset (omega (arith, high)));
                  last_dms = f.1.0.0;
                  base = f.1.1.0;
                  undo = f.1.1.1.0.are;
                  redo = f.1.1.1.1.0.are;
                };
                above = omega (arith, high);
                room = omega (arith, all_taken r, f.1.1.1.1.0.room);
                undo = f.1.1.1.0.count;
                redo = f.1.1.1.1.0.count;
              }

          from : (r : MetaRowset) → NextRowset behind least taken r → Numbers r.rowset × Dms r.rowset r
          from r f =
              let i = f.is in
              let n = both (leb least r.rowset) (ltb r.rowset next_rowset) i.rowset in (
                (and_true (leb least r.rowset) (ltb behind (next_rowset - r.rowset)) n.0 (lt-ltb behind (next_rowset - r.rowset) (omega (arith, f.above))), omega (arith, f.above, low_rowset)),
                (
                  (i.last_dms, small_below r.last_dms i.last_dms),
                  (
                    i.base,
                    (
                      record { room = omega (arith, f.room, all_taken r, after_all r); count = f.undo; are = i.undo },
                      (record { room = omega (arith, f.room, all_taken r); count = f.redo; are = i.redo }, refl),
                    ),
                  ),
                ),
              )

  -- ---- rowsets

  abbrev behind_of : ℕ → List MetaRowset → ℕ
  behind_of n front = n - length front - 1

  abbrev Keeps : ℕ → List MetaRowset → MetaRowset → Type 0
  Keeps n front r = NextRowset (behind_of n front) (least_after 0 front) (taken_after [] front) r

  -- so many more rowsets, and their files, have numbers
  pub record Left (n k : ℕ) (front : List MetaRowset) : Type 0 where
    pub count : length front + k ≡ n
    pub above : least_after 0 front + k ≤ next_rowset
    pub room : length (taken_after [] front) + k + 3 ≤ next_file
    pub apart : Files next_file (taken_after [] front)

  -- behind a rowset the numbers of files differ
  rowset_apart : (least : ℕ) (taken : List ℕ) (r : MetaRowset) → Files next_file taken → IsRowset next_rowset next_file least taken r → Files next_file (taken_by taken r)
  rowset_apart least taken r a is =
      files_all next_file ((taken ++ r.base.file ∷ []) ++ numbers_of r.undo) r.redo (files_all next_file (taken ++ r.base.file ∷ []) r.undo (files_push next_file taken r.base.file a is.base.0) is.undo) is.redo

  left_next : (n k : ℕ) (front : List MetaRowset) (r : MetaRowset) → Left n (suc k) front → Keeps n front r → Left n k (front ++ r ∷ [])
  left_next n k front r left f =
      let longer = length_push front r in
      let behind : behind_of n front ≡ k = omega (arith, left.count) in
      let taken = taken_push [] front r in
      record {
        count = omega (arith, left.count, longer);
        above = omega (arith, least_push 0 front r, f.above, behind);
        room = omega (arith, ap (λ (l : List ℕ). length l) taken, f.room, behind);
        apart = subst (Files next_file) (sym taken) (rowset_apart (least_after 0 front) (taken_after [] front) r left.apart f.is);
      }

  item_part : (n k : ℕ) (front : List MetaRowset) → Left n (suc k) front → Part (next_rowset_at next_rowset next_file n front) rowset_fields (Keeps n front)
  item_part n k front left =
      let behind : behind_of n front ≡ k = omega (arith, left.count) in
      rowset_part (behind_of n front) (least_after 0 front) (taken_after [] front) (omega (arith, left.room, behind)) left.apart (omega (arith, left.above, behind))

  abbrev Listed : ℕ → List MetaRowset → Type 0
  Listed n rowsets = AreItems (next_rowset_at next_rowset next_file n) rowset_fields (Keeps n) (Left n) n [] rowsets

  rowsets_part : (n : ℕ) → 3 ≤ next_file → n ≤ next_rowset → n ≤ next_file - 3 → Part (many_at (next_rowset_at next_rowset next_file n) n []) (flat_map rowset_fields) (Listed n)
  rowsets_part n least above room =
      many_part (next_rowset_at next_rowset next_file n) rowset_fields (Keeps n) (Left n) (item_part n) (left_next n) n
      (record { count = omega arith; above = omega (arith, above); room = omega (arith, room, least); apart = files_none next_file least })

  -- ---- rowsets that keep the rules

  abbrev Are : ℕ → List ℕ → List MetaRowset → Type 0
  Are = AreRowsets next_rowset next_file

  each_are : (n : ℕ) (front rowsets : List MetaRowset) → EachAfter (Keeps n) front rowsets → Are (least_after 0 front) (taken_after [] front) rowsets × FilesCount rowsets
  each_are n front [] each = (tt, tt)
  each_are n front (r ∷ rowsets) each =
      let more = each_are n (front ++ r ∷ []) rowsets each.1 in
      let one = each.0 in
      ((one.is, subst (λ (l : ℕ). Are l (taken_by (taken_after [] front) r) rowsets) (least_push 0 front r) (subst (λ (t : List ℕ). Are (least_after 0 (front ++ r ∷ [])) t rowsets) (taken_push [] front r) more.0)), (one.undo, one.redo, more.1))

  -- rowsets that rise have numbers for all of them
  rise : (least : ℕ) (taken : List ℕ) (rowsets : List MetaRowset) → least ≤ next_rowset → Are least taken rowsets → least + length rowsets ≤ next_rowset
  rise least taken [] le are = omega (arith, le)
  rise least taken (r ∷ rowsets) le are =
      let n = both (leb least r.rowset) (ltb r.rowset next_rowset) are.0.rowset in
      let low = leb-true least r.rowset n.0 in
      let high = ltb-true r.rowset next_rowset n.1 in
      omega (arith, low, rise (r.rowset + 1) (taken_by taken r) rowsets (omega (arith, high)) are.1)

  -- and their files too
  files_room : (least : ℕ) (taken : List ℕ) (rowsets : List MetaRowset) → Files next_file taken → Are least taken rowsets → length taken + length rowsets + 3 ≤ next_file
  files_room least taken [] a are = omega (arith, files_few next_file taken a)
  files_room least taken (r ∷ rowsets) a are =
      let more = files_room (r.rowset + 1) (taken_by taken r) rowsets (rowset_apart least taken r a are.0) are.1 in
      omega (arith, more, length-append ((taken ++ r.base.file ∷ []) ++ numbers_of r.undo) (numbers_of r.redo), length-append (taken ++ r.base.file ∷ []) (numbers_of r.undo), length_push taken r.base.file)

  are_each : (n : ℕ) (front rowsets : List MetaRowset) → length front + length rowsets ≡ n → Files next_file (taken_after [] front) → Are (least_after 0 front) (taken_after [] front) rowsets → FilesCount rowsets → EachAfter (Keeps n) front rowsets
  are_each n front [] count a are files = tt
  are_each n front (r ∷ rowsets) count a are files =
      let behind : behind_of n front ≡ length rowsets = omega (arith, count) in
      let taken : List ℕ = taken_by (taken_after [] front) r in
      let apart = rowset_apart (least_after 0 front) (taken_after [] front) r a are.0 in
      let high = ltb-true r.rowset next_rowset (both (leb (least_after 0 front) r.rowset) (ltb r.rowset next_rowset) are.0.rowset).1 in (
        record {
          is = are.0;
          above = omega (arith, behind, rise (r.rowset + 1) taken rowsets (omega (arith, high)) are.1);
          room = omega (arith, behind, files_room (r.rowset + 1) taken rowsets apart are.1);
          undo = files.0;
          redo = files.1;
        },
        are_each n (front ++ r ∷ []) rowsets (omega (arith, count, length_push front r)) (subst (Files next_file) (sym (taken_push [] front r)) apart)
            (subst (λ (l : ℕ). Are l (taken_after [] (front ++ r ∷ [])) rowsets) (sym (least_push 0 front r)) (subst (λ (t : List ℕ). Are (r.rowset + 1) t rowsets) (sym (taken_push [] front r)) are.1)) files.2,
      )

  -- ---- behind their count

  abbrev Counts : ℕ → Type 0
  Counts = Passes (may_have next_rowset next_file) (2 ^ 32)

  pub counted_rowsets_part : 3 ≤ next_file → Part (counted_rowsets_at next_rowset next_file) rowsets_fields (RowsetsFit next_rowset next_file)
  unfolding counted_rowsets_at
  counted_rowsets_part least =
      same_part (counted_rowsets_at next_rowset next_file) rowsets_fields rowsets_fields (λ rowsets. Counts (length rowsets) × Listed (length rowsets) rowsets) (RowsetsFit next_rowset next_file) to from (λ rowsets f. refl)
      (both_part (checked_at w32 (may_have next_rowset next_file)) (number_fields w32) Counts (λ n. many_at (next_rowset_at next_rowset next_file n) n []) (flat_map rowset_fields) Listed length (λ n rowsets f. f.0)
      (number_part w32 (2 ^ 32) wide32 (may_have next_rowset next_file) (omega arith) 0 (and_true (leb 0 next_rowset) (leb 0 (next_file - 3)) (le-leb 0 next_rowset (omega arith)) (le-leb 0 (next_file - 3) (omega arith))) (omega arith))
      (λ n f. let p = both (leb n next_rowset) (leb n (next_file - 3)) f.0 in rowsets_part n least (leb-true n next_rowset p.0) (leb-true n (next_file - 3) p.1)))
    where
      to : (rowsets : List MetaRowset) → Counts (length rowsets) × Listed (length rowsets) rowsets → RowsetsFit next_rowset next_file rowsets
      to rowsets f = let e = each_are (length rowsets) [] rowsets f.1.1 in record { are = e.0; count = f.0.1; files = e.1 }

      from : (rowsets : List MetaRowset) → RowsetsFit next_rowset next_file rowsets → Counts (length rowsets) × Listed (length rowsets) rowsets
      from rowsets f =
          let none = files_none next_file least in
          let above = rise 0 [] rowsets (omega arith) f.are in
          let room = files_room 0 [] rowsets none f.are in (
            (and_true (leb (length rowsets) next_rowset) (leb (length rowsets) (next_file - 3)) (le-leb (length rowsets) next_rowset (omega (arith, above))) (le-leb (length rowsets) (next_file - 3) (omega (arith, room))), f.count),
            (refl, are_each (length rowsets) [] rowsets (omega arith) none f.are f.files),
          )

-- ---- their bytes

file_spelled : (f : FileRef) → concat (file_fields f) ≡ spelled_file f
file_spelled f = ap (λ (l : List ℕ). to_le_bytes w64 f.file ++ l) (append-nil (to_le_bytes w64 f.len))

files_spelled : (files : List FileRef) → concat (files_fields files) ≡ spelled_files files
files_spelled files = ap (λ (l : List ℕ). to_le_bytes w32 (length files) ++ l) (concat_items file_fields spelled_file file_spelled files)

rowset_spelled : (r : MetaRowset) → concat (rowset_fields r) ≡ spelled_rowset r
rowset_spelled r =
    ap (λ (l : List ℕ). to_le_bytes w64 r.rowset ++ (to_le_bytes w64 r.last_dms ++ l))
    (concat-append (file_fields r.base) (files_fields r.undo ++ files_fields r.redo) ∙ ap (λ (l : List ℕ). l ++ concat (files_fields r.undo ++ files_fields r.redo)) (file_spelled r.base)
    ∙ ap (λ (l : List ℕ). spelled_file r.base ++ l) (concat-append (files_fields r.undo) (files_fields r.redo) ∙ ap (λ (l : List ℕ). l ++ concat (files_fields r.redo)) (files_spelled r.undo) ∙ ap (λ (l : List ℕ). spelled_files r.undo ++ l) (files_spelled r.redo)))

pub rowsets_spelled : (rowsets : List MetaRowset) → concat (rowsets_fields rowsets) ≡ spelled_rowsets rowsets
rowsets_spelled rowsets = ap (λ (l : List ℕ). to_le_bytes w32 (length rowsets) ++ l) (concat_items rowset_fields spelled_rowset rowset_spelled rowsets)
