-- A body as a part of the format.
use Rattle.std.proofs.Common.{◌≡◌, ℕ, ◌^◌, ◌<◌, ◌≤◌, true, ◌&&◌, eqb, leb, List, ◌++◌, length, Result, Ok, Err, refl, sym, ap, subst, ◌∙◌, arith}
use Rattle.std.specs.List.{concat}
use Rattle.std.specs.Int.{w16, w64, to_le_bytes}
use Rattle.std.proofs.lemmas.Bool.{eqb-true, ltb-true, leb-true, le-leb}
use Rattle.std.proofs.lemmas.List.{append-nil}
use Rattle.std.proofs.lemmas.List.Folds.{concat-append}
use Rattle.kt_schema.specs.declared.column.Column.{Column}
use Rattle.kt_bytes.specs.Places.{IsSpelled}
use Rattle.kt_bytes.specs.Reading.{◌>>=◌}
use Rattle.kt_bytes.proofs.Numbers.{IsBytes, bind_ok, ok_is}
use Rattle.kt_bytes.proofs.Formats.{FaultAt, Part, same_format, bytes_front, bytes_back}
use Rattle.kt_bytes.proofs.Joins.{both_part, same_part, give, made_at, made_part}
use Rattle.kt_bytes.proofs.Whole.{ended, fault}
use Rattle.kt_super.specs.declared.meta.Meta.{Meta}
use Rattle.kt_super.specs.declared.body.Head.{Head}
use Rattle.kt_super.specs.Columns.{spelled_columns, counted_columns_at}
use Rattle.kt_super.specs.Rowsets.{is_small, counted_rowsets_at}
use Rattle.kt_super.specs.Body.{slot_for, is_number, head_of, meta_of, spelled_head, spelled_body, head_at, body_at}
use Rattle.kt_super.specs.Fields.{head_fields, columns_fields, rowsets_fields, body_fields, StandsIn, Spelled}
use Rattle.kt_super.proofs.ColumnParts.{both}
use Rattle.kt_super.proofs.ColumnLists.{few_columns, ColumnsFit, counted_columns_part, columns_spelled}
use Rattle.kt_super.proofs.RowsetLists.{RowsetsFit, counted_rowsets_part, rowsets_spelled}
use Rattle.kt_super.proofs.SchemaOf.{makes}
use Rattle.kt_super.proofs.HeadParts.{HeadFits, head_number, head_part}
use Rattle.kt_super.proofs.InBytes.{InBytes, in_bytes}

-- ---- what a body is made of

low_rowset : (slot : ℕ) (h : Head) → HeadFits slot h → h.next_rowset < 2 ^ 62
low_rowset slot h f = ltb-true h.next_rowset (2 ^ 62) f.next_rowset

low_file : (slot : ℕ) (h : Head) → HeadFits slot h → h.next_file < 2 ^ 62
low_file slot h f = ltb-true h.next_file (2 ^ 62) (both (leb 3 h.next_file) (is_small h.next_file) f.next_file).1

least_file : (slot : ℕ) (h : Head) → HeadFits slot h → 3 ≤ h.next_file
least_file slot h f = leb-true 3 h.next_file (both (leb 3 h.next_file) (is_small h.next_file) f.next_file).0

abbrev Rows : Head → List Column → Meta → Type 0
Rows h columns m = RowsetsFit h.next_rowset h.next_file m.rowsets × (meta_of h columns m.rowsets ≡ m)

abbrev Cols : Head → Meta → Type 0
Cols h m = ColumnsFit h.next_column m.schema × Rows h m.schema m

abbrev rows_step : Head → List Column → List ℕ → Result (Meta × List ℕ) ℕ
rows_step h columns = made_at (counted_rowsets_at h.next_rowset h.next_file) (meta_of h columns)

abbrev cols_step : Head → List ℕ → Result (Meta × List ℕ) ℕ
cols_step h bytes = counted_columns_at h.next_column bytes >>= λ columns. rows_step h columns.0 columns.1

abbrev cols_fields : Meta → List (List ℕ)
cols_fields m = columns_fields m.schema ++ rowsets_fields m.rowsets

-- a superblock in its slot, in bytes
abbrev pub Kept : ℕ → Meta → Type 0
Kept slot = InBytes body_fields (StandsIn slot)

module _ (slot least : ℕ) (stands : is_number slot least ≡ true) where
  rows_part : (h : Head) (columns : List Column) → HeadFits slot h → Part (rows_step h columns) (λ m. rowsets_fields m.rowsets) (Rows h columns)
  rows_part h columns f =
      made_part (counted_rowsets_at h.next_rowset h.next_file) rowsets_fields (RowsetsFit h.next_rowset h.next_file) (meta_of h columns) (λ m. m.rowsets) (λ rowsets g. refl)
      (counted_rowsets_part h.next_rowset h.next_file (low_rowset slot h f) (low_file slot h f) (least_file slot h f))

  cols_part : (h : Head) → HeadFits slot h → Part (cols_step h) cols_fields (Cols h)
  cols_part h f =
      both_part (counted_columns_at h.next_column) columns_fields (ColumnsFit h.next_column) (rows_step h) (λ m. rowsets_fields m.rowsets) (Rows h) (λ m. m.schema) (λ columns m g. sym (ap (λ (x : Meta). x.schema) g.1))
      (counted_columns_part h.next_column f.column_fits (leb-true 1 h.next_column f.next_column)) (λ columns g. rows_part h columns f)

  abbrev All : Meta → Type 0
  All m = HeadFits slot (head_of m) × Cols (head_of m) m

  all_part : Part (body_at slot) body_fields All
  unfolding body_at
  all_part = both_part (head_at slot) head_fields (HeadFits slot) cols_step cols_fields Cols head_of (λ h m g. sym (ap head_of g.1.1)) (head_part slot least stands) cols_part

  pub body_part : Part (body_at slot) body_fields (Kept slot)
  body_part = same_part (body_at slot) body_fields body_fields (InBytes body_fields All) (Kept slot) to from (λ m f. refl) (in_bytes (body_at slot) body_fields All all_part)
    where
      here : (n : ℕ) → is_number slot n ≡ true → slot_for n ≡ slot
      here n e = eqb-true (slot_for n) slot (both (leb 1 n && is_small n) (eqb (slot_for n) slot) e).1

      to : (m : Meta) → InBytes body_fields All m → Kept slot m
      to m f =
          let h = f.0.0 in
          let c = f.0.1.0 in
          let r = f.0.1.1.0 in
          let at = here m.number h.number in (
            record {
              rules = record {
                number = subst (λ (k : ℕ). is_number k m.number ≡ true) (sym at) h.number;
                a = h.a;
                c = h.c;
                need = h.need;
                last_mem = h.last_mem;
                next_rowset = h.next_rowset;
                next_file = h.next_file;
                next_column = h.column_fits;
                count = c.0;
                columns = c.1;
                schema = makes m.next_column m.schema c.0 c.1;
                rowsets = r.are;
              };
              slot_is = at;
              rowsets = r.count;
              files = r.files;
            },
            f.1,
          )

      columns_bytes : (m : Meta) → IsBytes (concat (body_fields m)) → IsBytes (concat (columns_fields m.schema))
      columns_bytes m fits =
          bytes_front (concat (columns_fields m.schema)) (concat (rowsets_fields m.rowsets))
          (subst IsBytes (concat-append (columns_fields m.schema) (rowsets_fields m.rowsets))
          (bytes_back (concat (head_fields (head_of m))) (concat (cols_fields m)) (subst IsBytes (concat-append (head_fields (head_of m)) (cols_fields m)) fits)))

      from : (m : Meta) → Kept slot m → InBytes body_fields All m
      from m f =
          let i = f.0.rules in
          let some = leb-true 1 (length m.schema) (both (leb 1 (length m.schema)) (leb (length m.schema) 300) i.count).0 in (
            (
              record {
                number = subst (λ (k : ℕ). is_number k m.number ≡ true) f.0.slot_is i.number;
                a = i.a;
                c = i.c;
                need = i.need;
                last_mem = i.last_mem;
                next_rowset = i.next_rowset;
                next_file = i.next_file;
                next_column = le-leb 1 m.next_column (omega (arith, some, few_columns m.next_column m.schema i.columns));
                column_fits = i.next_column;
              },
              ((i.count, i.columns, columns_bytes m f.1), (record { are = i.rowsets; count = f.0.rowsets; files = f.0.files }, refl)),
            ),
            f.1,
          )

  -- ---- faults

  fault_kept : (bytes : List ℕ) (left : ℕ) → IsBytes bytes → body_at slot bytes ≡ Err left → FaultAt (IsSpelled body_fields (Kept slot)) bytes left
  fault_kept bytes left fits e = fault (body_at slot) body_fields (Kept slot) body_part bytes left fits (ap (λ (r : Result (Meta × List ℕ) ℕ). r >>= ended (body_at slot) body_fields (Kept slot) body_part) e)

  -- where a body cannot be read, its first fault
  pub body_fault : (bytes : List ℕ) (left : ℕ) → IsBytes bytes → body_at slot bytes ≡ Err left → FaultAt (Spelled slot) bytes left
  body_fault bytes left fits e = same_format (IsSpelled body_fields (Kept slot)) (Spelled slot) bytes left to from (fault_kept bytes left fits e)
    where
      to : (all : List (List ℕ)) → IsSpelled body_fields (Kept slot) all → Spelled slot all
      to all s = record { value = s.value; keeps = s.keeps.0; bytes = s.bytes; is = s.is }

      from : (all : List (List ℕ)) → Spelled slot all → IsSpelled body_fields (Kept slot) all
      from all s = record { value = s.value; keeps = (s.keeps, subst (λ (l : List (List ℕ)). IsBytes (concat l)) s.is s.bytes); bytes = s.bytes; is = s.is }

-- ---- the bytes of a body

head_spelled : (h : Head) → concat (head_fields h) ≡ spelled_head h
head_spelled h =
    ap (λ (l : List ℕ). to_le_bytes w16 1 ++ (to_le_bytes w64 h.number ++ (to_le_bytes w64 h.a ++ (to_le_bytes w64 h.c ++ (to_le_bytes w64 h.need ++ (to_le_bytes w64 h.last_mem ++ (to_le_bytes w64 h.next_rowset ++ (to_le_bytes w64 h.next_file ++ l))))))))
    (append-nil (to_le_bytes w16 h.next_column))

pub body_spelled : (m : Meta) → concat (body_fields m) ≡ spelled_body m
body_spelled m =
    concat-append (head_fields (head_of m)) (cols_fields m) ∙ ap (λ (l : List ℕ). l ++ concat (cols_fields m)) (head_spelled (head_of m))
    ∙ ap (λ (l : List ℕ). spelled_head (head_of m) ++ l)
    (concat-append (columns_fields m.schema) (rowsets_fields m.rowsets) ∙ ap (λ (l : List ℕ). l ++ concat (rowsets_fields m.rowsets)) (columns_spelled m.schema) ∙ ap (λ (l : List ℕ). spelled_columns m.schema ++ l) (rowsets_spelled m.rowsets))

-- ---- reading

rows_number : (h : Head) (columns : List Column) (bytes : List ℕ) (x : Meta × List ℕ) → rows_step h columns bytes ≡ Ok x → x.0.number ≡ h.number
rows_number h columns bytes x e =
    let rowsets = bind_ok (counted_rowsets_at h.next_rowset h.next_file bytes) (give (meta_of h columns)) x e in
    sym (ap (λ (y : Meta × List ℕ). y.0.number) (ok_is (meta_of h columns rowsets.0.0, rowsets.0.1) x rowsets.2))

-- the number that was read stands in the slot
pub body_number : (slot : ℕ) (bytes : List ℕ) (x : Meta × List ℕ) → body_at slot bytes ≡ Ok x → is_number slot x.0.number ≡ true
unfolding body_at
body_number slot bytes x e =
    let h = bind_ok (head_at slot bytes) (λ h. cols_step h.0 h.1) x e in
    let columns = bind_ok (counted_columns_at h.0.0.next_column h.0.1) (λ c. rows_step h.0.0 c.0 c.1) x h.2 in
    subst (λ (n : ℕ). is_number slot n ≡ true) (sym (rows_number h.0.0 columns.0.0 columns.0.1 x columns.2)) (head_number slot bytes h.0 h.1)

-- the superblock that was read keeps the rules, and is spelled so
pub body_takes : (slot : ℕ) (bytes : List ℕ) (x : Meta × List ℕ) → IsBytes bytes → body_at slot bytes ≡ Ok x → (bytes ≡ spelled_body x.0 ++ x.1) × StandsIn slot x.0
body_takes slot bytes x fits e =
    let t = (body_part slot x.0.number (body_number slot bytes x e)).took bytes x fits e in
    (t.parts ∙ ap (λ (l : List ℕ). l ++ x.1) (body_spelled x.0), t.fits.0)

-- one that is spelled is read
pub body_again : (slot : ℕ) (m : Meta) (rest : List ℕ) → StandsIn slot m → IsBytes (spelled_body m) → body_at slot (spelled_body m ++ rest) ≡ Ok (m, rest)
body_again slot m rest s fits =
    ap (λ (l : List ℕ). body_at slot (l ++ rest)) (sym (body_spelled m))
    ∙ (body_part slot m.number (subst (λ (k : ℕ). is_number k m.number ≡ true) s.slot_is s.rules.number)).again m rest (s, subst IsBytes (sym (body_spelled m)) fits)
