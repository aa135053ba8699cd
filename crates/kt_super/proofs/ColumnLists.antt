-- Columns behind their count as a part of the format.
use Rattle.std.proofs.Common.{◌≡◌, ℕ, ◌^◌, ◌<◌, ◌≤◌, Bool, true, false, not, leb, ltb, List, [], ◌∷◌, ◌++◌, length, None, Ok, refl, sym, ap, subst, ◌∙◌, append_assoc, arith}
use Rattle.std.specs.List.{concat, flat_map}
use Rattle.std.specs.Int.{w8, w16, to_le_bytes}
use Rattle.std.proofs.lemmas.Bool.{ltb-true, leb-true, le-leb}
use Rattle.std.proofs.lemmas.List.{append-nil}
use Rattle.std.proofs.lemmas.List.Folds.{concat-append}
use Rattle.std.proofs.lemmas.List.Concat.{flat_map-cons}
use Rattle.kt_schema.specs.declared.column.Column.{Column}
use Rattle.kt_schema.specs.Columns.{columns_no}
use Rattle.kt_bytes.specs.Reading.{checked_at, many_at, EachAfter}
use Rattle.kt_bytes.proofs.Numbers.{IsBytes, bind_ok, checked_passes, wide16}
use Rattle.kt_bytes.proofs.Formats.{Part, bytes_front, bytes_back}
use Rattle.kt_bytes.proofs.Leaves.{Passes, number_fields, number_part}
use Rattle.kt_bytes.proofs.Joins.{both_part, same_part, concat_items}
use Rattle.kt_super.specs.Columns.{has_id, is_count, AreColumns, kind_number, flags_of, spelled_default, spelled_column, spelled_columns, may_have, column_at, counted_columns_at}
use Rattle.kt_super.specs.Fields.{default_fields, column_fields, columns_fields}
use Rattle.kt_super.proofs.Apart.{Apart, none_apart, push_apart, few_apart}
use Rattle.kt_super.proofs.CellParts.{default_spelled}
use Rattle.kt_super.proofs.InBytes.{InBytes, in_bytes}
use Rattle.kt_super.proofs.SchemaOf.{no_refusal}
use Rattle.kt_super.proofs.ColumnParts.{both, and_true, Keeps, AreKept, columns_part}

-- ---- columns have ids of their own

abbrev id_of : Column → ℕ
id_of c = c.id

not_true : (b : Bool) → not b ≡ true → b ≡ false
not_true true e = absurd cc
not_true false e = refl

ids_apart : (next : ℕ) (front columns : List Column) → Apart id_of next front → AreColumns next front columns → Apart id_of next (front ++ columns)
ids_apart next front [] a are = subst (Apart id_of next) (sym (append-nil front)) a
ids_apart next front (c ∷ columns) a are =
    let id = both (ltb c.id next) (not (has_id front c.id)) are.0.id in
    subst (Apart id_of next) (append_assoc front (c ∷ []) columns)
    (ids_apart next (front ++ c ∷ []) columns (push_apart id_of next front c a (ltb-true c.id next id.0) (not_true (has_id front c.id) id.1)) are.1)

-- so they are no more than there are ids
pub few_columns : (next : ℕ) (columns : List Column) → AreColumns next [] columns → length columns ≤ next
few_columns next columns are = few_apart id_of next columns (ids_apart next [] columns (none_apart id_of next) are)

-- ---- columns that are kept

kept_are : (next : ℕ) (front columns : List Column) → EachAfter (Keeps next) front columns → AreColumns next front columns
kept_are next front [] each = tt
kept_are next front (c ∷ columns) each = (each.0.0, kept_are next (front ++ c ∷ []) columns each.1)

column_bytes : (c : Column) → IsBytes (concat (column_fields c)) → IsBytes c.name
column_bytes c h =
    bytes_front c.name (to_le_bytes w8 (kind_number c.kind) ++ (to_le_bytes w8 (flags_of c) ++ concat (default_fields c.default)))
    (bytes_back (to_le_bytes w8 (length c.name)) (c.name ++ (to_le_bytes w8 (kind_number c.kind) ++ (to_le_bytes w8 (flags_of c) ++ concat (default_fields c.default))))
    (bytes_back (to_le_bytes w16 c.id) (to_le_bytes w8 (length c.name) ++ (c.name ++ (to_le_bytes w8 (kind_number c.kind) ++ (to_le_bytes w8 (flags_of c) ++ concat (default_fields c.default))))) h))

are_kept : (next : ℕ) (front columns : List Column) → AreColumns next front columns → IsBytes (concat (flat_map column_fields columns)) → EachAfter (Keeps next) front columns
are_kept next front [] are h = tt
are_kept next front (c ∷ columns) are h =
    let parts = subst IsBytes (ap concat (flat_map-cons column_fields c columns) ∙ concat-append (column_fields c) (flat_map column_fields columns)) h in (
      (are.0, column_bytes c (bytes_front (concat (column_fields c)) (concat (flat_map column_fields columns)) parts)),
      are_kept next (front ++ c ∷ []) columns are.1 (bytes_back (concat (column_fields c)) (concat (flat_map column_fields columns)) parts),
    )

-- ---- behind their count

-- columns that keep the rules, in bytes
abbrev pub ColumnsFit : ℕ → List Column → Type 0
ColumnsFit next columns = (is_count (length columns) ≡ true) × AreColumns next [] columns × IsBytes (concat (columns_fields columns))

module _ (next : ℕ) where
  abbrev Counts : ℕ → Type 0
  Counts = Passes (may_have next) (2 ^ 16)

  abbrev Counted : List Column → Type 0
  Counted columns = Counts (length columns) × AreKept next (length columns) columns

  count_below : (n : ℕ) → is_count n ≡ true → n < 2 ^ 16
  count_below n e = omega (arith, leb-true n 300 (both (leb 1 n) (leb n 300) e).1)

  counted : next < 2 ^ 16 → 1 ≤ next → Part (counted_columns_at next) columns_fields Counted
  unfolding counted_columns_at
  counted fits some =
      both_part (checked_at w16 (may_have next)) (number_fields w16) Counts (λ n. many_at (column_at next) n []) (flat_map column_fields) (AreKept next) length (λ n columns f. f.0)
      (number_part w16 (2 ^ 16) wide16 (may_have next) (omega arith) 1 (le-leb 1 next some) (omega arith))
      (λ n f. columns_part next n fits (leb-true n next (both (is_count n) (leb n next) f.0).1))

  pub counted_columns_part : next < 2 ^ 16 → 1 ≤ next → Part (counted_columns_at next) columns_fields (ColumnsFit next)
  counted_columns_part fits some =
      same_part (counted_columns_at next) columns_fields columns_fields (InBytes columns_fields Counted) (ColumnsFit next) to from (λ columns f. refl) (in_bytes (counted_columns_at next) columns_fields Counted (counted fits some))
    where
      to : (columns : List Column) → InBytes columns_fields Counted columns → ColumnsFit next columns
      to columns f = ((both (is_count (length columns)) (leb (length columns) next) f.0.0.0).0, kept_are next [] columns f.0.1.1, f.1)

      from : (columns : List Column) → ColumnsFit next columns → InBytes columns_fields Counted columns
      from columns f =
          let few = le-leb (length columns) next (few_columns next columns f.1) in
          (((and_true (is_count (length columns)) (leb (length columns) next) f.0 few, count_below (length columns) f.0), (refl, are_kept next [] columns f.1 (bytes_back (to_le_bytes w16 (length columns)) (concat (flat_map column_fields columns)) f.2))), f.2)

-- ---- their bytes

column_spelled : (c : Column) → concat (column_fields c) ≡ spelled_column c
column_spelled c =
    ap (λ (l : List ℕ). to_le_bytes w16 c.id ++ (to_le_bytes w8 (length c.name) ++ (c.name ++ (to_le_bytes w8 (kind_number c.kind) ++ (to_le_bytes w8 (flags_of c) ++ l))))) (default_spelled c.default)
    ∙ ap (λ (l : List ℕ). to_le_bytes w16 c.id ++ l) (sym (append_assoc (to_le_bytes w8 (length c.name)) c.name (to_le_bytes w8 (kind_number c.kind) ++ (to_le_bytes w8 (flags_of c) ++ spelled_default c.default))))

pub columns_spelled : (columns : List Column) → concat (columns_fields columns) ≡ spelled_columns columns
columns_spelled columns = ap (λ (l : List ℕ). to_le_bytes w16 (length columns) ++ l) (concat_items column_fields spelled_column column_spelled columns)

-- ---- columns that were read make a schema

none_below : (next : ℕ) (n : ℕ) → may_have next n ≡ true → 1 ≤ next
none_below next n e =
    let two = both (is_count n) (leb n next) e in
    omega (arith, leb-true 1 n (both (leb 1 n) (leb n 300) two.0).0, leb-true n next two.1)

pub columns_make : (next : ℕ) (bytes : List ℕ) (x : List Column × List ℕ) → next < 2 ^ 16 → IsBytes bytes → counted_columns_at next bytes ≡ Ok x → columns_no x.0 ≡ None
unfolding counted_columns_at
columns_make next bytes x fits own e =
    let n = bind_ok (checked_at w16 (may_have next) bytes) (λ n. many_at (column_at next) n.0 [] n.1) x e in
    let some = none_below next n.0.0 (checked_passes w16 (may_have next) bytes n.0 n.1) in
    let t = (counted_columns_part next fits some).took bytes x own e in
    no_refusal next x.0 t.fits.0 t.fits.1
