-- Columns that keep the rules make a schema.
use Rattle.std.proofs.Common.{◌≡◌, ℕ, zero, suc, Bool, true, false, not, ◌&&◌, ◌||◌, leb, ltb, List, [], ◌∷◌, ◌++◌, length, take, Option, Some, None, refl, sym, ap, ◌∙◌, append_assoc}
use Rattle.std.specs.Prelude.{is_none}
use Rattle.std.specs.List.{list_any, list_all, slice_get}
use Rattle.std.specs.Option.{option_map_or}
use Rattle.std.proofs.lemmas.Bool.{leb-true, le-ltb}
use Rattle.std.proofs.lemmas.List.{append-nil}
use Rattle.kt_base.specs.declared.cell.Kind.{Kind}
use Rattle.kt_base.specs.declared.cell.Kind.TheVariants as kind
use Rattle.kt_schema.specs.declared.column.Column.{Column}
use Rattle.kt_schema.specs.First.{passes_at}
use Rattle.kt_schema.specs.Columns.{is_late, is_weak, is_again, late_column, weak_column, again_column, columns_no}
use Rattle.kt_schema.proofs.Places.{first-none}
use Rattle.kt_super.specs.Columns.{has_name, may_stand, is_count, IsColumn, AreColumns}
use Rattle.kt_super.specs.Body.{makes_schema}
use Rattle.kt_super.proofs.ColumnParts.{both}

module _ (next : ℕ) (Bad : List Column → Column → Bool) (good : (front : List Column) (c : Column) → IsColumn next front c → Bad front c ≡ false) where
  -- what no column is behind those before it, none is at a place
  at_each : (front columns : List Column) → AreColumns next front columns → (k : ℕ) → passes_at (Bad (front ++ take k columns)) columns k ≡ false
  at_each front [] are k = refl
  at_each front (c ∷ columns) are zero = ap (λ (l : List Column). Bad l c) (append-nil front) ∙ good front c are.0
  at_each front (c ∷ columns) are (suc k) = ap (λ (l : List Column). passes_at (Bad l) columns k) (sym (append_assoc front (c ∷ []) (take k columns))) ∙ at_each (front ++ c ∷ []) columns are.1 k

passes_and : {A : Type 0} (p : A → Bool) (b : Bool) (o : Option A) → option_map_or (λ x. p x && b) o false ≡ (option_map_or p o false && b)
passes_and p b None = refl
passes_and p b (Some x) = refl

keys_only : (front : List Column) → list_all (λ (d : Column). d.key) front ≡ true → list_any (λ (d : Column). not d.key) front ≡ false
keys_only [] e = refl
keys_only (d ∷ front) e =
    let two = both d.key (list_all (λ (d : Column). d.key) front) e in
    ap (λ (b : Bool). not b || list_any (λ (d : Column). not d.key) front) two.0 ∙ keys_only front two.1

module _ (next : ℕ) where
  abbrev late : List Column → Column → Bool
  late front c = c.key && list_any (λ (d : Column). not d.key) front

  not_late : (front : List Column) (c : Column) → IsColumn next front c → late front c ≡ false
  not_late front c is = by c.key c.nullable c.kind is.flags
    where
      by : (key nullable : Bool) (k : Kind) → may_stand front k key nullable ≡ true → (key && list_any (λ (d : Column). not d.key) front) ≡ false
      by false nullable k e = refl
      by true nullable k e = keys_only front (both _ (list_all (λ (d : Column). d.key) front) e).1

  not_weak : (front : List Column) (c : Column) → IsColumn next front c → is_weak c ≡ false
  not_weak front c is = by c.key c.nullable c.kind is.flags
    where
      by : (key nullable : Bool) (k : Kind) → may_stand front k key nullable ≡ true → is_weak (record { id = c.id; name = c.name; kind = k; key = key; nullable = nullable; default = c.default }) ≡ false
      by false nullable k e = refl
      by true true k e = absurd cc
      by true false kind.Bool e = absurd cc
      by true false kind.Int8 e = refl
      by true false kind.Int16 e = refl
      by true false kind.Int32 e = refl
      by true false kind.Int64 e = refl
      by true false kind.String e = refl
      by true false kind.Binary e = refl

  not_again : (front : List Column) (c : Column) → IsColumn next front c → has_name front c.name ≡ false
  not_again front c is = is.name

  first_key : (columns : List Column) → is_count (length columns) ≡ true → AreColumns next [] columns → list_any (λ (c : Column). c.key) columns ≡ true
  first_key [] count are = absurd cc
  first_key (c ∷ columns) count are = by c.key are.0.flags
    where
      by : (key : Bool) → may_stand [] c.kind key c.nullable ≡ true → (key || list_any (λ (c : Column). c.key) columns) ≡ true
      by true e = refl
      by false e = absurd cc

  no_reason : (columns : List Column) → is_count (length columns) ≡ true → AreColumns next [] columns → columns_no columns ≡ None
  no_reason columns count are =
      let key = first_key columns count are in
      let late_none : late_column columns ≡ None = first-none (is_late columns) (length columns) (λ k lt. sym (passes_and (λ (c : Column). c.key) (list_any (λ (d : Column). not d.key) (take k columns)) (slice_get columns k)) ∙ at_each next late not_late [] columns are k) in
      let weak_none : weak_column columns ≡ None = first-none (passes_at is_weak columns) (length columns) (λ k lt. at_each next (λ front. is_weak) not_weak [] columns are k) in
      let again_none : again_column columns ≡ None = first-none (is_again columns) (length columns) (λ k lt. at_each next (λ front c. has_name front c.name) not_again [] columns are k) in
      let few : ltb 300 (length columns) ≡ false = le-ltb 300 (length columns) (leb-true (length columns) 300 (both (leb 1 (length columns)) (leb (length columns) 300) count).1) in
      rw (key, late_none, weak_none, again_none, few) refl

-- columns that keep the rules make a schema
pub makes : (next : ℕ) (columns : List Column) → is_count (length columns) ≡ true → AreColumns next [] columns → makes_schema columns ≡ true
makes next columns count are = ap is_none (no_reason next columns count are)

pub no_refusal : (next : ℕ) (columns : List Column) → is_count (length columns) ≡ true → AreColumns next [] columns → columns_no columns ≡ None
no_refusal next columns count are = no_reason next columns count are
