-- Columns whose lines are taken make a schema, once one of them is a key.
use Rattle.std.proofs.Common.{◌≡◌, ℕ, suc, ◌+◌, ◌<◌, ◌≤◌, Bool, true, false, not, min, ◌&&◌, ◌||◌, List, [], ◌∷◌, ◌++◌, length, take, Option, Some, None, inl, inr, refl, sym, ap, subst, ◌∙◌, arith, length-append}
use Rattle.std.specs.Prelude.{◌⊎◌, ◌==◌, if◌then◌else◌, nat_lt, nat_le, codes}
use Rattle.std.specs.List.{list_any}
use Rattle.std.specs.Option.{option_map_or}
use Rattle.std.specs.Ordering.{nat_cmp, is_eq}
use Rattle.std.specs.Cmp.Lexicographic.{slice_cmp}
use Rattle.std.proofs.lemmas.Option.{slice_get-get_or}
use Rattle.std.proofs.lemmas.List.{get_or_append_left, take-append-le}
use Rattle.std.proofs.lemmas.Bool.{eq-eqb}
use Rattle.std.proofs.lemmas.Bool.Decides.{nat_tests}
use Rattle.std.proofs.Math.Seq.{get_or-append_seam, take-append_seam}
use Rattle.kt_base.specs.declared.cell.Kind.{Kind}
use Rattle.kt_base.specs.Literals.{same}
use Rattle.kt_base.proofs.Values.{both, both_true}
use Rattle.kt_key.specs.Fit.{is_bool}
use Rattle.kt_schema.specs.Names.{is_name}
use Rattle.kt_schema.specs.declared.column.Column.{Column}
use Rattle.kt_schema.specs.First.{passes_at}
use Rattle.kt_schema.specs.Columns.{is_late, is_weak, is_again, same_name, columns_no}
use Rattle.kt_schema.proofs.Places.{first-none}
use Rattle.kt_script.specs.Pieces.{words_of}
use Rattle.kt_script.specs.Reasons.{sound, reason_if}
use Rattle.kt_script.specs.Columns.{ColumnLine, counts_from, IsTable, kind_of, with_default, as_key, marked, of_kind, column_line, default_no, default_value, said_no, column_no, with_column, columns_with}

below_or_last : (k n : ℕ) → k < suc n → (k < n) ⊎ (k ≡ n)
below_or_last k n h = grind arith

passes_left : (p : Column → Bool) (xs : List Column) (c : Column) (k : ℕ) → k < length xs → passes_at p (xs ++ c ∷ []) k ≡ passes_at p xs k
passes_left p xs c k h =
    let size : length (xs ++ c ∷ []) ≡ length xs + length (c ∷ []) = length-append xs (c ∷ []) in
    let within : k < length (xs ++ c ∷ []) = omega (arith, size) in
    ap (λ o. option_map_or p o false) (slice_get-get_or (xs ++ c ∷ []) k c within ∙ (ap Some (get_or_append_left xs (c ∷ []) c k h) ∙ sym (slice_get-get_or xs k c h)))

passes_last : (p : Column → Bool) (xs : List Column) (c : Column) → passes_at p (xs ++ c ∷ []) (length xs) ≡ p c
passes_last p xs c =
    let size : length (xs ++ c ∷ []) ≡ length xs + length (c ∷ []) = length-append xs (c ∷ []) in
    let within : length xs < length (xs ++ c ∷ []) = omega (arith, size) in
    ap (λ o. option_map_or p o false) (slice_get-get_or (xs ++ c ∷ []) (length xs) c within ∙ ap Some (get_or-append_seam xs c [] c))

-- what a column that is taken keeps
pub record Fits (columns : List Column) (c : Column) : Type 0 where
  pub late : (c.key && list_any (λ d. not d.key) columns) ≡ false
  pub weak : is_weak c ≡ false
  pub again : list_any (λ d. same_name c d) columns ≡ false
  pub few : length columns < 300
  pub id : c.id ≡ length columns + 1

pub table_more : (columns : List Column) (c : Column) → IsTable columns → Fits columns c → IsTable (columns ++ c ∷ [])
table_more columns c t f = record {
  late = λ k h. elim (below_or_last k (length columns) (count k h)) [
    | inl lt ↦ ap (λ b. b && list_any (λ d. not d.key) (take k (columns ++ c ∷ []))) (passes_left (λ d. d.key) columns c k lt) ∙ (ap (λ xs. passes_at (λ (d : Column). d.key) columns k && list_any (λ d. not d.key) xs) (front k lt) ∙ t.late k lt)
    | inr e ↦ subst (λ n. is_late (columns ++ c ∷ []) n ≡ false) (sym e)
        (ap (λ b. b && list_any (λ d. not d.key) (take (length columns) (columns ++ c ∷ []))) (passes_last (λ d. d.key) columns c) ∙ (ap (λ xs. c.key && list_any (λ d. not d.key) xs) (take-append_seam columns (c ∷ [])) ∙ f.late))
  ];
  weak = λ k h. elim (below_or_last k (length columns) (count k h)) [
    | inl lt ↦ passes_left is_weak columns c k lt ∙ t.weak k lt
    | inr e ↦ subst (λ n. passes_at is_weak (columns ++ c ∷ []) n ≡ false) (sym e) (passes_last is_weak columns c ∙ f.weak)
  ];
  again = λ k h. elim (below_or_last k (length columns) (count k h)) [
    | inl lt ↦ ap (λ xs. passes_at (λ e. list_any (λ d. same_name e d) xs) (columns ++ c ∷ []) k) (front k lt) ∙ (passes_left (λ e. list_any (λ d. same_name e d) (take k columns)) columns c k lt ∙ t.again k lt)
    | inr e ↦ subst (λ n. is_again (columns ++ c ∷ []) n ≡ false) (sym e)
        (ap (λ xs. passes_at (λ e. list_any (λ d. same_name e d) xs) (columns ++ c ∷ []) (length columns)) (take-append_seam columns (c ∷ [])) ∙ (passes_last (λ e. list_any (λ d. same_name e d) columns) columns c ∙ f.again))
  ];
  few = let size : length (columns ++ c ∷ []) ≡ length columns + length (c ∷ []) = length-append columns (c ∷ []) in omega (arith, size, f.few);
  ids = counts_on 1 columns t.ids (f.id ∙ swap);
}
  where
    swap : length columns + 1 ≡ 1 + length columns
    swap = omega arith

    counts_on : (n : ℕ) (xs : List Column) → counts_from n xs ≡ true → c.id ≡ n + length xs → counts_from n (xs ++ c ∷ []) ≡ true
    counts_on n [] h e = ap (λ b. b && true) (eq-eqb c.id n (e ∙ last))
      where
        last : n + 0 ≡ n
        last = omega arith
    counts_on n (x ∷ xs) h e = let parts = both_true (x.id == n) (counts_from (n + 1) xs) h in both _ _ parts.0 (counts_on (n + 1) xs parts.1 (e ∙ step))
      where
        step : n + length (x ∷ xs) ≡ n + 1 + length xs
        step = omega arith

    count : (k : ℕ) → k < length (columns ++ c ∷ []) → k < suc (length columns)
    count k h = let size : length (columns ++ c ∷ []) ≡ length columns + length (c ∷ []) = length-append columns (c ∷ []) in omega (arith, size)

    front : (k : ℕ) → k < length columns → take k (columns ++ c ∷ []) ≡ take k columns
    front k h = take-append-le k columns (c ∷ []) (omega arith)

-- no column yet
pub table_none : IsTable []
table_none = record { late = λ k h. absurd (omega arith); weak = λ k h. absurd (omega arith); again = λ k h. absurd (omega arith); few = omega arith; ids = refl }

-- with a key they make a schema
pub table_schema : (columns : List Column) → IsTable columns → list_any (λ c. c.key) columns ≡ true → columns_no columns ≡ None
table_schema columns t key =
    let late = first-none (is_late columns) (length columns) t.late in
    let weak = first-none (passes_at is_weak columns) (length columns) t.weak in
    let again = first-none (is_again columns) (length columns) t.again in
    let small = t.few in
    let few : nat_lt 300 (length columns) ≡ false = grind (arith, nat_tests) in
    rw (key, late, weak, again, few) refl

off : (t : Bool) (r : ℕ) → r < sound → sound ≤ reason_if t r → t ≡ false
off true r h g = absurd (omega arith)
off false r h g = refl

-- a key column says nothing of null
key_null : (words : List (List ℕ)) (l : ColumnLine) → column_line words ≡ Some l → (l.key && l.nullable) ≡ false
key_null [] l e = absurd cc
key_null (a ∷ []) l e = absurd cc
key_null (a ∷ b ∷ []) l e = absurd cc
key_null (a ∷ name ∷ kindword ∷ words) l e = by (same a (codes "column") && is_name name) e
  where
    plain : (k : Kind) (nullable : Bool) (ws : List (List ℕ)) → with_default name k nullable ws ≡ Some l → (l.key && l.nullable) ≡ false
    plain k nullable [] g = let is : false ≡ l.key = ap (λ o. option_map_or (λ (x : ColumnLine). x.key) o false) g in ap (λ b. b && l.nullable) (sym is)
    plain k nullable (w ∷ []) g = absurd cc
    plain k nullable (w ∷ v ∷ []) g = default (same w (codes "default")) g
      where
        default : (t : Bool) → (if t then Some (record { name = name; kind = k; key = false; nullable = nullable; default = Some v }) else None) ≡ Some l → (l.key && l.nullable) ≡ false
        default true g = let is : false ≡ l.key = ap (λ o. option_map_or (λ (x : ColumnLine). x.key) o false) g in ap (λ b. b && l.nullable) (sym is)
        default false g = absurd cc
    plain k nullable (w ∷ v ∷ u ∷ ws) g = absurd cc

    key : (k : Kind) (ws : List (List ℕ)) → as_key name k ws ≡ Some l → (l.key && l.nullable) ≡ false
    key k [] g = let is : false ≡ l.nullable = ap (λ o. option_map_or (λ (x : ColumnLine). x.nullable) o false) g in ap (λ b. l.key && b) (sym is) ∙ and_false l.key
      where
        and_false : (b : Bool) → (b && false) ≡ false
        and_false true = refl
        and_false false = refl
    key k (w ∷ ws) g = absurd cc

    marks : (k : Kind) (ws : List (List ℕ)) → marked name k ws ≡ Some l → (l.key && l.nullable) ≡ false
    marks k [] g = plain k false [] g
    marks k (w ∷ ws) g = word (same w (codes "key")) (same w (codes "nullable")) g
      where
        word : (s t : Bool) → (if s then as_key name k ws else (if t then with_default name k true ws else with_default name k false (w ∷ ws))) ≡ Some l → (l.key && l.nullable) ≡ false
        word true t g = key k ws g
        word false true g = plain k true ws g
        word false false g = plain k false (w ∷ ws) g

    kinds : (o : Option Kind) → of_kind name o words ≡ Some l → (l.key && l.nullable) ≡ false
    kinds None g = absurd cc
    kinds (Some k) g = marks k words g

    by : (t : Bool) → (if t then of_kind name (kind_of kindword) words else None) ≡ Some l → (l.key && l.nullable) ≡ false
    by true g = kinds (kind_of kindword) g
    by false g = absurd cc

same_last : (xs : List Column) (c d : Column) → xs ++ c ∷ [] ≡ xs ++ d ∷ [] → c ≡ d
same_last [] c d e = cc
same_last (x ∷ xs) c d e = let tails : xs ++ c ∷ [] ≡ xs ++ d ∷ [] = cc in same_last xs c d tails

-- a line that is taken gives a column that fits
pub column_fits : (columns : List Column) (text : List ℕ) (c : Column) → sound ≤ column_no columns text → columns_with columns text ≡ columns ++ c ∷ [] → Fits columns c
column_fits columns text c taken is = by (column_line (words_of text)) refl taken is
  where
    by : (o : Option ColumnLine) → column_line (words_of text) ≡ o → sound ≤ said_no columns o → with_column columns o ≡ columns ++ c ∷ [] → Fits columns c
    by None g e w = absurd (omega (arith, e))
    by (Some l) g e w =
        let made : Column = record { id = length columns + 1; name = l.name; kind = l.kind; key = l.key; nullable = l.nullable; default = default_value l.kind l.default } in
        let a = l.key && list_any (λ d. not d.key) columns in
        let b = l.key && is_bool l.kind in
        let n = list_any (λ d. is_eq (slice_cmp nat_cmp l.name d.name)) columns in
        let m = nat_le 300 (length columns) in
        let whole : sound ≤ min (default_no l.kind l.default) (min (reason_if a 6) (min (reason_if b 7) (min (reason_if n 8) (reason_if m 9)))) = e in
        let late : a ≡ false = off a 6 (omega arith) (omega (arith, whole)) in
        let bool : b ≡ false = off b 7 (omega arith) (omega (arith, whole)) in
        let again : n ≡ false = off n 8 (omega arith) (omega (arith, whole)) in
        let many : m ≡ false = off m 9 (omega arith) (omega (arith, whole)) in
        let same_c : made ≡ c = same_last columns made c w in
        subst (Fits columns) same_c (record {
          late = late;
          weak = weak l.key l.nullable (is_bool l.kind) (key_null (words_of text) l g) bool;
          again = again;
          few = grind (arith, nat_tests);
          id = refl;
        })
      where
        weak : (k n b : Bool) → (k && n) ≡ false → (k && b) ≡ false → (k && (n || b)) ≡ false
        weak true true b h g = cc
        weak true false b h g = g
        weak false n b h g = refl
