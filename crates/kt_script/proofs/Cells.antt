-- What is read of a word as a cell of a column, and the word that is printed of it.
use Rattle.std.proofs.Common.{◌≡◌, ℕ, zero, suc, ◌<◌, Bool, true, false, ◌&&◌, ◌||◌, List, [], ◌∷◌, ◌++◌, length, take, drop, Option, Some, None, Result, Ok, Err, inl, inr, refl, sym, ap, subst, ◌∙◌, arith}
use Rattle.std.specs.Prelude.{◌⊎◌, ℤ, codes}
use Rattle.std.specs.Option.{option_map, option_or}
use Rattle.std.proofs.lemmas.Bool.{false≢true}
use Rattle.kt_base.specs.declared.cell.Kind.{Kind}
use Rattle.kt_base.specs.declared.cell.Cell.{Cell}
use Rattle.kt_base.specs.declared.literal.LiteralNo.{LiteralNo}
use Rattle.kt_base.specs.declared.literal.LiteralNo.TheVariants as no
use Rattle.kt_base.specs.Literals.{same, literal, cell_in, cell_or, value_in, number_in, string_in, binary_in, Value, nothing, truth, number, text, raw, CellBytes, SpellsCell}
use Rattle.kt_base.proofs.Decimals.{same_text}
use Rattle.kt_base.proofs.Literals.{all_spelled}
use Rattle.kt_base.proofs.Spelled.{chosen}
use Rattle.kt_base.proofs.Values.{both}
use Rattle.kt_key.specs.Fit.{has_kind}
use Rattle.kt_schema.specs.declared.column.Column.{Column}
use Rattle.kt_schema.specs.Rows.{is_null}
use Rattle.kt_script.specs.Reasons.{cell_no, cell_reason, cell_value, cell_or_null}
use Rattle.kt_script.specs.Writes.{name_in, behind_name}
use Rattle.kt_script.specs.Fit.{fits_column}
use Rattle.kt_script.proofs.EachKind.{of_kind, or_memory, under_null}
use Rattle.kt_script.proofs.WordForms.{Single}
use Rattle.kt_script.proofs.FormLaws.{One}
use Rattle.kt_script.proofs.PrintedCells.{cell_ok}

-- a text that no reason up to 17 refuses spells a cell of the column's kind, or null where it may be
pub read_cell : (c : Column) (word : List ℕ) → 17 < cell_no c word → SpellsCell c.kind (cell_value c.kind word) word ⊎ ((c.nullable ≡ true) × (cell_in c.kind word ≡ Err no.Null))
read_cell c word h = by (cell_in c.kind word) refl h
  where
    null : (b : Bool) → 17 < cell_reason b (Err no.Null) → b ≡ true
    null true g = refl
    null false g = absurd (omega arith)

    by : (r : Result Cell LiteralNo) → cell_in c.kind word ≡ r → 17 < cell_reason c.nullable r → SpellsCell c.kind (cell_or_null r) word ⊎ ((c.nullable ≡ true) × (r ≡ Err no.Null))
    by (Ok x) e g = inl (all_spelled c.kind x word e)
    by (Err no.Form) e g = absurd (omega arith)
    by (Err no.Kind) e g = absurd (omega arith)
    by (Err no.Null) e g = inr (null c.nullable g, refl)
    by (Err no.Long) e g = absurd (omega arith)
    by (Err no.Memory) e g = absurd (or_memory c.kind _ e)

-- a text that says nothing is the word for it
null_value : (bytes : List ℕ) → value_in bytes ≡ Some nothing → bytes ≡ codes "null"
null_value bytes e = elim (chosen (same bytes (codes "null")) (Some nothing) _ (Some nothing) e) [
  | inl x ↦ same_text bytes (codes "null") x.0
  | inr x ↦ elim (chosen (same bytes (codes "true")) (Some (truth true)) _ (Some nothing) x.1) [
    | inl y ↦ absurd cc
    | inr y ↦ elim (chosen (same bytes (codes "false")) (Some (truth false)) _ (Some nothing) y.1) [
      | inl z ↦ absurd cc
      | inr z ↦ absurd (some (number_in bytes) (string_in bytes) (binary_in bytes) z.1)
    ]
  ]
]
  where
    some : (n : Option ℤ) (s b : Option (List ℕ)) → option_or (option_map number n) (option_or (option_map text s) (option_map raw b)) ≡ Some nothing → ⊥
    some (Some n) s b g = cc
    some None (Some s) b g = cc
    some None None (Some b) g = cc
    some None None None g = cc

null_text : (k : Kind) (bytes : List ℕ) → cell_in k bytes ≡ Err no.Null → bytes ≡ codes "null"
null_text k bytes e = by (value_in bytes) refl e
  where
    by : (o : Option Value) → value_in bytes ≡ o → cell_or k o ≡ Err no.Null → bytes ≡ codes "null"
    by None is g = absurd cc
    by (Some v) is g = null_value bytes (is ∙ ap Some (under_null k v g))

-- a literal that is taken is that of its cell
pub literal_again : (c : Column) (word : List ℕ) → 17 < cell_no c word → word ≡ literal c.kind (cell_value c.kind word)
literal_again c word h = elim (read_cell c word h) [
  | inl s ↦ s.spelled
  | inr null ↦ null_text c.kind word null.1 ∙ ap (λ r. literal c.kind (cell_or_null r)) (sym null.1)
]

-- and its column takes the cell
pub cell_taken : (c : Column) (word : List ℕ) → 17 < cell_no c word → (fits_column c (cell_value c.kind word) ≡ true) × CellBytes (cell_value c.kind word)
cell_taken c word h = elim (read_cell c word h) [
  | inl s ↦ let of = of_kind c.kind (cell_value c.kind word) s.fit in (both _ _ (either (has_kind c.kind (cell_value c.kind word)) (is_null (cell_value c.kind word) && c.nullable) of.0) of.1, s.of_bytes)
  | inr null ↦ subst (λ r. (fits_column c (cell_or_null r) ≡ true) × CellBytes (cell_or_null r)) (sym null.1) (may c.nullable null.0, tt)
]
  where
    either : (a b : Bool) → a ≡ true → (a || b) ≡ true
    either true b g = refl
    either false b g = absurd (false≢true g)

    may : (b : Bool) → b ≡ true → (b && true) ≡ true
    may true g = refl
    may false g = absurd (false≢true g)

-- a literal under a column
abbrev pub literal_of : Column → Single Cell
literal_of c = record { no = cell_no c; value = cell_value c.kind; word = literal c.kind; keeps = λ x. (fits_column c x ≡ true) × CellBytes x }

pub literal_law : (c : Column) → One (literal_of c)
literal_law c = record {
  said = λ w h. (cell_taken c w (omega (arith, h)), sym (literal_again c w (omega (arith, h))));
  read = λ x k. let ok = cell_ok c x k.0 k.1 in (omega (arith, ok.taken), ok.value, ok.plain);
}

-- ---- a word is a name and what stands behind it

whole : (k : ℕ) (xs : List ℕ) → take k xs ++ drop (length (take k xs)) xs ≡ xs
whole zero xs = refl
whole (suc k) [] = refl
whole (suc k) (x ∷ xs) = ap (λ rest. x ∷ rest) (whole k xs)

pub name_behind : (word : List ℕ) → word ≡ name_in word ++ behind_name word
name_behind word = sym (whole _ word)
