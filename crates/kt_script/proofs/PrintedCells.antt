-- Printed cells are read as these cells.
use Rattle.std.proofs.Common.{◌≡◌, ℕ, List, [], ◌∷◌, refl, sym, ap, subst, ◌∙◌, arith, map, Bool, true, false, not, min, Ok, Err}
use mathlib.Core.List.{append-nil}
use Rattle.std.specs.Prelude.{◌&&◌, ◌||◌, codes}
use Rattle.kt_base.specs.declared.cell.Kind.{Kind}
use Rattle.kt_base.specs.declared.cell.Cell.{Cell}
use Rattle.kt_base.specs.declared.cell.Cell.TheVariants as cell
use Rattle.kt_base.specs.declared.literal.LiteralNo.TheVariants as no
use Rattle.kt_base.specs.Literals.{same, literal, fits, cell_in, CellBytes}
use Rattle.kt_base.proofs.Decimals.{same_text}
use Rattle.kt_base.proofs.Values.{both_true}
use Rattle.kt_base.proofs.Literals.{all_read}
use Rattle.kt_key.specs.Fit.{has_kind}
use Rattle.kt_schema.specs.Rows.{is_long}
use Rattle.kt_schema.specs.declared.column.Column.{Column}
use Rattle.kt_script.specs.Reasons.{sound, cell_reason, cell_or_null, cell_no, cell_value}
use Rattle.kt_script.specs.Fit.{fits_column, compares}
use Rattle.kt_script.proofs.Cuts.{Without}
use Rattle.kt_script.proofs.InLine.{row_in_line}
use Rattle.kt_script.proofs.PrintedWords.{Ranged, literal_word}
use Rattle.kt_script.proofs.FormLaws.{Plain}
use Rattle.kt_script.proofs.EachKind.{kind_fits}

pub min_sound : (a b : ℕ) → a ≡ sound → b ≡ sound → min a b ≡ sound
min_sound a b p q = omega arith

pub ranged : (k : Kind) (x : Cell) → fits k x ≡ true → Ranged k x
ranged k cell.Null h = tt
ranged k (cell.Int n) h = h
ranged k (cell.Bool b) h = tt
ranged k (cell.Bytes b) h = tt

literal_plain : (k : Kind) (x : Cell) → Ranged k x → same (literal k x) (codes ";") ≡ false → Plain (literal k x)
literal_plain k x h apart = record { word = literal_word k x h; line = subst (Without 10) (append-nil (literal k x)) (row_in_line (k ∷ []) (x ∷ [])); apart = apart }

-- what is read as a cell is no word between operations
no_sign : (k : Kind) (x : Cell) → cell_in k (literal k x) ≡ Ok x → same (literal k x) (codes ";") ≡ false
no_sign k x read = by (same (literal k x) (codes ";")) refl
  where
    by : (t : Bool) → same (literal k x) (codes ";") ≡ t → t ≡ false
    by true e = let sign : cell_in k (codes ";") ≡ Ok x = ap (cell_in k) (sym (same_text (literal k x) (codes ";") e)) ∙ read in absurd cc
    by false e = refl

-- the literal of a cell of a kind is a word, and is read as the cell
pub record ReadsAgain (k : Kind) (x : Cell) : Type 0 where
  pub read : cell_in k (literal k x) ≡ Ok x
  pub plain : Plain (literal k x)

pub reads_again : (k : Kind) (x : Cell) → has_kind k x ≡ true → not (is_long x) ≡ true → CellBytes x → ReadsAgain k x
reads_again k x h g bytes =
    let fit = kind_fits k x h g in
    let read = all_read k x (literal k x) (record { fit = fit; of_bytes = bytes; spelled = refl }) in
    record { read = read; plain = literal_plain k x (ranged k x fit) (no_sign k x read) }

pub compared_again : (c : Column) (x : Cell) → compares c x ≡ true → CellBytes x → ReadsAgain c.kind x
compared_again c x h bytes = let both = both_true (has_kind c.kind x) (not (is_long x)) h in reads_again c.kind x both.0 both.1 bytes

-- the literal of a cell that a column takes
pub record CellOk (c : Column) (x : Cell) : Type 0 where
  pub taken : cell_no c (literal c.kind x) ≡ sound
  pub value : cell_value c.kind (literal c.kind x) ≡ x
  pub plain : Plain (literal c.kind x)

some_cell : (c : Column) (x : Cell) → has_kind c.kind x ≡ true → not (is_long x) ≡ true → CellBytes x → CellOk c x
some_cell c x h g bytes =
    let again = reads_again c.kind x h g bytes in
    record { taken = ap (cell_reason c.nullable) again.read; value = ap cell_or_null again.read; plain = again.plain }

no_null : (a : Bool) → (a || false) ≡ true → a ≡ true
no_null true h = refl
no_null false h = h

other_cell : (c : Column) (x : Cell) → ((has_kind c.kind x || false) && not (is_long x)) ≡ true → CellBytes x → CellOk c x
other_cell c x h bytes = let both = both_true (has_kind c.kind x || false) (not (is_long x)) h in some_cell c x (no_null (has_kind c.kind x) both.0) both.1 bytes

pub cell_ok : (c : Column) (x : Cell) → fits_column c x ≡ true → CellBytes x → CellOk c x
cell_ok c cell.Null h bytes =
    let nullable : c.nullable ≡ true = (both_true c.nullable true h).0 in
    record { taken = ap (λ n. cell_reason n (Err no.Null)) nullable; value = refl; plain = literal_plain c.kind cell.Null tt refl }
cell_ok c (cell.Int n) h bytes = other_cell c (cell.Int n) h bytes
cell_ok c (cell.Bool b) h bytes = other_cell c (cell.Bool b) h bytes
cell_ok c (cell.Bytes b) h bytes = other_cell c (cell.Bytes b) h bytes

abbrev pub kinds_of : List Column → List Kind
kinds_of cs = map (λ (c : Column). c.kind) cs
