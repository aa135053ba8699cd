-- What a word is read as has a spelling.
use Rattle.std.proofs.Common.{◌≡◌, ◌∙◌, ◌<◌, ◌^◌, ◌++◌, suc, ap, append_assoc, ℕ, List, [], ◌∷◌, length, true, Result, Ok, Err, refl, sym, arith}
use Rattle.std.specs.Prelude.{nat_le}
use Rattle.std.specs.Int.{w16, to_le_bytes}
use Rattle.std.specs.List.{flat_map}
use Rattle.std.proofs.lemmas.List.{append-nil}
use Rattle.std.proofs.lemmas.Bool.Decides.{nat_tests}
use Rattle.kt_base.specs.declared.cell.Kind.{Kind}
use Rattle.kt_base.specs.declared.cell.Kind.TheVariants as kind
use Rattle.kt_base.specs.declared.cell.Cell.{Cell}
use Rattle.kt_base.specs.declared.cell.Cell.TheVariants as cell
use Rattle.kt_base.specs.declared.literal.LiteralNo.{LiteralNo}
use Rattle.kt_base.specs.Literals.{cell_in, cell_bytes, fits}
use Rattle.kt_base.proofs.Literals.{all_spelled}
use Rattle.kt_base.proofs.Values.{fits_mag, mag_signed}
use Rattle.kt_cells.specs.Rules.{CellFits}
use Rattle.kt_cells.specs.Spelling.{cell_list, listed_cell}
use Rattle.kt_schema.specs.declared.column.Column.{Column}
use Rattle.kt_script.specs.Reasons.{cell_value, cell_or_null}
use Rattle.kt_script.specs.Writes.{cells_no, cells_of, under}

short : (n : ℕ) → nat_le n cell_bytes ≡ true → n < 2 ^ 32
short n h = grind (arith, nat_tests)

-- a cell that a literal may spell
fits_field : (k : Kind) (c : Cell) → fits k c ≡ true → CellFits c
fits_field k cell.Null h = tt
fits_field k (cell.Bool b) h = tt
fits_field k (cell.Int n) h = mag_signed n (fits_mag k n h)
fits_field kind.String (cell.Bytes bytes) h = short (length bytes) h
fits_field kind.Binary (cell.Bytes bytes) h = short (length bytes) h
fits_field kind.Bool (cell.Bytes bytes) h = absurd cc
fits_field kind.Int8 (cell.Bytes bytes) h = absurd cc
fits_field kind.Int16 (cell.Bytes bytes) h = absurd cc
fits_field kind.Int32 (cell.Bytes bytes) h = absurd cc
fits_field kind.Int64 (cell.Bytes bytes) h = absurd cc

pub literal_fits : (k : Kind) (text : List ℕ) (c : Cell) → cell_in k text ≡ Ok c → CellFits c
literal_fits k text c e = fits_field k c (all_spelled k c text e).fit

pub value_fits : (k : Kind) (text : List ℕ) → CellFits (cell_value k text)
value_fits k text = by (cell_in k text) refl
  where
    by : (r : Result Cell LiteralNo) → cell_in k text ≡ r → CellFits (cell_or_null r)
    by (Ok c) e = literal_fits k text c e
    by (Err x) e = tt

-- where each column has a word, it has a cell
each_has_cell : (columns : List Column) (words : List (List ℕ)) → 12 < cells_no columns words → length (under columns (cells_of columns words)) ≡ length columns
each_has_cell [] words h = refl
each_has_cell (c ∷ columns) [] h = absurd (omega arith)
each_has_cell (c ∷ columns) (w ∷ words) h = ap suc (each_has_cell columns words (omega (arith, h)))

-- the cells behind the count of the columns
pub behind_count : (columns : List Column) (words : List (List ℕ)) (old begun new : List ℕ) → 12 < cells_no columns words → begun ≡ old ++ to_le_bytes w16 (length columns) → new ++ [] ≡ begun ++ flat_map listed_cell (under columns (cells_of columns words))
    → new ≡ old ++ cell_list (under columns (cells_of columns words))
behind_count columns words old begun new h counted so =
    let cells : List ℕ = flat_map listed_cell (under columns (cells_of columns words)) in
    sym (append-nil new) ∙ (so ∙ (ap (λ xs. xs ++ cells) counted ∙ (append_assoc old (to_le_bytes w16 (length columns)) cells ∙ ap (λ n. old ++ (to_le_bytes w16 n ++ cells)) (sym (each_has_cell columns words h)))))
