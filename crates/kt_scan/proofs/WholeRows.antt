-- A whole row is its key's cells under their columns, and then its other cells.
use Rattle.std.proofs.Common.{◌≡◌, ℕ, ◌≤◌, List, [], ◌∷◌, ◌++◌, map, length, drop, refl, sym, ap, ◌∙◌}
use Rattle.std.specs.List.{zip}
use Rattle.std.proofs.Math.ListN.{drop_of_length-le}
use Rattle.std.proofs.lemmas.List.{append-nil}
use Rattle.kt_base.specs.declared.cell.Kind.{Kind}
use Rattle.kt_base.specs.declared.cell.Cell.{Cell}
use Rattle.kt_base.specs.declared.cell_ref.CellRef.{CellRef}
use Rattle.kt_base.specs.Borrowed.{cell_in}
use Rattle.kt_base.specs.Keys.{key_cells}
use Rattle.kt_schema.specs.declared.column.Column.{Column}
use Rattle.kt_schema.specs.Columns.{key_columns, key_kinds}
use Rattle.kt_history.specs.Rows.{Row}
use Rattle.kt_history.specs.Replies.{whole_row}
use Rattle.kt_scan.specs.Encoded.{keys_of, ids_with}

abbrev both_of : Column → ℕ × Kind
both_of c = (c.id, c.kind)

pub none_under : (columns : List Column) → ids_with columns [] ≡ []
none_under [] = refl
none_under (c ∷ columns) = refl

-- where no cell of a key is left, all that stand under a column are there
pub pushed_all : (cells whole : List Cell) (rest : List Column) (key : List CellRef) (at : ℕ) → length key ≤ at → cells ++ map (λ (c : ℕ × Cell). c.1) (ids_with rest (map cell_in (drop at key))) ≡ whole → cells ≡ whole
pushed_all cells whole rest key at past so_far =
    let none : ids_with rest (map cell_in (drop at key)) ≡ [] = ap (λ (k : List CellRef). ids_with rest (map cell_in k)) (drop_of_length-le key past) ∙ none_under rest in
    sym (append-nil cells) ∙ ap (λ (xs : List (ℕ × Cell)). cells ++ map (λ c. c.1) xs) (sym none) ∙ so_far

kinds_are : (columns : List Column) → map (λ k. k.1) (map both_of columns) ≡ map (λ c. c.kind) columns
kinds_are [] = refl
kinds_are (c ∷ columns) = ap (λ ks. c.kind ∷ ks) (kinds_are columns)

cells_are : (columns : List Column) (cells : List Cell) → zip (map (λ k. k.0) (map both_of columns)) cells ≡ ids_with columns cells
cells_are [] cells = refl
cells_are (c ∷ columns) [] = refl
cells_are (c ∷ columns) (cell ∷ cells) = ap (λ xs. (c.id, cell) ∷ xs) (cells_are columns cells)

pub whole_is : (columns : List Column) (row : List Cell) (key : List ℕ) (cells : Row) → row ≡ key_cells (key_kinds columns) key → ids_with (key_columns columns) row ++ cells ≡ whole_row (keys_of columns) (key, cells)
whole_is columns row key cells is =
    let read : key_cells (map (λ k. k.1) (keys_of columns)) key ≡ row = ap (λ kinds. key_cells kinds key) (kinds_are (key_columns columns)) ∙ sym is in
    ap (λ xs. xs ++ cells) (sym (ap (zip (map (λ k. k.0) (keys_of columns))) read ∙ cells_are (key_columns columns) row))
