-- The byte lists among the cells of a column's blocks.
use Rattle.std.proofs.Common.{◌≡◌, ◌+◌, ◌<◌, ◌≤◌, ◌++◌, ◌∷◌, [], ℕ, List, length, take, get_or, sym, ap, ◌∙◌, append_assoc}
use Rattle.std.proofs.lemmas.List.{take_more, take_all}
use Rattle.kt_plain.specs.declared.widths.Width.{Width}
use Rattle.kt_column.specs.declared.form.Form.{Form}
use Rattle.kt_column.specs.Forms.{width}
use Rattle.kt_column.specs.Blocks.{BlockValue, texts_in}
use Rattle.kt_column.specs.Columns.{ColumnValue, AreParts, cells_in}
use Rattle.kt_column.proofs.KeyFalls.{texts_append}
use Rattle.kt_column.proofs.Places.{make_column, cells_push, part_at}

pub width_of : (form : Form) (bs : List BlockValue) (k : ℕ) (b : BlockValue) (w : Width) → AreParts form bs → k < length bs → b ≡ get_or bs k b → width form ≡ w → width b.form ≡ w
width_of form bs k b w parts lt is form_is =
    ap (λ (x : BlockValue). width x.form) is ∙ ap width (part_at form bs k b parts lt).is ∙ form_is

pub more_texts : (old out new : List (List ℕ)) (bs : List BlockValue) (k : ℕ) (b : BlockValue) → k < length bs → b ≡ get_or bs k b → out ≡ old ++ texts_in (cells_in (take k bs)) → new ≡ out ++ texts_in b.cells
    → new ≡ old ++ texts_in (cells_in (take (k + 1) bs))
more_texts old out new bs k b lt is so e =
    let cells : cells_in (take (k + 1) bs) ≡ cells_in (take k bs) ++ b.cells = ap cells_in (take_more bs k b lt) ∙ ap (λ x. cells_in (take k bs ++ x ∷ [])) (sym is) ∙ cells_push (take k bs) b in
    e ∙ ap (λ (t : List (List ℕ)). t ++ texts_in b.cells) so ∙ append_assoc old (texts_in (cells_in (take k bs))) (texts_in b.cells)
    ∙ ap (λ (t : List (List ℕ)). old ++ t) (sym (ap texts_in cells ∙ texts_append (cells_in (take k bs)) b.cells))

pub all_texts : (form : Form) (bs : List BlockValue) (k : ℕ) (column : ColumnValue) (old out : List (List ℕ)) → length bs ≤ k → make_column form (cells_in bs) ≡ column → out ≡ old ++ texts_in (cells_in (take k bs)) → out ≡ old ++ texts_in column.cells
all_texts form bs k column old out le view so =
    so ∙ ap (λ (xs : List BlockValue). old ++ texts_in (cells_in xs)) (take_all k bs le) ∙ ap (λ (c : ColumnValue). old ++ texts_in c.cells) view
