-- The blocks of a column in memory, and a cell among them.
use Rattle.std.proofs.Common.{◌≡◌, ◌≤◌, ◌<◌, ◌+◌, ◌*◌, ◌/◌, ◌%◌, ◌⊎◌, inl, inr, ℕ, zero, suc, List, [], ◌∷◌, ◌++◌, length, take, get_or, refl, sym, ap, ◌∙◌, subst, arith, append_assoc, append-nil, length-append}
use Rattle.std.proofs.lemmas.List.{get_or_append_left, get_or-append-add}
use Rattle.kt_base.specs.declared.cell.Cell.{Cell}
use Rattle.kt_base.specs.declared.cell.Cell.TheVariants.{Null}
use Rattle.kt_column.specs.declared.form.Form.{Form}
use Rattle.kt_column.specs.Blocks.{BlockValue}
use Rattle.kt_column.specs.Columns.{ColumnValue, IsPart, AreParts, AreFull, cells_in}

-- one block more
pub cells_push : (bs : List BlockValue) (b : BlockValue) → cells_in (bs ++ b ∷ []) ≡ cells_in bs ++ b.cells
cells_push [] b = append-nil b.cells
cells_push (x ∷ bs) b = ap (λ cs. x.cells ++ cs) (cells_push bs b) ∙ sym (append_assoc x.cells (cells_in bs) b.cells)

-- a block before another one is full
full_first : (b : BlockValue) (bs : List BlockValue) (form : Form) → IsPart form b → (length b.cells ≡ 8192) ⊎ (bs ≡ []) → AreFull (b.cells ++ cells_in bs) → (length b.cells ≡ 8192) × AreFull (cells_in bs)
full_first b bs form part (inl e) full = (e, omega (arith, full, e, length-append b.cells (cells_in bs)))
full_first b bs form part (inr e) full =
    let none : length (cells_in bs) ≡ 0 = ap (λ l. length (cells_in l)) e in
    (omega (arith, full, none, part.some, part.few, length-append b.cells (cells_in bs)), omega (arith, none))

pub parts_push : (form : Form) (bs : List BlockValue) (b : BlockValue) → AreParts form bs → AreFull (cells_in bs) → IsPart form b → AreParts form (bs ++ b ∷ [])
parts_push form [] b h full part = (part, inr refl, tt)
parts_push form (x ∷ bs) b h full part =
    let first = full_first x bs form h.0 h.1 full in
    (h.0, inl first.0, parts_push form bs b h.2 first.1 part)

-- the place of a cell: its block, and its place there
pub record IsAt (form : Form) (bs : List BlockValue) (k r : ℕ) (b : BlockValue) : Type 0 where
  pub is : b.form ≡ form
  pub within : r < length b.cells
  pub cell : (i : ℕ) → i ≡ 8192 * k + r → get_or (cells_in bs) i Null ≡ get_or b.cells r Null

first_at : (form : Form) (b : BlockValue) (bs : List BlockValue) (r : ℕ) → IsPart form b → (length b.cells ≡ 8192) ⊎ (bs ≡ []) → r < 8192 → r < length (b.cells ++ cells_in bs) → IsAt form (b ∷ bs) 0 r b
first_at form b bs r part (inl e) lt within =
    let here : r < length b.cells = omega (arith, e, lt) in
    record { is = part.is; within = here; cell = λ i is. ap (λ j. get_or (b.cells ++ cells_in bs) j Null) (omega (arith, is)) ∙ get_or_append_left b.cells (cells_in bs) Null r here }
first_at form b bs r part (inr e) lt within =
    let none : length (cells_in bs) ≡ 0 = ap (λ l. length (cells_in l)) e in
    let here : r < length b.cells = omega (arith, none, within, length-append b.cells (cells_in bs)) in
    record { is = part.is; within = here; cell = λ i is. ap (λ j. get_or (b.cells ++ cells_in bs) j Null) (omega (arith, is)) ∙ get_or_append_left b.cells (cells_in bs) Null r here }

further : (form : Form) (b : BlockValue) (bs : List BlockValue) (k r : ℕ) → IsPart form b → (length b.cells ≡ 8192) ⊎ (bs ≡ []) → 8192 * suc k + r < length (b.cells ++ cells_in bs) → (length b.cells ≡ 8192) × (8192 * k + r < length (cells_in bs))
further form b bs k r part (inl e) lt = (e, omega (arith, e, lt, length-append b.cells (cells_in bs)))
further form b bs k r part (inr e) lt =
    let none : length (cells_in bs) ≡ 0 = ap (λ l. length (cells_in l)) e in
    absurd (omega (arith, none, part.few, lt, length-append b.cells (cells_in bs)))

at_place : (form : Form) (bs : List BlockValue) (k r : ℕ) (d : BlockValue) → AreParts form bs → r < 8192 → 8192 * k + r < length (cells_in bs) → (k < length bs) × IsAt form bs k r (get_or bs k d)
at_place form [] k r d h lt within = absurd (omega arith)
at_place form (b ∷ bs) zero r d h lt within = (omega arith, first_at form b bs r h.0 h.1 lt (omega arith))
at_place form (b ∷ bs) (suc k) r d h lt within =
    let next = further form b bs k r h.0 h.1 within in
    let rest = at_place form bs k r d h.2 lt next.1 in (
      omega (arith, rest.0),
      record { is = rest.1.is; within = rest.1.within; cell = λ i is. ap (λ j. get_or (b.cells ++ cells_in bs) j Null) (omega (arith, is, next.0)) ∙ get_or-append-add b.cells (cells_in bs) (8192 * k + r) Null ∙ rest.1.cell (8192 * k + r) refl },
    )

abbrev pub make_column : Form → List Cell → ColumnValue
make_column form cs = record { form = form; cells = cs }

-- the block that holds a cell of a column, and the cell there
pub place_within : (form : Form) (bs : List BlockValue) (column : ColumnValue) (i : ℕ) → AreParts form bs → make_column form (cells_in bs) ≡ column → i < length column.cells → i / 8192 < length bs
place_within form bs column i h view lt =
    let within : i < length (cells_in bs) = subst (λ (c : ColumnValue). i < length c.cells) (sym view) lt in
    (at_place form bs (i / 8192) (i % 8192) (record { form = form; cells = [] }) h (omega arith) (omega (arith, within))).0

pub place_of : (form : Form) (bs : List BlockValue) (column : ColumnValue) (i : ℕ) (b : BlockValue) → AreParts form bs → make_column form (cells_in bs) ≡ column → i < length column.cells → b ≡ get_or bs (i / 8192) b → (b.form ≡ column.form) × (i % 8192 < length b.cells) × (get_or column.cells i Null ≡ get_or b.cells (i % 8192) Null)
place_of form bs column i b h view lt is =
    let within : i < length (cells_in bs) = subst (λ (c : ColumnValue). i < length c.cells) (sym view) lt in
    let here : IsAt form bs (i / 8192) (i % 8192) b = subst (λ x. IsAt form bs (i / 8192) (i % 8192) x) (sym is) (at_place form bs (i / 8192) (i % 8192) b h (omega arith) (omega (arith, within))).1 in (
      here.is ∙ ap (λ (c : ColumnValue). c.form) view,
      here.within,
      ap (λ (c : ColumnValue). get_or c.cells i Null) (sym view) ∙ here.cell i (omega arith),
    )

-- a column and one block more
pub pushed : (form : Form) (bs new : List BlockValue) (column : ColumnValue) (b : BlockValue) (len more : ℕ) → AreParts form bs → len ≡ length (cells_in bs) → more ≡ length b.cells → make_column form (cells_in bs) ≡ column → b.form ≡ column.form → AreFull column.cells → 0 < length b.cells → length b.cells ≤ 8192 → new ≡ bs ++ b ∷ []
    → AreParts form new × (len + more ≡ length (cells_in new)) × (make_column form (cells_in new) ≡ make_column column.form (column.cells ++ b.cells))
pushed form bs new column b len more h len-is more-is view is full some few e =
    let form-is : form ≡ column.form = ap (λ (c : ColumnValue). c.form) view in
    let own : AreFull (cells_in bs) = subst (λ (c : ColumnValue). AreFull c.cells) (sym view) full in
    let cells : cells_in new ≡ cells_in bs ++ b.cells = ap cells_in e ∙ cells_push bs b in (
      subst (λ l. AreParts form l) (sym e) (parts_push form bs b h own record { is = is ∙ sym form-is; some = some; few = few }),
      (let long = ap length cells in omega (arith, long, len-is, more-is, length-append (cells_in bs) b.cells)),
      ap (λ f. make_column f (cells_in new)) form-is ∙ ap (make_column column.form) (cells ∙ ap (λ (c : ColumnValue). c.cells ++ b.cells) view),
    )

-- the blocks before another one are full
pub full_before : (form : Form) (bs : List BlockValue) (k : ℕ) → AreParts form bs → k < length bs → AreFull (cells_in (take k bs))
full_before form bs zero h lt = refl
full_before form [] (suc k) h lt = absurd (omega arith)
full_before form (b ∷ bs) (suc k) h lt = full_more b.cells bs h.1 (omega (arith, lt)) (full_before form bs k h.2 (omega (arith, lt)))
  where
    full_more : (cs : List Cell) (bs : List BlockValue) → (length cs ≡ 8192) ⊎ (bs ≡ []) → 0 < length bs → AreFull (cells_in (take k bs)) → AreFull (cs ++ cells_in (take k bs))
    full_more cs bs (inl e) some full = omega (arith, e, full, length-append cs (cells_in (take k bs)))
    full_more cs bs (inr e) some full = (let none : length bs ≡ 0 = ap length e in absurd (omega (arith, none)))

pub part_at : (form : Form) (bs : List BlockValue) (k : ℕ) (d : BlockValue) → AreParts form bs → k < length bs → IsPart form (get_or bs k d)
part_at form [] k d h lt = absurd (omega arith)
part_at form (b ∷ bs) zero d h lt = h.0
part_at form (b ∷ bs) (suc k) d h lt = part_at form bs k d h.2 (omega (arith, lt))
