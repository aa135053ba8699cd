-- Rows made of columns and columns made of rows: nothing is lost either way.
use Rattle.std.proofs.Common.{◌≡◌, ℕ, suc, ◌+◌, ◌^◌, ◌<◌, List, [], ◌∷◌, ◌++◌, length, get_or, take, drop, map, zero, false, refl, sym, ap, subst, ◌∙◌, add-one, add-zero, arith}
use Rattle.std.specs.List.{range_with_len, All}
use Rattle.std.proofs.lemmas.List.{get_or-map, get_or_at, get_or-drop, drop-drop, length-take, take_more, length-map, length-append, append_assoc}
use Rattle.std.proofs.lemmas.List.Elements.{All-head, All-tail, All-cons, All-nil, All-weaker, All-map, All-more, All-from_get_or}
use Rattle.std.proofs.lemmas.List.FromFn.{fill_by_all, get_or-map-range_with_len, length-map-range_with_len}
use Rattle.std.proofs.lemmas.Simd.{map-map}
use Rattle.kt_base.specs.declared.cell.Cell.{Cell}
use Rattle.kt_base.specs.declared.cell.Cell.TheVariants as cells
use Rattle.kt_base.specs.declared.cell.Kind.TheVariants as kinds
use Rattle.kt_column.specs.Blocks.{IsCell}
use Rattle.kt_baseset.specs.declared.schema.ColumnShape.{ColumnShape}
use Rattle.kt_baseset.specs.declared.rows.KeyedRow.{KeyedRow}
use Rattle.kt_baseset.specs.declared.held.HeldColumn.{HeldColumn}
use Rattle.kt_baseset.specs.Rows.{keys_in, form_of, AreKeys, AreShapes, HaveIds, RowFits, AllFit, IsBase}
use Rattle.kt_baseset.specs.Tables.{no_row, cell_at, cells_at, HasPlace, column_at, columns_from, columns_of, shapes_of, row_at, rows_of, IsColumn, AreColumns}

-- ---- from rows to columns and back

at_drop : {X : Type 0} (j : ℕ) (xs ys : List X) (y d : X) → drop j xs ≡ y ∷ ys → get_or xs j d ≡ y
at_drop {X} j xs ys y d e = rw (get_or-drop, add-zero) at (ap (λ (l : List X). get_or l 0 d) e)

drop_next : {X : Type 0} (j : ℕ) (xs ys : List X) (y : X) → drop j xs ≡ y ∷ ys → drop (suc j) xs ≡ ys
drop_next {X} j xs ys y e =
    let one : drop 1 (drop j xs) ≡ drop 1 (y ∷ ys) = ap (λ (l : List X). drop 1 l) e in
    let two : drop (j + 1) xs ≡ ys = sym (drop-drop 1 j xs) ∙ one in
    rw add-one at two

abbrev listed : ℕ → Cell → ℕ × Cell
listed id c = (id, c)

pair_is : (a b : ℕ) (u v : Cell) → a ≡ b → u ≡ v → listed a u ≡ listed b v
pair_is a b u v p q = rw (p, q) refl

row_is : (r : KeyedRow) (key : List ℕ) (row : List (ℕ × Cell)) → key ≡ r.key → row ≡ r.cells → r ≡ record { key = key; cells = row }
row_is r key row p q = rw (p, q) refl

column_is : (c : HeldColumn) (cs : List Cell) → c.column.form ≡ form_of c.shape → cs ≡ c.column.cells → record { shape = c.shape; column = record { form = form_of c.shape; cells = cs } } ≡ c
column_is c cs p q = rw (q, ← p) refl

row_again : (schema : List ColumnShape) (j : ℕ) (rows : List KeyedRow) (i : ℕ) (row : List (ℕ × Cell)) → i < length rows → drop j (get_or rows i no_row).cells ≡ row → RowFits schema row → row_at (columns_from j schema rows) i ≡ row
row_again [] j rows i [] lt is fits = refl
row_again [] j rows i (x ∷ row) lt is fits = absurd fits
row_again (c ∷ cs) j rows i [] lt is fits = absurd fits
row_again (c ∷ cs) j rows i (x ∷ row) lt is fits =
    let f : KeyedRow → Cell = λ r. cell_at j r.cells in
    let full : List (ℕ × Cell) = (get_or rows i no_row).cells in
    let cell : get_or (map f rows) i cells.Null ≡ x.1 = get_or-map f rows i no_row cells.Null lt ∙ ap (λ (y : ℕ × Cell). y.1) (at_drop j full row x (0, cells.Null) is) in
    let rest : row_at (columns_from (suc j) cs rows) i ≡ row = row_again cs (suc j) rows i row lt (drop_next j full row x is) fits.2 in
    let head : (c.id, get_or (map f rows) i cells.Null) ≡ x = pair_is c.id x.0 (get_or (map f rows) i cells.Null) x.1 (sym fits.0) cell in
    ap (λ (y : ℕ × Cell). y ∷ row_at (columns_from (suc j) cs rows) i) head ∙ ap (λ (ys : List (ℕ × Cell)). x ∷ ys) rest

-- each row is put together again from its columns
pub same_rows : (schema : List ColumnShape) (rows : List KeyedRow) → AllFit schema rows → rows_of (keys_in rows) (columns_of schema rows) ≡ rows
same_rows schema rows fits =
    let key : KeyedRow → List ℕ = λ r. r.key in
    let f : ℕ → KeyedRow = λ i. record { key = get_or (keys_in rows) i []; cells = row_at (columns_of schema rows) i } in
    sym (fill_by_all f rows (length (keys_in rows)) no_row (sym (length-map rows key)) (λ k lt.
    let here : k < length rows = omega (arith, length-map rows key) in
    let a : get_or (keys_in rows) k [] ≡ (get_or rows k no_row).key = get_or-map key rows k no_row [] here in
    let b : row_at (columns_of schema rows) k ≡ (get_or rows k no_row).cells = row_again schema 0 rows k (get_or rows k no_row).cells here refl (fits k no_row here) in
    row_is (get_or rows k no_row) (get_or (keys_in rows) k []) (row_at (columns_of schema rows) k) a b))

pub same_shapes : (schema : List ColumnShape) (j : ℕ) (rows : List KeyedRow) → shapes_of (columns_from j schema rows) ≡ schema
same_shapes [] j rows = refl
same_shapes (c ∷ cs) j rows = ap (λ (ys : List ColumnShape). c ∷ ys) (same_shapes cs (suc j) rows)

-- ---- from columns to rows and back

pub same_keys : (keys : List (List ℕ)) (columns : List HeldColumn) → keys_in (rows_of keys columns) ≡ keys
same_keys keys columns =
    let f : ℕ → KeyedRow = λ i. record { key = get_or keys i []; cells = row_at columns i } in
    map-map (λ (r : KeyedRow). r.key) f (range_with_len 0 (length keys)) ∙ sym (fill_by_all (λ i. get_or keys i []) keys (length keys) [] refl (λ k lt. refl))

no_column : ColumnShape → HeldColumn
no_column shape = record { shape = shape; column = record { form = form_of shape; cells = [] } }

-- the cell of a column in a row
cell_in_row : (columns : List HeldColumn) (i j : ℕ) (c : HeldColumn) → j < length columns → get_or columns j c ≡ c → cell_at j (row_at columns i) ≡ get_or c.column.cells i cells.Null
cell_in_row columns i j c lt is =
    let f : HeldColumn → ℕ × Cell = λ c. (c.shape.id, get_or c.column.cells i cells.Null) in
    ap (λ (y : ℕ × Cell). y.1) (get_or-map f columns j c (0, cells.Null) lt ∙ ap f is)

columns_again : (keys : List (List ℕ)) (front cs columns : List HeldColumn) → columns ≡ front ++ cs → All (IsColumn (length keys)) cs → columns_from (length front) (shapes_of cs) (rows_of keys columns) ≡ cs
columns_again keys front [] columns is each = refl
columns_again keys front (c ∷ cs) columns is each =
    let j = length front in
    let rows = rows_of keys columns in
    let this = All-head (IsColumn (length keys)) c cs each in
    let row : ℕ → KeyedRow = λ i. record { key = get_or keys i []; cells = row_at columns i } in
    let lt : j < length columns = omega (arith, ap length is, length-append front (c ∷ cs)) in
    let at : get_or columns j c ≡ c = ap (λ (l : List HeldColumn). get_or l j c) is ∙ get_or_at front c cs c j refl in
    let f : KeyedRow → Cell = λ r. cell_at j r.cells in
    let taken : map f rows ≡ c.column.cells =
    map-map f row (range_with_len 0 (length keys)) ∙ sym (fill_by_all (λ i. f (row i)) c.column.cells (length keys) cells.Null this.count (λ k in_. sym (cell_in_row columns k j c lt at))) in
    let first : column_at c.shape j rows ≡ c = column_is c (map f rows) this.form taken in
    let next : columns ≡ (front ++ c ∷ []) ++ cs = is ∙ sym (append_assoc front (c ∷ []) cs) in
    let len : length (front ++ c ∷ []) ≡ suc j = omega (arith, length-append front (c ∷ [])) in
    let rest : columns_from (suc j) (shapes_of cs) rows ≡ cs = rw len at (columns_again keys (front ++ c ∷ []) cs columns next (All-tail (IsColumn (length keys)) c cs each)) in
    ap (λ (x : HeldColumn). x ∷ columns_from (suc j) (shapes_of cs) rows) first ∙ ap (λ (xs : List HeldColumn). c ∷ xs) rest

pub same_columns : (keys : List (List ℕ)) (columns : List HeldColumn) → All (IsColumn (length keys)) columns → columns_of (shapes_of columns) (rows_of keys columns) ≡ columns
same_columns keys columns each = columns_again keys [] columns columns refl each

-- ---- what the rows and the columns keep to

fits_at : (columns : List HeldColumn) (n i : ℕ) → i < n → All (IsColumn n) columns → RowFits (shapes_of columns) (row_at columns i)
fits_at [] n i lt each = tt
fits_at (c ∷ cs) n i lt each =
    let this = All-head (IsColumn n) c cs each in
    (refl, this.cells i cells.Null (omega (arith, this.count)), fits_at cs n i lt (All-tail (IsColumn n) c cs each))

-- keys and columns of as many cells are rows that a base file can hold
pub base_of : (keys : List (List ℕ)) (columns : List HeldColumn) → AreKeys keys → AreColumns (length keys) columns → IsBase (shapes_of columns) (rows_of keys columns)
base_of keys columns are each =
    let f : ℕ → KeyedRow = λ i. record { key = get_or keys i []; cells = row_at columns i } in
    let P : KeyedRow → Type 0 = λ row. RowFits (shapes_of columns) row.cells in
    record {
      keys = rw (same_keys keys columns) are;
      columns = each.shapes;
      cells = All-from_get_or P (rows_of keys columns) no_row (λ i lt.
          let here : i < length keys = omega (arith, lt, length-map-range_with_len f 0 (length keys)) in
          rw (get_or-map-range_with_len f 0 (length keys) i i no_row here (omega arith)) (fits_at columns (length keys) i here each.each));
    }

-- the cells at a place of rows that fit
abbrev FitFrom : List ColumnShape → ℕ → KeyedRow → Type 0
FitFrom schema j row = RowFits schema (drop j row.cells)

first_fits : (c : ColumnShape) (cs : List ColumnShape) (j : ℕ) (row left : List (ℕ × Cell)) → drop j row ≡ left → RowFits (c ∷ cs) left → IsCell (form_of c) (cell_at j row) × RowFits cs (drop (suc j) row)
first_fits c cs j row [] is fits = absurd fits
first_fits c cs j row (x ∷ left) is fits = (subst (λ (y : ℕ × Cell). IsCell (form_of c) y.1) (sym (at_drop j row left x (0, cells.Null) is)) fits.1, rw (drop_next j row left x is) fits.2)

columns_are : (schema : List ColumnShape) (j : ℕ) (rows : List KeyedRow) → All (FitFrom schema j) rows → All (IsColumn (length rows)) (columns_from j schema rows)
columns_are [] j rows fits = All-nil (IsColumn (length rows))
columns_are (c ∷ cs) j rows fits =
    let f : KeyedRow → Cell = λ r. cell_at j r.cells in
    let each : (row : KeyedRow) → FitFrom (c ∷ cs) j row → IsCell (form_of c) (f row) × FitFrom cs (suc j) row = λ row fit. first_fits c cs j row.cells (drop j row.cells) refl fit in
    let Q : KeyedRow → Type 0 = λ row. IsCell (form_of c) (f row) in
    All-cons (IsColumn (length rows)) (column_at c j rows) (columns_from (suc j) cs rows)
    (record { form = refl; count = length-map rows f; cells = All-map (IsCell (form_of c)) f rows (All-weaker (FitFrom (c ∷ cs) j) Q (λ row fit. (each row fit).0) rows fits) })
    (columns_are cs (suc j) rows (All-weaker (FitFrom (c ∷ cs) j) (FitFrom cs (suc j)) (λ row fit. (each row fit).1) rows fits))

-- ---- one column after another

-- a row that fits has a cell at each column's place, which the column may hold
fits_place : (schema : List ColumnShape) (row : List (ℕ × Cell)) (j : ℕ) (d : ColumnShape) → RowFits schema row → j < length schema → (j < length row) × IsCell (form_of (get_or schema j d)) (cell_at j row)
fits_place [] row j d fits lt = absurd (omega arith)
fits_place (c ∷ cs) [] j d fits lt = absurd fits
fits_place (c ∷ cs) (x ∷ row) zero d fits lt = (omega arith, fits.1)
fits_place (c ∷ cs) (x ∷ row) (suc j) d fits lt = let rest = fits_place cs row j d fits.2 (omega arith) in (omega (arith, rest.0), rest.1)

pub have_places : (schema : List ColumnShape) (rows : List KeyedRow) (j : ℕ) → AllFit schema rows → j < length schema → All (HasPlace j) rows
have_places schema rows j fits lt = λ k d in_. (fits_place schema (get_or rows k d).cells j (record { id = 0; kind = kinds.Bool; nullable = false }) (fits k d in_) lt).0

pub cells_fit : (schema : List ColumnShape) (rows : List KeyedRow) (j : ℕ) (d : ColumnShape) → AllFit schema rows → j < length schema → All (IsCell (form_of (get_or schema j d))) (cells_at j rows)
cells_fit schema rows j d fits lt =
    let f : KeyedRow → Cell = λ r. cell_at j r.cells in
    All-map (IsCell (form_of (get_or schema j d))) f rows (λ k r in_. (fits_place schema (get_or rows k r).cells j d (fits k r in_) lt).1)

columns-push : (schema : List ColumnShape) (k : ℕ) (s : ColumnShape) (rows : List KeyedRow) → columns_from k (schema ++ s ∷ []) rows ≡ columns_from k schema rows ++ column_at s (k + length schema) rows ∷ []
columns-push [] k s rows = ap (λ (j : ℕ). column_at s j rows ∷ []) (let e : k ≡ k + 0 = omega arith in e)
columns-push (c ∷ cs) k s rows =
    let e : suc k + length cs ≡ k + suc (length cs) = omega arith in
    ap (λ (xs : List HeldColumn). column_at c k rows ∷ xs) (columns-push cs (suc k) s rows ∙ ap (λ (j : ℕ). columns_from (suc k) cs rows ++ column_at s j rows ∷ []) e)

pub columns_more : (schema : List ColumnShape) (rows : List KeyedRow) (j : ℕ) (d : ColumnShape) (cs : List HeldColumn) (c : HeldColumn) (made : List HeldColumn) → j < length schema → cs ≡ columns_of (take j schema) rows → c ≡ column_at (get_or schema j d) j rows → made ≡ cs ++ c ∷ [] → made ≡ columns_of (take (j + 1) schema) rows
columns_more schema rows j d cs c made lt so_far is added =
    let s = get_or schema j d in
    let len : length (take j schema) ≡ j = omega (arith, length-take j schema) in
    let push : columns_of (take j schema ++ s ∷ []) rows ≡ columns_of (take j schema) rows ++ column_at s j rows ∷ [] =
    columns-push (take j schema) 0 s rows ∙ ap (λ (k : ℕ). columns_of (take j schema) rows ++ column_at s k rows ∷ []) (let e : 0 + length (take j schema) ≡ j = omega (arith, len) in e) in
    added ∙ ap (λ (xs : List HeldColumn). xs ++ c ∷ []) so_far ∙ ap (λ (x : HeldColumn). columns_of (take j schema) rows ++ x ∷ []) is ∙ sym push ∙ ap (λ (l : List ColumnShape). columns_of l rows) (sym (take_more schema j d lt))

pub ids_more : (schema : List ColumnShape) (j : ℕ) (d : ColumnShape) → j < length schema → HaveIds (take j schema) → (get_or schema j d).id < 2 ^ 16 → HaveIds (take (j + 1) schema)
ids_more schema j d lt so_far here = All-more (λ (c : ColumnShape). c.id < 2 ^ 16) schema j d lt so_far here

-- the columns of rows that a base file can hold
pub columns_fit : (schema : List ColumnShape) (rows : List KeyedRow) → AreShapes schema → AllFit schema rows → AreColumns (length rows) (columns_of schema rows)
columns_fit schema rows shapes fits = record { shapes = rw (same_shapes schema 0 rows) shapes; each = columns_are schema 0 rows fits }
