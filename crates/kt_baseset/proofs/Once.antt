-- Bytes are those of one base file, and a base file has one spelling.
use Rattle.std.proofs.Common.{◌≡◌, ℕ, ◌^◌, ◌+◌, ◌<◌, List, [], ◌∷◌, ◌++◌, length, refl, sym, ap, subst, ◌∙◌, append_assoc, arith}
use Rattle.std.specs.Int.{w16, w32, to_le_bytes}
use Rattle.std.specs.List.{All}
use Rattle.std.proofs.lemmas.List.{length-map}
use Rattle.std.proofs.lemmas.List.Elements.{All-head, All-tail}
use Rattle.kt_bytes.specs.Reading.{number_at}
use Rattle.kt_base.specs.declared.cell.Cell.{Cell}
use Rattle.kt_base.specs.declared.cell.Cell.TheVariants as cells
use Rattle.kt_column.specs.declared.form.Form.{Form}
use Rattle.kt_column.specs.declared.form.Form.TheVariants.{Keys}
use Rattle.kt_column.specs.Columns.{ColumnValue, SpellsColumn}
use Rattle.kt_column.proofs.Once.{column_once, column_spelled_once}
use Rattle.kt_baseset.specs.declared.schema.ColumnShape.{ColumnShape}
use Rattle.kt_baseset.specs.declared.rows.KeyedRow.{KeyedRow}
use Rattle.kt_baseset.specs.declared.held.HeldColumn.{HeldColumn}
use Rattle.kt_baseset.specs.Rows.{keys_in, form_of, IdsRise, HaveIds}
use Rattle.kt_baseset.specs.Tables.{columns_of, shapes_of, rows_of, key_cells, keys_of, IsColumn}
use Rattle.kt_baseset.specs.Spelling.{ktb1, shape_bytes, SpellsOne, SpellsEach, SpellsTable, SpellsBase, lookup_bytes}
use Rattle.kt_baseset.specs.Reading.{rows_at, shape_at, ReadsKeys, ReadsOne, ReadsColumns}
use Rattle.kt_baseset.proofs.Spelled.{same_texts}
use Rattle.kt_baseset.proofs.Transposed.{same_rows, same_shapes}
use Rattle.kt_baseset.proofs.Fronts.{rows_read, same_read}
use Rattle.kt_baseset.proofs.Each.{shape_read, same_shape, count_read, same_count}
use Rattle.kt_baseset.proofs.Whole.{keys_read, columns_read}

-- ---- one spelling

each_once : (cs : List HeldColumn) (a b : List ℕ) → SpellsEach cs a → SpellsEach cs b → a ≡ b
each_once [] a b p q = p ∙ sym q
each_once (c ∷ cs) a b p q =
    let blocks = column_spelled_once c.column.form c.column.cells p.2.blocks q.2.blocks p.2.spelled q.2.spelled in
    let front : p.0 ≡ q.0 = p.2.parts ∙ ap (λ (x : List ℕ). shape_bytes c.shape ++ x) blocks ∙ sym q.2.parts in
    p.4 ∙ ap (λ (x : List ℕ). x ++ p.1) front ∙ ap (λ (x : List ℕ). q.0 ++ x) (each_once cs p.1 q.1 p.3 q.3) ∙ sym q.4

table_once : (keys : List (List ℕ)) (columns : List HeldColumn) (a b : List ℕ) → SpellsTable keys columns a → SpellsTable keys columns b → a ≡ b
table_once keys columns a b p q =
    let blocks = column_spelled_once Keys (key_cells keys) p.of_keys.blocks q.of_keys.blocks p.of_keys.spelled q.of_keys.spelled in
    let front : p.front ≡ q.front = p.of_keys.parts ∙ ap (λ (x : List ℕ). to_le_bytes w32 ktb1 ++ (to_le_bytes w32 (length keys) ++ x)) blocks ∙ sym q.of_keys.parts in
    let each = each_once columns p.of_columns.each q.of_columns.each p.of_columns.spelled q.of_columns.spelled in
    let middle : p.middle ≡ q.middle = p.of_columns.parts ∙ ap (λ (x : List ℕ). to_le_bytes w16 (length columns) ++ x) each ∙ sym q.of_columns.parts in
    p.parts ∙ ap (λ (x : List ℕ). x ++ (p.middle ++ lookup_bytes keys)) front ∙ ap (λ (x : List ℕ). q.front ++ (x ++ lookup_bytes keys)) middle ∙ sym q.parts

pub base_once : (schema : List ColumnShape) (rows : List KeyedRow) (a b : List ℕ) → SpellsBase schema rows a → SpellsBase schema rows b → a ≡ b
base_once schema rows a b p q = table_once (keys_in rows) (columns_of schema rows) a b p.spelled q.spelled

-- ---- one base file

pub keys_same : (bytes : List ℕ) (keys keys' : List (List ℕ)) (rest rest' : List ℕ) → ReadsKeys bytes keys rest → ReadsKeys bytes keys' rest' → (keys ≡ keys') × (rest ≡ rest')
keys_same bytes keys keys' rest rest' p q =
    let e = same_read (rows_at bytes) (length keys) (length keys') (p.spelled.blocks ++ rest) (q.spelled.blocks ++ rest') (rows_read bytes keys rest p) (rows_read bytes keys' rest' q) in
    let count : length (key_cells keys) ≡ length (key_cells keys') = length-map keys cells.Bytes ∙ e.0 ∙ sym (length-map keys' cells.Bytes) in
    let once = column_once Keys (key_cells keys) (key_cells keys') p.spelled.blocks q.spelled.blocks rest rest' p.spelled.spelled q.spelled.spelled count e.1 in
    (sym (same_texts keys) ∙ ap keys_of once.0 ∙ same_texts keys', once.2)

pub spelled_as : (c : HeldColumn) (form : Form) (blocks : List ℕ) → c.column.form ≡ form → SpellsColumn c.column.form c.column.cells blocks → SpellsColumn form c.column.cells blocks
spelled_as c form blocks e spelled = subst (λ (f : Form). SpellsColumn f c.column.cells blocks) e spelled

value_same : (a b : ColumnValue) → a.form ≡ b.form → a.cells ≡ b.cells → a ≡ b
value_same a b p q =
    ap (λ (f : Form). let v : ColumnValue = record { form = f; cells = a.cells } in v) p ∙ ap (λ (cs : List Cell). let v : ColumnValue = record { form = b.form; cells = cs } in v) q

held_same : (c d : HeldColumn) → c.shape ≡ d.shape → c.column.form ≡ d.column.form → c.column.cells ≡ d.column.cells → c ≡ d
held_same c d p q r = ap (λ (s : ColumnShape). let h : HeldColumn = record { shape = s; column = c.column } in h) p ∙ ap (λ (x : ColumnValue). let h : HeldColumn = record { shape = d.shape; column = x } in h) (value_same c.column d.column q r)

-- a column at the front of some bytes is the only one there
pub one_same : (rows least : ℕ) (bytes : List ℕ) (c d : HeldColumn) (rest rest' : List ℕ) → ReadsOne rows least bytes c rest → ReadsOne rows least bytes d rest' → (c ≡ d) × (rest ≡ rest')
one_same rows least bytes c d rest rest' p q =
    let e = same_shape (shape_at least 0 bytes) c.shape d.shape (p.spelled.blocks ++ rest) (q.spelled.blocks ++ rest') (shape_read rows least 0 bytes c rest p (omega (arith, p.fit))) (shape_read rows least 0 bytes d rest' q (omega (arith, q.fit))) in
    let form : d.column.form ≡ form_of c.shape = q.is.form ∙ ap form_of (sym e.0) in
    let a = spelled_as c (form_of c.shape) p.spelled.blocks p.is.form p.spelled.spelled in
    let b = spelled_as d (form_of c.shape) q.spelled.blocks form q.spelled.spelled in
    let once = column_once (form_of c.shape) c.column.cells d.column.cells p.spelled.blocks q.spelled.blocks rest rest' a b (p.is.count ∙ sym q.is.count) e.1 in
    (held_same c d e.0 (p.is.form ∙ sym form) once.0, once.2)

-- what is known of columns that stand one after another
pub record Row (rows least : ℕ) (cs : List HeldColumn) : Type 0 where
  pub rise : IdsRise least (shapes_of cs)
  pub fit : HaveIds (shapes_of cs)
  pub each : All (IsColumn rows) cs

pub tail_row : (rows least : ℕ) (c : HeldColumn) (cs : List HeldColumn) → Row rows least (c ∷ cs) → Row rows (c.shape.id + 1) cs
tail_row rows least c cs r = record {
  rise = r.rise.1;
  fit = All-tail (λ (s : ColumnShape). s.id < 2 ^ 16) c.shape (shapes_of cs) r.fit;
  each = All-tail (IsColumn rows) c cs r.each;
}

pub head_one : (rows least : ℕ) (c : HeldColumn) (cs : List HeldColumn) (front rest : List ℕ) → Row rows least (c ∷ cs) → SpellsOne c front → ReadsOne rows least (front ++ rest) c rest
head_one rows least c cs front rest r spelled = record {
  is = All-head (IsColumn rows) c cs r.each;
  above = r.rise.0;
  fit = All-head (λ (s : ColumnShape). s.id < 2 ^ 16) c.shape (shapes_of cs) r.fit;
  front = front;
  spelled = spelled;
  parts = refl;
}

pub each_same : (rows least : ℕ) (cs ds : List HeldColumn) (a b r s : List ℕ) → Row rows least cs → Row rows least ds → SpellsEach cs a → SpellsEach ds b → length cs ≡ length ds → a ++ r ≡ b ++ s → (cs ≡ ds) × (r ≡ s)
each_same rows least [] [] a b r s x y p q len e = (refl, ap (λ (z : List ℕ). z ++ r) (sym p) ∙ e ∙ ap (λ (z : List ℕ). z ++ s) q)
each_same rows least [] (d ∷ ds) a b r s x y p q len e = absurd (omega (arith, len))
each_same rows least (c ∷ cs) [] a b r s x y p q len e = absurd (omega (arith, len))
each_same rows least (c ∷ cs) (d ∷ ds) a b r s x y p q len e =
    let f : List ℕ = p.1 ++ r in
    let g : List ℕ = q.1 ++ s in
    let left : a ++ r ≡ p.0 ++ f = ap (λ (z : List ℕ). z ++ r) p.4 ∙ append_assoc p.0 p.1 r in
    let right : b ++ s ≡ q.0 ++ g = ap (λ (z : List ℕ). z ++ s) q.4 ∙ append_assoc q.0 q.1 s in
    let same : q.0 ++ g ≡ p.0 ++ f = sym right ∙ sym e ∙ left in
    let other = subst (λ (z : List ℕ). ReadsOne rows least z d g) same (head_one rows least d ds q.0 g y q.2) in
    let one = one_same rows least (p.0 ++ f) c d f g (head_one rows least c cs p.0 f x p.2) other in
    let next = subst (λ (h : HeldColumn). Row rows (h.shape.id + 1) ds) (sym one.0) (tail_row rows least d ds y) in
    let rest = each_same rows (c.shape.id + 1) cs ds p.1 q.1 r s (tail_row rows least c cs x) next p.3 q.3 (omega (arith, len)) one.1 in
    (ap (λ (h : HeldColumn). h ∷ cs) one.0 ∙ ap (λ (hs : List HeldColumn). d ∷ hs) rest.0, rest.1)

columns_same : (rows : ℕ) (bytes : List ℕ) (cs ds : List HeldColumn) (last last' : List ℕ) → ReadsColumns rows bytes cs last → ReadsColumns rows bytes ds last' → cs ≡ ds
columns_same rows bytes cs ds last last' p q =
    let e = same_count (number_at w16 bytes) (length cs) (length ds) (p.spelled.each ++ last) (q.spelled.each ++ last') (count_read rows bytes cs last p) (count_read rows bytes ds last' q) in
    let x : Row rows 0 cs = record { rise = p.are.shapes.rise; fit = p.are.shapes.fit; each = p.are.each } in
    let y : Row rows 0 ds = record { rise = q.are.shapes.rise; fit = q.are.shapes.fit; each = q.are.each } in
    (each_same rows 0 cs ds p.spelled.each q.spelled.each last last' x y p.spelled.spelled q.spelled.spelled e.0 e.1).0

pub base_is : (schema schema' : List ColumnShape) (rows rows' : List KeyedRow) (bytes : List ℕ) → SpellsBase schema rows bytes → SpellsBase schema' rows' bytes → (schema ≡ schema') × (rows ≡ rows')
base_is schema schema' rows rows' bytes p q =
    let K = keys_in rows in
    let K' = keys_in rows' in
    let C = columns_of schema rows in
    let C' = columns_of schema' rows' in
    let keys = keys_same bytes K K' (p.spelled.middle ++ lookup_bytes K) (q.spelled.middle ++ lookup_bytes K') (keys_read schema rows bytes p) (keys_read schema' rows' bytes q) in
    let other = subst (λ (k : ℕ). ReadsColumns k (q.spelled.middle ++ lookup_bytes K') C' (lookup_bytes K')) (ap length (sym keys.0)) (columns_read schema' rows' bytes q) in
    let there = subst (λ (z : List ℕ). ReadsColumns (length K) z C' (lookup_bytes K')) (sym keys.1) other in
    let columns = columns_same (length K) (p.spelled.middle ++ lookup_bytes K) C C' (lookup_bytes K) (lookup_bytes K') (columns_read schema rows bytes p) there in (
      sym (same_shapes schema 0 rows) ∙ ap shapes_of columns ∙ same_shapes schema' 0 rows',
      sym (same_rows schema rows p.fits.cells) ∙ ap (λ (ks : List (List ℕ)). rows_of ks C) keys.0 ∙ ap (rows_of K') columns ∙ same_rows schema' rows' q.fits.cells,
    )
