-- An operation that is taken has a spelling: its key is short, and its cells are some of its table's columns, in their order.
use Rattle.std.proofs.Common.{◌≡◌, ℕ, suc, ◌+◌, ◌^◌, ◌<◌, ◌≤◌, min, Bool, true, false, ◌&&◌, ◌||◌, cond, List, [], ◌∷◌, ◌++◌, length, drop, Option, Some, None, Result, Ok, Err, inl, inr, refl, sym, ap, subst, ◌∙◌, arith}
use Rattle.std.specs.Prelude.{◌⊎◌, not, nat_lt, ◌==◌, if◌then◌else◌, FitsSigned, ℤ, pos, negsuc}
use Rattle.std.specs.List.{filter, list_any}
use Rattle.std.specs.Int.{w64}
use Rattle.std.proofs.lemmas.Bool.{eqb-true}
use Rattle.std.proofs.lemmas.Bool.Decides.{nat_tests}
use Rattle.kt_base.specs.Keys.{half_of, width_of}
use Rattle.kt_base.specs.Literals.{cell_in, same}
use Rattle.kt_base.specs.declared.cell.Kind.{Kind}
use Rattle.kt_base.specs.declared.cell.Kind.TheVariants as kind
use Rattle.kt_base.specs.declared.cell.Cell.{Cell}
use Rattle.kt_base.specs.declared.cell.Cell.TheVariants as cell
use Rattle.kt_base.specs.declared.literal.LiteralNo.{LiteralNo}
use Rattle.kt_base.specs.declared.literal.LiteralNo.TheVariants as no
use Rattle.kt_base.proofs.Values.{both_true}
use Rattle.kt_cells.specs.Rules.{EachAfter, CellFits, CellListFits, FollowingCell, next_id}
use Rattle.kt_cells.specs.Spelling.{cell_list}
use Rattle.kt_cells.specs.Reading.{cells_behind}
use Rattle.kt_cells.proofs.Cells.{next_id-push}
use Rattle.kt_cells.proofs.Spelled.{read_back}
use Rattle.kt_key.specs.Fit.{has_kind, in_range, is_number}
use Rattle.kt_schema.specs.Names.{is_name}
use Rattle.kt_schema.specs.Columns.{key_columns, other_columns}
use Rattle.kt_schema.specs.declared.column.Column.{Column}
use Rattle.kt_history.specs.declared.operation.OpKind.{OpKind}
use Rattle.kt_history.specs.declared.operation.RowOp.{RowOp}
use Rattle.kt_history.specs.Spelled.{OpFits}
use Rattle.kt_script.specs.declared.forms.OpForm.{OpForm}
use Rattle.kt_script.specs.declared.forms.OpForm.TheVariants as form
use Rattle.kt_script.specs.Reasons.{sound, reason_if, cell_reason, form_reason, form_no}
use Rattle.kt_script.specs.Columns.{counts_from, IsTable}
use Rattle.kt_script.specs.Writes.{name_in, behind_name, column_named, cells_no, under_no, given_no, all_named_no, rest_no, rest_cells, key_len, op_form, op_kind, kind_no, op_no, op_of}
use Rattle.kt_script.specs.Fit.{fits_column, is_part, cells_fit, OpFits as FitsTable}
use Rattle.kt_script.proofs.OpForms.{operation, operation_law, op_read, op_fits, rest_form, rest_law, rest_read, rest_fits, others_rising}
use Rattle.kt_script.proofs.OpWords.{same_op}

-- ---- ids of columns

-- the ids rise from one number on, and stay below another
abbrev Rises : ℕ → ℕ → List Column → Type 0
Rises low high [] = Unit {0}
Rises low high (c ∷ columns) = (low ≤ c.id) × (c.id < high) × Rises (c.id + 1) high columns

from_lower : (a b high : ℕ) (columns : List Column) → a ≤ b → Rises b high columns → Rises a high columns
from_lower a b high [] le rises = tt
from_lower a b high (c ∷ columns) le rises = (omega (arith, rises.0), rises.1, rises.2)

some_rise : (p : Column → Bool) (n high : ℕ) (columns : List Column) → counts_from n columns ≡ true → n + length columns ≤ high → Rises n high (filter p columns)
some_rise p n high [] counted few = tt
some_rise p n high (c ∷ columns) counted few =
    let two = both_true (c.id == n) (counts_from (n + 1) columns) counted in
    let id : c.id ≡ n = eqb-true c.id n two.0 in
    let rest = some_rise p (n + 1) high columns two.1 (omega (arith, few)) in
    elim (p c) as (λ b. Rises n high (cond b (c ∷ filter p columns) (filter p columns))) [
      | true ↦ (omega (arith, id), omega (arith, id, few), from_lower (c.id + 1) (n + 1) high (filter p columns) (omega (arith, id)) rest)
      | false ↦ from_lower n (n + 1) high (filter p columns) (omega arith) rest
    ]

some_few : (p : Column → Bool) (columns : List Column) → length (filter p columns) ≤ length columns
some_few p [] = omega arith
some_few p (c ∷ columns) = elim (p c) as (λ b. length (cond b (c ∷ filter p columns) (filter p columns)) ≤ suc (length columns)) [
  | true ↦ omega (arith, some_few p columns)
  | false ↦ omega (arith, some_few p columns)
]

-- ---- cells of columns

in_word : (half : ℕ) (n : ℤ) → half ≤ 2 ^ 63 → in_range half n ≡ true → FitsSigned w64 n
in_word half (pos n) le h = let low : n < half = grind (arith, nat_tests) in omega (arith, low, le)
in_word half (negsuc n) le h = let low : n < half = grind (arith, nat_tests) in omega (arith, low, le)

half_low : (k : Kind) → half_of (width_of k) ≤ 2 ^ 63
half_low kind.Bool = omega arith
half_low kind.Int8 = omega arith
half_low kind.Int16 = omega arith
half_low kind.Int32 = omega arith
half_low kind.Int64 = omega arith
half_low kind.String = omega arith
half_low kind.Binary = omega arith

short_bytes : (n : ℕ) → not (nat_lt 65536 n) ≡ true → n ≤ 65536
short_bytes n h = grind (arith, nat_tests)

right : (a b : Bool) → (a && b) ≡ true → b ≡ true
right true b h = h
right false b h = absurd cc

-- a cell that a column takes has a spelling
pub cell_fits : (c : Column) (x : Cell) → fits_column c x ≡ true → CellFits x
cell_fits c cell.Null h = tt
cell_fits c (cell.Bool b) h = tt
cell_fits c (cell.Int n) h = in_word (half_of (width_of c.kind)) n (half_low c.kind) (int_ranged (is_number c.kind) (in_range (half_of (width_of c.kind)) n) h)
  where
    int_ranged : (a b : Bool) → (((a && b) || false) && true) ≡ true → b ≡ true
    int_ranged true true h = refl
    int_ranged true false h = h
    int_ranged false b h = absurd cc
cell_fits c (cell.Bytes bytes) h = let short : length bytes ≤ 65536 = short_bytes (length bytes) (right (has_kind c.kind (cell.Bytes bytes) || false) (not (nat_lt 65536 (length bytes))) h) in omega (arith, short)

-- cells of some of the columns, by rising id
record Part (columns : List Column) (front cells : List (ℕ × Cell)) : Type 0 where
  follows : EachAfter FollowingCell front cells
  few : length cells ≤ length columns

part_of : (high low : ℕ) (columns : List Column) (front cells : List (ℕ × Cell)) → high ≤ 2 ^ 16 → Rises low high columns → next_id front ≤ low → is_part columns cells ≡ true → Part columns front cells
part_of high low columns front [] le rises next h = record { follows = tt; few = omega arith }
part_of high low [] front (x ∷ cells) le rises next h = absurd cc
part_of high low (c ∷ columns) front (x ∷ cells) le rises next h =
    elim (c.id == x.0) as (λ b. (c.id == x.0) ≡ b → cond b (fits_column c x.1 && is_part columns cells) (is_part columns (x ∷ cells)) ≡ true → Part (c ∷ columns) front (x ∷ cells)) [
      | true ↦ λ tested fit.
          let id : c.id ≡ x.0 = eqb-true c.id x.0 tested in
          let two = both_true (fits_column c x.1) (is_part columns cells) fit in
          let rest = part_of high (c.id + 1) columns (front ++ x ∷ []) cells le rises.2 (omega (arith, next_id-push front x, id)) two.1 in
          record {
            follows = (record { rising = omega (arith, next, rises.0, id); id = omega (arith, rises.1, id, le); cell = cell_fits c x.1 two.0 }, rest.follows);
            few = omega (arith, rest.few);
          }
      | false ↦ λ _ later.
          let rest = part_of high (c.id + 1) columns front (x ∷ cells) le rises.2 (omega (arith, next, rises.0)) later in
          record { follows = rest.follows; few = omega (arith, rest.few) }
    ] refl h

none_cells : (cells : List (ℕ × Cell)) → (length cells == 0) ≡ true → cells ≡ []
none_cells [] h = refl
none_cells (x ∷ cells) h = absurd (let zero_len : suc (length cells) ≡ 0 = grind (arith, nat_tests) in omega (arith, zero_len))

-- the cells of each form of operation are some of the columns'
is_some_part : (others : List Column) (f : OpForm) (cells : List (ℕ × Cell)) → cells_fit others f cells ≡ true → is_part others cells ≡ true
is_some_part others form.Literals cells h = (both_true _ _ h).0
is_some_part others form.RowNames cells h = (both_true _ _ h).0
is_some_part others form.Names cells h = (both_true _ _ h).0
is_some_part others form.Key cells h = let none = none_cells cells h in rw none refl

-- a table has fewer columns than a count of cells can say
pub few_others : (columns : List Column) → IsTable columns → length (other_columns columns) < 2 ^ 16
few_others columns table = let few = some_few (λ c. not c.key) columns in omega (arith, few, table.few)

-- cells that fit the columns of a table have a spelling
cells_spelled : (columns : List Column) (f : OpForm) (cells : List (ℕ × Cell)) → IsTable columns → cells_fit (other_columns columns) f cells ≡ true → CellListFits cells
cells_spelled columns f cells table fit =
    let others = other_columns columns in
    let few = few_others columns table in
    let part = part_of 301 1 others [] cells (omega arith) (some_rise (λ c. not c.key) 1 301 columns table.ids (omega (arith, table.few))) (omega arith) (is_some_part others f cells fit) in
    record { count = omega (arith, part.few, few); each = part.follows }

-- an operation that fits the columns of a table has a spelling
pub has_spelling : (columns : List Column) (o : RowOp) → IsTable columns → FitsTable columns o → OpFits o
has_spelling columns o table fits =
    record { key = omega (arith, fits.short); cells = cells_spelled columns (op_form o.kind) o.cells table fits.cells }

-- ---- each reason of an operation is 17 at most

abbrev Low : ℕ → Type 0
Low n = (n ≤ 17) ⊎ (sound ≤ n)

low_min : (m n : ℕ) → Low m → Low n → Low (min m n)
low_min m n (inl a) b = inl (omega arith)
low_min m n (inr a) (inl b) = inl (omega arith)
low_min m n (inr a) (inr b) = inr (omega arith)

low_if : (t : Bool) (reason : ℕ) → reason ≤ 17 → Low (reason_if t reason)
low_if true reason h = inl h
low_if false reason h = inr (omega arith)

low_cell : (nullable : Bool) (r : Result Cell LiteralNo) → Low (cell_reason nullable r)
low_cell b (Ok c) = inr (omega arith)
low_cell b (Err no.Form) = inl (omega arith)
low_cell b (Err no.Kind) = inl (omega arith)
low_cell true (Err no.Null) = inr (omega arith)
low_cell false (Err no.Null) = inl (omega arith)
low_cell b (Err no.Long) = inl (omega arith)
low_cell b (Err no.Memory) = inr (omega arith)

low_form : (r : Result Cell LiteralNo) → Low (form_reason r)
low_form (Ok c) = inr (omega arith)
low_form (Err no.Form) = inl (omega arith)
low_form (Err no.Null) = inr (omega arith)
low_form (Err no.Kind) = inr (omega arith)
low_form (Err no.Long) = inr (omega arith)
low_form (Err no.Memory) = inr (omega arith)

low_cells : (columns : List Column) (words : List (List ℕ)) → Low (cells_no columns words)
low_cells [] words = inr (omega arith)
low_cells (c ∷ columns) [] = inl (omega arith)
low_cells (c ∷ columns) (w ∷ words) = low_min _ _ (low_cell c.nullable (cell_in c.kind w)) (low_cells columns words)

low_under : (o : Option Column) (literal : List ℕ) → Low (under_no o literal)
low_under None literal = low_min 13 (form_no literal) (inl (omega arith)) (low_form (cell_in kind.Bool literal))
low_under (Some c) literal = low_cell c.nullable (cell_in c.kind literal)

low_given : (others : List Column) (name behind : List ℕ) → Low (given_no others name behind)
low_given others name [] = inl (omega arith)
low_given others name (b ∷ literal) = by (is_name name && (b == 61))
  where
    by : (t : Bool) → Low (if t then under_no (column_named others name) literal else 12)
    by true = low_under (column_named others name) literal
    by false = inl (omega arith)

low_named : (others : List Column) (seen words : List (List ℕ)) → Low (all_named_no others seen words)
low_named others seen [] = inr (omega arith)
low_named others seen (w ∷ words) = low_min _ _ (low_given others (name_in w) (behind_name w)) (low_min _ _ (low_if (list_any (λ n. same n (name_in w)) seen) 13 (omega arith)) (low_named others (seen ++ name_in w ∷ []) words))

low_rest : (others : List Column) (f : OpForm) (words : List (List ℕ)) → Low (rest_no others f words)
low_rest others form.Literals words = low_min _ _ (low_cells others words) (low_if _ 12 (omega arith))
low_rest others form.RowNames words = low_min _ _ (low_named others [] words) (low_if _ 15 (omega arith))
low_rest others form.Names words = low_min _ _ (low_named others [] words) (low_if _ 12 (omega arith))
low_rest others form.Key words = low_if _ 12 (omega arith)

low_op : (columns : List Column) (words : List (List ℕ)) → Low (op_no columns words)
low_op columns [] = inl (omega arith)
low_op columns (w ∷ words) = by (op_kind w)
  where
    by : (o : Option OpKind) → Low (kind_no columns o words)
    by None = inl (omega arith)
    by (Some k) = low_min _ _ (low_min _ _ (low_cells (key_columns columns) words) (low_if _ 17 (omega arith))) (low_rest (other_columns columns) (op_form k) (drop (key_len columns) words))

-- ---- an operation that is taken

-- the cells behind a key
pub rest_spelled : (columns : List Column) (f : OpForm) (words : List (List ℕ)) → IsTable columns → 17 < rest_no (other_columns columns) f words → CellListFits (rest_cells (other_columns columns) f words)
rest_spelled columns f words table h =
    let others = other_columns columns in
    let read = rest_read others f words in
    let said = (rest_law columns table f).said words (subst (λ n. sound ≤ n) read.0 none) in
    cells_spelled columns f (rest_cells others f words) table (rest_fits others f (rest_cells others f words) (others_rising columns table) (subst (rest_form others f).keeps (sym read.1) said.0))
  where
    none : sound ≤ rest_no (other_columns columns) f words
    none = elim (low_rest (other_columns columns) f words) [
      | inl low ↦ absurd (omega (arith, h, low))
      | inr high ↦ high
    ]

pub op_spelled : (columns : List Column) (words : List (List ℕ)) → IsTable columns → 17 < op_no columns words → OpFits (op_of columns words)
op_spelled columns words table h =
    let form = op_read columns words in
    let said = (operation_law columns table).said words (subst (λ n. sound ≤ n) form.0 none) in
    has_spelling columns (op_of columns words) table (op_fits columns (op_of columns words) table (subst (λ o. (operation columns).keeps o) (sym (form.1 none)) said.0))
  where
    none : sound ≤ op_no columns words
    none = elim (low_op columns words) [
      | inl low ↦ absurd (omega (arith, h, low))
      | inr high ↦ high
    ]

-- an operation whose cells are spelled and read back
pub op_again : (o : RowOp) (key bytes : List ℕ) → OpFits o → key ≡ o.key → bytes ≡ cell_list o.cells → ◌≡◌ {A = RowOp} (record { kind = o.kind; key = key; cells = cells_behind bytes }) o
op_again o key bytes fits own spelled = same_op o.kind key o.key (cells_behind bytes) o.cells own (ap cells_behind spelled ∙ read_back o.cells fits.cells)
