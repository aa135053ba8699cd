-- Rows and changes of a table by its columns.
use Rattle.std.proofs.Common.{◌≡◌, ◌≤◌, ◌<◌, ◌+◌, ◌^◌, ℕ, suc, ℤ, List, [], ◌∷◌, ◌++◌, length, Some, None, Option, Bool, true, false, cond, refl, sym, ◌∙◌, subst, arith, inl, inr}
use Rattle.std.specs.Prelude.{◌⊎◌, is_some, nat_le, pos, negsuc, FitsSigned}
use Rattle.std.specs.Int.{w64}
use Rattle.std.specs.List.{AllByRecursion, list_all}
use Rattle.std.specs.Ordering.{nat_cmp, is_eq, is_lt}
use Rattle.std.specs.declared.cmp.Ordering.{Ordering}
use Rattle.std.specs.declared.cmp.Ordering.TheVariants.{Less, Equal, Greater}
use Rattle.std.specs.FinMap.{nat_cmp-IsAntisymmetric}
use Rattle.std.specs.FinMap.Entries.{put, by_order, find, below_all, is_sorted}
use Rattle.std.proofs.lemmas.Bool.Decides.{nat_tests}
use Rattle.kt_base.specs.declared.cell.Cell.{Cell}
use Rattle.kt_base.specs.declared.cell.Cell.TheVariants as cell
use Rattle.kt_base.proofs.Values.{both}
use Rattle.kt_cells.specs.Rules.{EachAfter, FollowingCell, CellFits, CellListFits, next_id}
use Rattle.kt_cells.proofs.Cells.{next_id-push}
use Rattle.kt_plain.specs.declared.widths.Width.{Width}
use Rattle.kt_plain.specs.declared.widths.Width.TheVariants as widths
use Rattle.kt_plain.specs.declared.widths.NumberWidth.{NumberWidth}
use Rattle.kt_plain.specs.declared.widths.NumberWidth.TheVariants as number_widths
use Rattle.kt_plain.specs.Widths as numbers
use Rattle.kt_column.specs.Blocks.{IsCell}
use Rattle.kt_column.specs.Forms.{width, IsInWidth}
use Rattle.kt_history.specs.declared.change.Change.{Change}
use Rattle.kt_history.specs.declared.change.Change.TheVariants.{Ins, Upd, Del}
use Rattle.kt_history.specs.Rows.{Row, with_cells, apply, has_columns}
use Rattle.kt_history.specs.Stores.{Steps, after_steps}
use Rattle.kt_rowfiles.specs.Flushing.{IsChange}
use Rattle.kt_baseset.specs.declared.schema.ColumnShape.{ColumnShape}
use Rattle.kt_baseset.specs.Rows.{IdsRise, HaveIds, AreShapes, RowFits, form_of}
use Rattle.kt_deltafile.specs.Rules.{CellsFit}
use Rattle.kt_merge.specs.Fitting.{StandsUnder}
use Rattle.kt_merge.specs.Laws.{EachFits}
use Rattle.kt_merge.specs.OneKey.{IsTableRow, RowPasses, AllPass}
use Rattle.kt_joblaws.specs.Apart.{ArePart, IsOfTable, RowIs}

-- ---- one cell

-- a cell stands under one of the columns
abbrev pub StandsIn : List ColumnShape → ℕ × Cell → Type 0
StandsIn [] x = ⊥
StandsIn (c ∷ columns) x = StandsUnder c x ⊎ StandsIn columns x

pub wider : (c : ColumnShape) (columns : List ColumnShape) (cells : Row) → ArePart columns cells → ArePart (c ∷ columns) cells
wider c columns [] p = tt
wider c columns (x ∷ cells) p = inr p

part_head : (columns : List ColumnShape) (x : ℕ × Cell) (cells : Row) → ArePart columns (x ∷ cells) → StandsIn columns x × ArePart columns cells
part_head [] x cells p = absurd p
part_head (c ∷ columns) x cells p = elim p [
  | inl own ↦ (inl own.0, wider c columns cells own.1)
  | inr rest ↦ let more = part_head columns x cells rest in (inr more.0, wider c columns cells more.1)
]

id_from : (least : ℕ) (columns : List ColumnShape) (x : ℕ × Cell) → IdsRise least columns → StandsIn columns x → least ≤ x.0
id_from least [] x rise s = absurd s
id_from least (c ∷ columns) x rise s = elim s [
  | inl own ↦ omega (arith, own.0, rise.0)
  | inr rest ↦ omega (arith, rise.0, id_from (c.id + 1) columns x rise.1 rest)
]

-- ---- in a row

less : (a b : ℕ) → nat_cmp a b ≡ Less → a < b
less a b e = grind (arith, nat_tests, e)

greater : (a b : ℕ) → nat_cmp a b ≡ Greater → b < a
greater a b e = grind (arith, nat_tests, e)

equal : (a b : ℕ) → nat_cmp a b ≡ Equal → a ≡ b
equal a b e = nat_cmp-IsAntisymmetric a b e

-- a cell of a row's columns takes the place of the row's own
put_fits : (least : ℕ) (columns : List ColumnShape) (x : ℕ × Cell) (row : Row) → IdsRise least columns → StandsIn columns x → RowFits columns row → RowFits columns (put nat_cmp x.0 x.1 row)
put_fits least [] x row rise s f = absurd s
put_fits least (c ∷ columns) x [] rise s f = absurd f
put_fits least (c ∷ columns) x (r ∷ row) rise s f =
    elim (nat_cmp x.0 r.0) as (λ (o : Ordering). nat_cmp x.0 r.0 ≡ o → RowFits (c ∷ columns) (by_order o ((x.0, x.1) ∷ r ∷ row) ((r.0, x.1) ∷ row) (r ∷ put nat_cmp x.0 x.1 row))) [
      | Less ↦ λ is. absurd (let below = id_from c.id (c ∷ columns) x (here, rise.1) s in let lt = less x.0 r.0 is in omega (arith, f.0))
      | Equal ↦ λ is. (f.0, cell_of (equal x.0 r.0 is) s, f.2)
      | Greater ↦ λ is. (f.0, f.1, put_fits (c.id + 1) columns x row rise.1 (behind (greater x.0 r.0 is) s) f.2)
    ] refl
  where
    here : c.id ≤ c.id
    here = omega arith

    cell_of : x.0 ≡ r.0 → StandsIn (c ∷ columns) x → IsCell (form_of c) x.1
    cell_of same s = elim s [
      | inl own ↦ own.1
      | inr rest ↦ absurd (let up = id_from (c.id + 1) columns x rise.1 rest in omega (arith, same, f.0))
    ]

    behind : r.0 < x.0 → StandsIn (c ∷ columns) x → StandsIn columns x
    behind lt s = elim s [
      | inl own ↦ absurd (omega (arith, own.0, f.0))
      | inr rest ↦ rest
    ]

pub over_fits : (columns : List ColumnShape) (cells row : Row) → IdsRise 0 columns → ArePart columns cells → RowFits columns row → RowFits columns (with_cells cells row)
over_fits columns [] row rise p f = f
over_fits columns (x ∷ cells) row rise p f =
    let parts = part_head columns x cells p in
    put_fits 0 columns x (with_cells cells row) rise parts.0 (over_fits columns cells row rise parts.1 f)

-- a cell of a row's columns has one in its place
found : (columns : List ColumnShape) (x : ℕ × Cell) (row : Row) → StandsIn columns x → RowFits columns row → is_some (find nat_cmp x.0 row) ≡ true
found [] x row s f = absurd s
found (c ∷ columns) x [] s f = absurd f
found (c ∷ columns) x (r ∷ row) s f =
    elim (nat_cmp x.0 r.0) as (λ (o : Ordering). nat_cmp x.0 r.0 ≡ o → is_some (cond (is_eq o) (Some r.1) (find nat_cmp x.0 row)) ≡ true) [
      | Less ↦ λ is. found columns x row (other (λ e. omega (arith, less x.0 r.0 is, e)) s) f.2
      | Equal ↦ λ is. refl
      | Greater ↦ λ is. found columns x row (other (λ e. omega (arith, greater x.0 r.0 is, e)) s) f.2
    ] refl
  where
    other : (x.0 ≡ r.0 → ⊥) → StandsIn (c ∷ columns) x → StandsIn columns x
    other ne s = elim s [
      | inl own ↦ absurd (ne (own.0 ∙ sym f.0))
      | inr rest ↦ rest
    ]

pub columns_there : (columns : List ColumnShape) (cells row : Row) → ArePart columns cells → RowFits columns row → list_all (λ (c : ℕ × Cell). is_some (find nat_cmp c.0 row)) cells ≡ true
columns_there columns [] row p f = refl
columns_there columns (x ∷ cells) row p f =
    let parts = part_head columns x cells p in
    both (is_some (find nat_cmp x.0 row)) (list_all (λ (c : ℕ × Cell). is_some (find nat_cmp c.0 row)) cells) (found columns x row parts.0 f) (columns_there columns cells row parts.1 f)

-- ---- rows by rising id

pub lower : (k n : ℕ) → k < n → is_lt (nat_cmp k n) ≡ true
lower k n lt = elim (nat_cmp k n) as (λ (o : Ordering). nat_cmp k n ≡ o → is_lt o ≡ true) [
  | Less ↦ λ is. refl
  | Equal ↦ λ is. absurd (omega (arith, equal k n is))
  | Greater ↦ λ is. absurd (omega (arith, greater k n is))
] refl

below : (k : ℕ) (columns : List ColumnShape) (cells : Row) → IdsRise (k + 1) columns → ArePart columns cells → below_all nat_cmp k cells ≡ true
below k columns [] rise p = refl
below k columns (x ∷ cells) rise p =
    let parts = part_head columns x cells p in
    let up = id_from (k + 1) columns x rise parts.0 in
    both (is_lt (nat_cmp k x.0)) (below_all nat_cmp k cells) (lower k x.0 (omega arith)) (below k columns cells rise parts.1)

pub part_sorted : (least : ℕ) (columns : List ColumnShape) (cells : Row) → IdsRise least columns → ArePart columns cells → is_sorted nat_cmp cells ≡ true
part_sorted least columns [] rise p = refl
part_sorted least [] (x ∷ cells) rise p = absurd p
part_sorted least (c ∷ columns) (x ∷ cells) rise p = elim p [
  | inl own ↦
      both (below_all nat_cmp x.0 cells) (is_sorted nat_cmp cells) (below x.0 columns cells (subst (λ (n : ℕ). IdsRise (n + 1) columns) (sym own.0.0) rise.1) own.1) (part_sorted (c.id + 1) columns cells rise.1 own.1)
  | inr rest ↦ part_sorted (c.id + 1) columns (x ∷ cells) rise.1 rest
]

pub row_part : (columns : List ColumnShape) (row : Row) → RowFits columns row → ArePart columns row
row_part [] [] f = tt
row_part [] (x ∷ row) f = absurd f
row_part (c ∷ columns) [] f = absurd f
row_part (c ∷ columns) (x ∷ row) f = inl ((f.0, f.1), row_part columns row f.2)

-- ---- and their values

in_word : (w : NumberWidth) (z : ℤ) → numbers.IsInWidth w z → FitsSigned w64 z
in_word number_widths.Bit z f = elim f [
  | inl none ↦ subst (FitsSigned w64) (sym none) (omega arith)
  | inr one ↦ subst (FitsSigned w64) (sym one) (omega arith)
]
in_word number_widths.One (pos n) f = omega (arith, f)
in_word number_widths.One (negsuc n) f = omega (arith, f)
in_word number_widths.Two (pos n) f = omega (arith, f)
in_word number_widths.Two (negsuc n) f = omega (arith, f)
in_word number_widths.Four (pos n) f = omega (arith, f)
in_word number_widths.Four (negsuc n) f = omega (arith, f)
in_word number_widths.Eight z f = f

in_width : (w : Width) (z : ℤ) → IsInWidth w z → FitsSigned w64 z
in_width (widths.Numbers w) z f = in_word w z f
in_width widths.Bytes z f = absurd f

pub cell_spelled : (c : ColumnShape) (x : Cell) → IsCell (form_of c) x → CellFits x
cell_spelled c cell.Null is = tt
cell_spelled c (cell.Bool b) is = tt
cell_spelled c (cell.Int z) is = in_width (width (form_of c)) z is.1
cell_spelled c (cell.Bytes bytes) is = omega (arith, is.1)

-- ids rise from a least one on
abbrev RiseFrom : ℕ → Row → Type 0
RiseFrom least [] = Unit {0}
RiseFrom least (c ∷ cells) = (least ≤ c.0) × (c.0 < 2 ^ 16) × CellFits c.1 × RiseFrom (c.0 + 1) cells

from_lower : (a b : ℕ) (cells : Row) → a ≤ b → RiseFrom b cells → RiseFrom a cells
from_lower a b [] le r = tt
from_lower a b (c ∷ cells) le r = (omega (arith, r.0), r.1, r.2, r.3)

each_after : (front cells : Row) (least : ℕ) → least ≡ next_id front → RiseFrom least cells → EachAfter FollowingCell front cells
each_after front [] least e h = tt
each_after front (c ∷ cells) least e h =
    (record { rising = omega (arith, e, h.0); id = h.1; cell = h.2 }, each_after (front ++ c ∷ []) cells (c.0 + 1) (sym (next_id-push front c)) h.3)

-- ids that fit their field, one by one
abbrev IdsFit : List ColumnShape → Type 0
IdsFit columns = AllByRecursion (λ (c : ColumnShape). c.id < 2 ^ 16) columns

each_id : (columns : List ColumnShape) → HaveIds columns → IdsFit columns
each_id [] h = tt
each_id (c ∷ columns) h = (h 0 c (omega arith), each_id columns (λ k d lt. h (suc k) d (omega arith)))

rise_from : (least : ℕ) (columns : List ColumnShape) (cells : Row) → IdsRise least columns → IdsFit columns → ArePart columns cells → RiseFrom least cells
rise_from least columns [] rise ids p = tt
rise_from least [] (x ∷ cells) rise ids p = absurd p
rise_from least (c ∷ columns) (x ∷ cells) rise ids p = elim p [
  | inl own ↦
      let same : x.0 ≡ c.id = own.0.0 in
      (omega (arith, rise.0), omega (arith, ids.0), cell_spelled c x.1 own.0.1, subst (λ (n : ℕ). RiseFrom (n + 1) cells) (sym same) (rise_from (c.id + 1) columns cells rise.1 ids.1 own.1))
  | inr rest ↦ from_lower least (c.id + 1) (x ∷ cells) (omega (arith, rise.0)) (rise_from (c.id + 1) columns (x ∷ cells) rise.1 ids.1 rest)
]

part_few : (columns : List ColumnShape) (cells : Row) → ArePart columns cells → length cells ≤ length columns
part_few columns [] p = omega arith
part_few [] (x ∷ cells) p = absurd p
part_few (c ∷ columns) (x ∷ cells) p = elim p [
  | inl own ↦ let few = part_few columns cells own.1 in omega arith
  | inr rest ↦ let few = part_few columns (x ∷ cells) rest in omega arith
]

-- cells of the columns have a spelling
pub part_spelled : (columns : List ColumnShape) (cells : Row) → AreShapes columns → ArePart columns cells → CellListFits cells
part_spelled columns cells are p = record {
  count = let few = part_few columns cells p in omega (arith, are.few);
  each = each_after [] cells 0 refl (rise_from 0 columns cells are.rise (each_id columns are.fit) p);
}

part_fits : (columns : List ColumnShape) (cells : Row) → AreShapes columns → ArePart columns cells → CellsFit cells
part_fits columns cells are p = let s = part_spelled columns cells are p in record { count = s.count; each = s.each }

-- a row with each column's cell is a row of the table
pub table_row : (columns : List ColumnShape) (row : Row) → AreShapes columns → RowFits columns row → IsTableRow columns row
table_row columns row are f = record {
  cells = f;
  order = part_sorted 0 columns row are.rise (row_part columns row f);
  fit = part_fits columns row are (row_part columns row f);
}

-- ---- changes of the table

abbrev pub AreOf : List ColumnShape → Steps → Type 0
AreOf columns steps = AllByRecursion (λ (c : ℕ × Change). IsOfTable columns c.1) steps

pub row_after : (columns : List ColumnShape) (c : Change) (row : Option Row) → IdsRise 0 columns → IsOfTable columns c → RowIs columns row → RowIs columns (apply c row)
row_after columns (Ins row) None rise c r = c
row_after columns (Ins row) (Some old) rise c r = r
row_after columns (Upd cells) None rise c r = tt
row_after columns (Upd cells) (Some old) rise c r = over_fits columns cells old rise c r
row_after columns Del row rise c r = tt

pub row_then : (columns : List ColumnShape) (t : ℕ) (steps : Steps) (row : Option Row) → IdsRise 0 columns → AreOf columns steps → RowIs columns row → RowIs columns (after_steps t steps row)
row_then columns t [] row rise of r = r
row_then columns t (c ∷ steps) row rise of r = row_then columns t steps (cond (nat_le c.0 t) (apply c.1 row) row) rise of.1 (either (nat_le c.0 t))
  where
    either : (b : Bool) → RowIs columns (cond b (apply c.1 row) row)
    either true = row_after columns c.1 row rise of.0 r
    either false = r

passes : (columns : List ColumnShape) (row : Option Row) → AreShapes columns → RowIs columns row → RowPasses columns row
passes columns None are r = tt
passes columns (Some row) are r = table_row columns row are r

has_all : (columns : List ColumnShape) (c : Change) (row : Option Row) → IsOfTable columns c → RowIs columns row → has_columns c row ≡ true
has_all columns (Ins cells) None c r = refl
has_all columns (Ins cells) (Some row) c r = refl
has_all columns (Upd cells) None c r = refl
has_all columns (Upd cells) (Some row) c r = columns_there columns cells row c r
has_all columns Del None c r = refl
has_all columns Del (Some row) c r = refl

is_change : (columns : List ColumnShape) (c : Change) → IdsRise 0 columns → IsOfTable columns c → IsChange c
is_change columns (Ins row) rise c = tt
is_change columns (Upd cells) rise c = part_sorted 0 columns cells rise c
is_change columns Del rise c = tt

-- changes of the table that fit, over a row of it
pub all_pass : (columns : List ColumnShape) (steps : Steps) (row : Option Row) → AreShapes columns → EachFits steps row → AreOf columns steps → RowIs columns row → AllPass columns steps row
all_pass columns [] row are fit of r = passes columns row are r
all_pass columns (c ∷ steps) row are fit of r = (
  passes columns row are r,
  fit.0,
  has_all columns c.1 row of.0 r,
  is_change columns c.1 are.rise of.0,
  all_pass columns steps (apply c.1 row) are fit.1 of.1 (row_after columns c.1 row are.rise of.0 r),
)
