-- Writes that keep to the rules of a table whose columns are counted.
use Rattle.std.proofs.Common.{◌≡◌, ℕ, suc, ◌+◌, ◌*◌, ◌^◌, ◌<◌, ◌≤◌, List, [], ◌∷◌, ◌++◌, refl, true, false, Bool, ◌&&◌, ◌||◌, cond, sym, ap, ◌∙◌, subst, arith, length, map, length-append}
use Rattle.std.specs.Prelude.{not, nat_lt, ◌==◌, FitsSigned, ℤ, pos, negsuc}
use Rattle.std.specs.List.{list_any, filter, sum_by, flat_map, AllByRecursion}
use Rattle.std.specs.Int.{w64}
use Rattle.std.specs.Ordering.{is_eq, eq_by_cmp}
use Rattle.std.specs.declared.cmp.Ordering.{Ordering}
use Rattle.std.specs.declared.cmp.Ordering.TheVariants.{Less, Equal, Greater}
use Rattle.std.specs.FinMap.{nat_cmp-IsAntisymmetric, slice_cmp-IsAntisymmetric}
use Rattle.std.proofs.lemmas.Bool.Decides.{nat_tests}
use Rattle.std.proofs.lemmas.List.Folds.{list_any-append}
use Rattle.std.proofs.lemmas.List.Concat.{flat_map-cons}
use Rattle.std.proofs.lemmas.List.Sums.{sum_by-cons}
use Rattle.kt_base.specs.Literals.{same}
use Rattle.kt_base.specs.Keys.{half_of, width_of}
use Rattle.kt_base.specs.declared.cell.Kind.{Kind}
use Rattle.kt_base.specs.declared.cell.Kind.TheVariants as kind
use Rattle.kt_base.specs.declared.cell.Cell.{Cell}
use Rattle.kt_base.specs.declared.cell.Cell.TheVariants as cell
use Rattle.kt_key.specs.Fit.{in_range, is_number}
use Rattle.kt_schema.specs.declared.column.Column.{Column}
use Rattle.kt_schema.specs.Columns.{other_columns}
use Rattle.kt_history.specs.declared.operation.OpKind.{OpKind}
use Rattle.kt_history.specs.declared.operation.OpKind.TheVariants as op
use Rattle.kt_history.specs.declared.operation.RowOp.{RowOp}
use Rattle.kt_history.specs.Rows.{key_cmp}
use Rattle.kt_tablet.specs.Plans.{IsShort}
use Rattle.kt_history.specs.Operations.{cell_len, op_len, DifferentKeys}
use Rattle.kt_records.specs.Rules.{EachAfter, CellFits, FollowingCell, next_id, FollowingOp, may_list, may_hold, has_key}
use Rattle.kt_history.specs.Spelled.{operation}
use Rattle.kt_history.proofs.Lengths.{length-operation}
use Rattle.kt_script.specs.Columns.{counts_from}
use Rattle.kt_script.specs.declared.forms.OpForm.{OpForm}
use Rattle.kt_script.specs.declared.forms.OpForm.TheVariants as form
use Rattle.kt_script.specs.Writes.{twice, op_form}
use Rattle.kt_script.specs.Fit.{fits_column, is_part, cells_fit, OpFits, WriteFits}
use Rattle.kt_app.specs.Session.{IsCounted}

left : (a b : Bool) → (a && b) ≡ true → a ≡ true
left true b h = refl
left false b h = h

right : (a b : Bool) → (a && b) ≡ true → b ≡ true
right true b h = h
right false b h = absurd cc

neither_left : (a b : Bool) → (a || b) ≡ false → a ≡ false
neither_left true b h = h
neither_left false b h = refl

neither_right : (a b : Bool) → (a || b) ≡ false → b ≡ false
neither_right true b h = absurd cc
neither_right false b h = h

-- ---- keys that differ

equal : (o : Ordering) → is_eq o ≡ true → o ≡ Equal
equal Less h = cc
equal Equal h = refl
equal Greater h = cc

same_itself : (x : List ℕ) → same x x ≡ true
same_itself [] = refl
same_itself (b ∷ x) = let here : (b == b) ≡ true = grind (arith, nat_tests) in rw here (same_itself x)

not_tied : (x y : List ℕ) → same x y ≡ false → eq_by_cmp key_cmp x y ≡ false
not_tied x y h = elim (eq_by_cmp key_cmp x y) as (λ b. eq_by_cmp key_cmp x y ≡ b → b ≡ false) [
  | true ↦ λ tied.
      let one : x ≡ y = slice_cmp-IsAntisymmetric nat_cmp-IsAntisymmetric x y (equal _ tied) in
      let alike : same x x ≡ false = subst (λ z. same x z ≡ false) (sym one) h in
      absurd (let mine = same_itself x in cc)
  | false ↦ λ _. refl
] refl

none_tied : (x : List ℕ) (ops : List RowOp) → list_any (λ y. same x y) (map (λ (o : RowOp). o.key) ops) ≡ false → list_any (λ (o : RowOp). eq_by_cmp key_cmp x o.key) ops ≡ false
none_tied x [] h = refl
none_tied x (o ∷ ops) h = rw (not_tied x o.key (neither_left _ _ h)) (none_tied x ops (neither_right _ _ h))

pub differ : (ops : List RowOp) → twice (map (λ (o : RowOp). o.key) ops) ≡ false → DifferentKeys ops
differ [] h = tt
differ (o ∷ ops) h = (none_tied o.key ops (neither_left _ _ h), differ ops (neither_right _ _ h))

-- none of the keys in front is one of these operations' keys
abbrev AreNew : List RowOp → List RowOp → Type 0
AreNew front ops = AllByRecursion (λ (o : RowOp). has_key front o.key ≡ false) ops

new_with : (front : List RowOp) (o : RowOp) (ops : List RowOp) → AreNew front ops → list_any (λ (other : RowOp). eq_by_cmp key_cmp o.key other.key) ops ≡ false → AreNew (front ++ o ∷ []) ops
new_with front o [] new h = tt
new_with front o (other ∷ ops) new h =
    let apart : eq_by_cmp key_cmp o.key other.key ≡ false = neither_left _ _ h in
    let fresh : has_key front other.key ≡ false = new.0 in
    let here : has_key (front ++ o ∷ []) other.key ≡ false = list_any-append (λ (p : RowOp). eq_by_cmp key_cmp p.key other.key) front (o ∷ []) ∙ rw (fresh, apart) refl in
    (here, new_with front o ops new.1 (neither_right _ _ h))

all_new : (ops : List RowOp) → AreNew [] ops
all_new [] = tt
all_new (o ∷ ops) = (refl, all_new ops)

-- ---- the cells of an operation

-- the ids rise from one number on, and stay below another
abbrev Rises : ℕ → ℕ → List Column → Type 0
Rises low high [] = Unit {0}
Rises low high (c ∷ columns) = (low ≤ c.id) × (c.id < high) × Rises (c.id + 1) high columns

from_lower : (a b high : ℕ) (columns : List Column) → a ≤ b → Rises b high columns → Rises a high columns
from_lower a b high [] le rises = tt
from_lower a b high (c ∷ columns) le rises = (omega (arith, rises.0), rises.1, rises.2)

is_nat : (a b : ℕ) → (a == b) ≡ true → a ≡ b
is_nat a b h = grind (arith, nat_tests)

some_rise : (p : Column → Bool) (n high : ℕ) (columns : List Column) → counts_from n columns ≡ true → n + length columns ≤ high → Rises n high (filter p columns)
some_rise p n high [] counted few = tt
some_rise p n high (c ∷ columns) counted few =
    let id : c.id ≡ n = is_nat c.id n (left _ _ counted) in
    let rest = some_rise p (n + 1) high columns (right (c.id == n) _ counted) (omega (arith, few)) in
    elim (p c) as (λ b. Rises n high (cond b (c ∷ filter p columns) (filter p columns))) [
      | true ↦ (omega (arith, id), omega (arith, id, few), from_lower (c.id + 1) (n + 1) high (filter p columns) (omega (arith, id)) rest)
      | false ↦ from_lower n (n + 1) high (filter p columns) (omega arith) rest
    ]

some_few : (p : Column → Bool) (columns : List Column) → length (filter p columns) ≤ length columns
some_few p [] = omega arith
some_few p (c ∷ columns) = elim (p c) as (λ b. length (cond b (c ∷ filter p columns) (filter p columns)) ≤ suc (length columns)) [
  | true ↦ omega (arith, some_few p columns)
  | false ↦ omega (arith, some_few p columns)
]

next_push : (front : List (ℕ × Cell)) (x : ℕ × Cell) → next_id (front ++ x ∷ []) ≡ x.0 + 1
next_push [] x = refl
next_push (c ∷ []) x = refl
next_push (c ∷ d ∷ front) x = next_push (d ∷ front) x

in_word : (half : ℕ) (n : ℤ) → half ≤ 2 ^ 63 → in_range half n ≡ true → FitsSigned w64 n
in_word half (pos n) le h = let low : n < half = grind (arith, nat_tests) in omega (arith, low, le)
in_word half (negsuc n) le h = let low : n < half = grind (arith, nat_tests) in omega (arith, low, le)

half_low : (k : Kind) → half_of (width_of k) ≤ 2 ^ 63
half_low kind.Bool = omega arith
half_low kind.Int8 = omega arith
half_low kind.Int16 = omega arith
half_low kind.Int32 = omega arith
half_low kind.Int64 = omega arith
half_low kind.String = omega arith
half_low kind.Binary = omega arith

short_bytes : (n : ℕ) → not (nat_lt 65536 n) ≡ true → n ≤ 65536
short_bytes n h = grind (arith, nat_tests)

cell_fits : (c : Column) (x : Cell) → fits_column c x ≡ true → CellFits x
cell_fits c cell.Null h = tt
cell_fits c (cell.Bool b) h = tt
cell_fits c (cell.Int n) h =
    let ranged : in_range (half_of (width_of c.kind)) n ≡ true = int_ranged (is_number c.kind) (in_range (half_of (width_of c.kind)) n) h in
    in_word (half_of (width_of c.kind)) n (half_low c.kind) ranged
  where
    int_ranged : (a b : Bool) → (((a && b) || false) && true) ≡ true → b ≡ true
    int_ranged true true h = refl
    int_ranged true false h = h
    int_ranged false b h = absurd cc
cell_fits c (cell.Bytes bytes) h = let short : length bytes ≤ 65536 = short_bytes (length bytes) (right _ _ h) in omega (arith, short)

cell_short : (c : Column) (x : Cell) → fits_column c x ≡ true → 2 + cell_len x ≤ 65543
cell_short c cell.Null h = omega arith
cell_short c (cell.Bool b) h = omega arith
cell_short c (cell.Int n) h = omega arith
cell_short c (cell.Bytes bytes) h = let short : length bytes ≤ 65536 = short_bytes (length bytes) (right _ _ h) in omega (arith, short)

-- what is said of some of the columns
record Part (high : ℕ) (columns : List Column) (front cells : List (ℕ × Cell)) : Type 0 where
  follows : EachAfter FollowingCell front cells
  few : length cells ≤ length columns
  short : sum_by (λ (c : ℕ × Cell). 2 + cell_len c.1) cells ≤ 65543 * length columns

part_of : (high low : ℕ) (columns : List Column) (front cells : List (ℕ × Cell)) → high ≤ 2 ^ 16 → Rises low high columns → next_id front ≤ low → is_part columns cells ≡ true → Part high columns front cells
part_of high low columns front [] le rises next h = record { follows = tt; few = omega arith; short = omega arith }
part_of high low [] front (x ∷ cells) le rises next h = absurd cc
part_of high low (c ∷ columns) front (x ∷ cells) le rises next h =
    elim (c.id == x.0) as (λ b. (c.id == x.0) ≡ b → cond b (fits_column c x.1 && is_part columns cells) (is_part columns (x ∷ cells)) ≡ true → Part high (c ∷ columns) front (x ∷ cells)) [
      | true ↦ λ tested fit.
          let id : c.id ≡ x.0 = is_nat c.id x.0 tested in
          let fits = left (fits_column c x.1) (is_part columns cells) fit in
          let rest = part_of high (c.id + 1) columns (front ++ x ∷ []) cells le rises.2 (omega (arith, next_push front x, id)) (right (fits_column c x.1) (is_part columns cells) fit) in
          record {
            follows = (record { rising = omega (arith, next, rises.0, id); id = omega (arith, rises.1, id, le); cell = cell_fits c x.1 fits }, rest.follows);
            few = omega (arith, rest.few);
            short = omega (arith, rest.short, cell_short c x.1 fits, sum_by-cons (λ (d : ℕ × Cell). 2 + cell_len d.1) x cells);
          }
      | false ↦ λ _ later.
          let rest = part_of high (c.id + 1) columns front (x ∷ cells) le rises.2 (omega (arith, next, rises.0)) later in
          record { follows = rest.follows; few = omega (arith, rest.few); short = omega (arith, rest.short) }
    ] refl h

none_cells : (cells : List (ℕ × Cell)) → (length cells == 0) ≡ true → cells ≡ []
none_cells [] h = refl
none_cells (x ∷ cells) h = absurd (let zero_len : suc (length cells) ≡ 0 = grind (arith, nat_tests) in omega (arith, zero_len))

-- the cells of each form of operation are some of the columns'
is_some_part : (others : List Column) (f : OpForm) (cells : List (ℕ × Cell)) → cells_fit others f cells ≡ true → is_part others cells ≡ true
is_some_part others form.Literals cells h = left _ _ h
is_some_part others form.RowNames cells h = left _ _ h
is_some_part others form.Names cells h = left _ _ h
is_some_part others form.Key cells h = let none = none_cells cells h in rw none refl

may : (others : List Column) (k : OpKind) (cells : List (ℕ × Cell)) → cells_fit others (op_form k) cells ≡ true → may_list k (length cells) ≡ true
may others op.Insert cells h = refl
may others op.Upsert cells h = refl
may others op.Update cells h = refl
may others op.Delete cells h = h
may others op.InsertIgnore cells h = refl
may others op.UpdateIgnore cells h = refl
may others op.DeleteIgnore cells h = h

module _ (columns : List Column) (counted : IsCounted columns) where
  others_rise : Rises 1 301 (other_columns columns)
  others_rise = some_rise (λ c. not c.key) 1 301 columns counted.counted (omega (arith, counted.few))

  others_few : length (other_columns columns) ≤ 300
  others_few = omega (arith, some_few (λ c. not c.key) columns, counted.few)

  part : (o : RowOp) → OpFits columns o → Part 301 (other_columns columns) [] o.cells
  part o fits = part_of 301 1 (other_columns columns) [] o.cells (omega arith) others_rise (omega arith) (is_some_part (other_columns columns) (op_form o.kind) o.cells fits.cells)

  op_short : (o : RowOp) → OpFits columns o → op_len o ≤ 19679289
  op_short o fits = omega (arith, fits.short, (part o fits).short, others_few)

  op_follows : (front : List RowOp) (o : RowOp) → has_key front o.key ≡ false → OpFits columns o → FollowingOp front o
  op_follows front o new fits = record {
    new_key = new;
    key = omega (arith, fits.short);
    cells = record { listed = may (other_columns columns) o.kind o.cells fits.cells; count = omega (arith, (part o fits).few, others_few); cells = (part o fits).follows };
  }

  ops_follow : (front ops : List RowOp) → AreNew front ops → DifferentKeys ops → AllByRecursion (OpFits columns) ops → EachAfter FollowingOp front ops
  ops_follow front [] new apart fits = tt
  ops_follow front (o ∷ ops) new apart fits = (op_follows front o new.0 fits.0, ops_follow (front ++ o ∷ []) ops (new_with front o ops new.1 apart.0) apart.1 fits.1)

  ops_short : (ops : List RowOp) → AllByRecursion (OpFits columns) ops → length (flat_map operation ops) ≤ 19679289 * length ops
  ops_short [] fits = omega arith
  ops_short (o ∷ ops) fits = omega (arith, ap length (flat_map-cons operation o ops), length-append (operation o) (flat_map operation ops), length-operation o, op_short o fits.0, ops_short ops fits.1)

  held : (n : ℕ) → 1 ≤ n → n ≤ 64 → may_hold n ≡ true
  held n low high = grind (arith, nat_tests)

  -- what a write has to keep, for a record of it
  pub rules : (ops : List RowOp) → WriteFits columns ops → EachAfter FollowingOp [] ops
  rules ops fits = ops_follow [] ops (all_new ops) (differ ops fits.apart) fits.each

  pub count : (ops : List RowOp) → WriteFits columns ops → may_hold (length ops) ≡ true
  count ops fits = held (length ops) fits.some fits.few

  pub is_short : (ops : List RowOp) → WriteFits columns ops → IsShort ops
  is_short ops fits ts = omega (arith, ops_short ops fits.each, fits.few)
