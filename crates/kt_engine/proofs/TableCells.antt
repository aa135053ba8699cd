-- What is tested of columns, of cells and of changes, one by one.
use Rattle.std.proofs.Common.{◌≡◌, ◌≤◌, ◌<◌, ◌+◌, ◌^◌, ℕ, zero, suc, List, [], ◌∷◌, ◌++◌, map, length, get_or, take, drop, Some, None, Option, refl, sym, ap, ◌∙◌, subst, arith, inl, inr, append_assoc}
use Rattle.std.specs.Prelude.{slice_get, All}
use Rattle.std.specs.List.{flat_map}
use Rattle.std.specs.Option.{option_map}
use Rattle.std.proofs.lemmas.List.{drop_all, drop-map, append-nil, map-append}
use Rattle.kt_base.specs.declared.cell_ref.CellRef.{CellRef}
use Rattle.kt_base.specs.Borrowed.{cell_in}
use Rattle.kt_cells.specs.Borrowed.{cells_in, cells_in_ref}
use Rattle.kt_cells.specs.Reading.{cells_behind}
use Rattle.kt_cells.specs.Rules.{EachAfter, FollowingCell, CellFits, CellListFits}
use Rattle.kt_cells.specs.Spelling.{listed_cell, cell_list}
use Rattle.kt_cells.proofs.Spelled.{read_back}
use Rattle.kt_history.specs.AsBytes.{step_in, step_of, change_with}
use Rattle.kt_history.specs.declared.change.Change.{Change}
use Rattle.kt_history.specs.declared.change_list.ChangeRef.{ChangeRef}
use Rattle.kt_history.specs.declared.changes.KeyChange.{KeyChange}
use Rattle.kt_history.specs.Rows.{Row}
use Rattle.kt_rowfiles.proofs.Ordered.{rest_is}
use Rattle.kt_baseset.specs.declared.schema.ColumnShape.{ColumnShape}
use Rattle.kt_baseset.specs.Rows.{IdsRise, AreShapes, RowFits}
use Rattle.kt_merge.specs.Fitting.{StandsUnder}
use Rattle.kt_joblaws.specs.Apart.{ArePart, AreInTime}
use Rattle.kt_tablet.specs.Filling.{filled_change}
use Rattle.kt_tablet.specs.Jobs.{filled_of}

-- ---- columns

-- ids rise from one on, and fit their field
abbrev pub RiseFit : ℕ → List ColumnShape → Type 0
RiseFit least [] = Unit {0}
RiseFit least (c ∷ columns) = (least ≤ c.id) × (c.id < 2 ^ 16) × RiseFit (c.id + 1) columns

pub shapes_on : (columns : List ColumnShape) (i least : ℕ) (c : ColumnShape) (Whole : Type 0) → i < length columns → c ≡ get_or columns i c → least ≤ c.id → c.id < 2 ^ 16
    → (RiseFit least (drop i columns) → Whole) → RiseFit (c.id + 1) (drop (i + 1) columns) → Whole
shapes_on columns i least c Whole low is up fits so rest = so (subst (RiseFit least) (sym (rest_is columns i c low is)) (up, fits, rest))

ids_rise : (least : ℕ) (columns : List ColumnShape) → RiseFit least columns → IdsRise least columns
ids_rise least [] r = tt
ids_rise least (c ∷ columns) r = (r.0, ids_rise (c.id + 1) columns r.2)

ids_fit : (least : ℕ) (columns : List ColumnShape) → RiseFit least columns → All (λ (c : ColumnShape). c.id < 2 ^ 16) columns
ids_fit least [] r k d lt = absurd (omega arith)
ids_fit least (c ∷ columns) r zero d lt = r.1
ids_fit least (c ∷ columns) r (suc k) d lt = ids_fit (c.id + 1) columns r.2 k d (omega arith)

pub shapes_over : (columns : List ColumnShape) (i least : ℕ) → length columns ≤ i → length columns < 2 ^ 16 → (RiseFit least (drop i columns) → RiseFit 0 columns) → AreShapes columns
shapes_over columns i least past few so =
    let all : RiseFit 0 columns = so (subst (RiseFit least) (sym (drop_all i columns past)) tt) in
    record { few = few; rise = ids_rise 0 columns all; fit = ids_fit 0 columns all }

-- ---- cells of columns

pub passed_over : (c : ColumnShape) (columns : List ColumnShape) (cells : Row) → ArePart columns cells → ArePart (c ∷ columns) cells
passed_over c columns [] p = tt
passed_over c columns (x ∷ cells) p = inr p

cell_there : (cells : List (ℕ × CellRef)) (at : ℕ) (x : ℕ × CellRef) → at < length cells → x ≡ get_or cells at x → drop at (cells_in cells) ≡ (x.0, cell_in x.1) ∷ drop (at + 1) (cells_in cells)
cell_there cells at x low is =
    drop-map (λ (c : ℕ × CellRef). (c.0, cell_in c.1)) at cells ∙ ap cells_in (rest_is cells at x low is) ∙ ap (λ (l : Row). (x.0, cell_in x.1) ∷ l) (sym (drop-map (λ (c : ℕ × CellRef). (c.0, cell_in c.1)) (at + 1) cells))

pub stands_there : (c : ColumnShape) (columns : List ColumnShape) (cells : List (ℕ × CellRef)) (at : ℕ) (x : ℕ × CellRef) → at < length cells → x ≡ get_or cells at x → StandsUnder c (x.0, cell_in x.1)
    → ArePart columns (drop (at + 1) (cells_in cells)) → ArePart (c ∷ columns) (drop at (cells_in cells))
stands_there c columns cells at x low is own rest = subst (ArePart (c ∷ columns)) (sym (cell_there cells at x low is)) (inl (own, rest))

pub part_on : (columns : List ColumnShape) (cells : Row) (i at next : ℕ) (c : ColumnShape) (Whole : Type 0) → i < length columns → c ≡ get_or columns i c
    → ((others : List ColumnShape) → ArePart others (drop next cells) → ArePart (c ∷ others) (drop at cells))
    → (ArePart (drop i columns) (drop at cells) → Whole) → ArePart (drop (i + 1) columns) (drop next cells) → Whole
part_on columns cells i at next c Whole low is here so rest = so (subst (λ (cs : List ColumnShape). ArePart cs (drop at cells)) (sym (rest_is columns i c low is)) (here (drop (i + 1) columns) rest))

none_part : (columns : List ColumnShape) → ArePart columns []
none_part [] = tt
none_part (c ∷ columns) = tt

as_many : (cells : List (ℕ × CellRef)) → length (cells_in cells) ≡ length cells
as_many [] = refl
as_many (x ∷ cells) = ap suc (as_many cells)

pub part_over : (columns : List ColumnShape) (cells : List (ℕ × CellRef)) (i at : ℕ) (Whole : Type 0) → at ≡ length cells → (ArePart (drop i columns) (drop at (cells_in cells)) → Whole) → Whole
part_over columns cells i at Whole same so =
    let none : drop at (cells_in cells) ≡ [] = drop_all at (cells_in cells) (let e = as_many cells in omega arith) in
    so (subst (ArePart (drop i columns)) (sym none) (none_part (drop i columns)))

part_few : (columns : List ColumnShape) (cells : Row) → ArePart columns cells → length cells ≤ length columns
part_few columns [] p = omega arith
part_few [] (x ∷ cells) p = absurd p
part_few (c ∷ columns) (x ∷ cells) p = elim p [
  | inl own ↦ let few = part_few columns cells own.1 in omega arith
  | inr rest ↦ let few = part_few columns (x ∷ cells) rest in omega arith
]

-- cells of some of the columns, as many as these, are cells of all of them
pub part_whole : (columns : List ColumnShape) (cells : Row) → length cells ≡ length columns → ArePart columns cells → RowFits columns cells
part_whole [] [] same p = tt
part_whole [] (x ∷ cells) same p = absurd p
part_whole (c ∷ columns) [] same p = absurd (omega arith)
part_whole (c ∷ columns) (x ∷ cells) same p = elim p [
  | inl own ↦ (own.0.0, own.0.1, part_whole columns cells (omega arith) own.1)
  | inr rest ↦ absurd (let few = part_few columns (x ∷ cells) rest in omega arith)
]

pub refs_whole : (columns : List ColumnShape) (cells : List (ℕ × CellRef)) → length cells ≡ length columns → ArePart columns (cells_in cells) → RowFits columns (cells_in cells)
refs_whole columns cells same p = part_whole columns (cells_in cells) (as_many cells ∙ same) p

-- ---- the bytes of cells

pub ref_fits : (cells : List (ℕ × CellRef)) (front : Row) (i : ℕ) (d : ℕ × CellRef) → i < length cells → EachAfter FollowingCell front (cells_in cells) → CellFits (cell_in (get_or cells i d).1)
ref_fits [] front i d lt e = absurd (omega arith)
ref_fits (x ∷ cells) front zero d lt e = e.0.cell
ref_fits (x ∷ cells) front (suc i) d lt e = ref_fits cells (front ++ (x.0, cell_in x.1) ∷ []) i d (omega arith) e.1

one_more : (cells : List (ℕ × CellRef)) (i : ℕ) (d : ℕ × CellRef) → i < length cells
    → flat_map listed_cell (take (suc i) (cells_in cells)) ≡ flat_map listed_cell (take i (cells_in cells)) ++ listed_cell ((get_or cells i d).0, cell_in (get_or cells i d).1)
one_more [] i d lt = absurd (omega arith)
one_more (x ∷ cells) zero d lt = append-nil (listed_cell (x.0, cell_in x.1))
one_more (x ∷ cells) (suc i) d lt =
    ap (λ (l : List ℕ). listed_cell (x.0, cell_in x.1) ++ l) (one_more cells i d (omega arith))
    ∙ sym (append_assoc (listed_cell (x.0, cell_in x.1)) (flat_map listed_cell (take i (cells_in cells))) (listed_cell ((get_or cells i d).0, cell_in (get_or cells i d).1)))

pub spelled_more : (cells : List (ℕ × CellRef)) (i : ℕ) (d : ℕ × CellRef) (front was now : List ℕ) → i < length cells → was ≡ front ++ flat_map listed_cell (take i (cells_in cells))
    → now ≡ was ++ listed_cell ((get_or cells i d).0, cell_in (get_or cells i d).1) → now ≡ front ++ flat_map listed_cell (take (i + 1) (cells_in cells))
spelled_more cells i d front was now lt so more =
    let next : i + 1 ≡ suc i = omega arith in
    more ∙ ap (λ (l : List ℕ). l ++ listed_cell ((get_or cells i d).0, cell_in (get_or cells i d).1)) so
    ∙ append_assoc front (flat_map listed_cell (take i (cells_in cells))) (listed_cell ((get_or cells i d).0, cell_in (get_or cells i d).1))
    ∙ ap (λ (l : List ℕ). front ++ l) (sym (one_more cells i d lt)) ∙ ap (λ (n : ℕ). front ++ flat_map listed_cell (take n (cells_in cells))) (sym next)

-- what is spelled is read back
pub spelled_back : (cells : Row) (bytes : List ℕ) → CellListFits cells → bytes ≡ cell_list cells → cells_behind bytes ≡ cells
spelled_back cells bytes fits is = ap cells_behind is ∙ read_back cells fits

-- ---- changes in time

pub up_by : (list : List KeyChange) (at : ℕ) → ((c d : KeyChange) → slice_get list at ≡ Some c → slice_get list (suc at) ≡ Some d → c.key ≡ d.key → c.ts < d.ts) → AreInTime (drop (suc at) list) → AreInTime (drop at list)
up_by [] zero f h = h
up_by [] (suc at) f h = h
up_by (c ∷ []) zero f h = tt
up_by (c ∷ d ∷ list) zero f h = (f c d refl refl, h)
up_by (c ∷ list) (suc at) f h = up_by list at f h

pub time_over : (list : List KeyChange) (i : ℕ) → length list ≤ i → (AreInTime (drop i list) → AreInTime list) → AreInTime list
time_over list i past so = so (subst AreInTime (sym (drop_all i list past)) tt)

next_is : (at : ℕ) → at + 1 ≡ suc at
next_is at = omega arith

-- the change behind is of another key
pub other_key : (list : List KeyChange) (at : ℕ) → (option_map (λ (c : KeyChange). c.key) (slice_get list at) ≡ option_map (λ (c : KeyChange). c.key) (slice_get list (at + 1)) → ⊥) → AreInTime (drop (at + 1) list) → AreInTime (drop at list)
other_key list at no_ h = up_by list at
    (λ c d is_c is_d same. absurd (no_ (ap (option_map (λ (x : KeyChange). x.key)) is_c ∙ ap Some same ∙ sym (ap (option_map (λ (x : KeyChange). x.key)) is_d) ∙ ap (λ (n : ℕ). option_map (λ (x : KeyChange). x.key) (slice_get list n)) (sym (next_is at)))))
    (subst (λ (n : ℕ). AreInTime (drop n list)) (next_is at) h)

there : {A : Type 0} (xs : List A) (i : ℕ) → i < length xs → (x : A) × (slice_get xs i ≡ Some x)
there [] i lt = absurd (omega arith)
there (x ∷ xs) zero lt = (x, refl)
there (x ∷ xs) (suc i) lt = there xs i (omega arith)

inside : {A : Type 0} (xs : List A) (i : ℕ) (x : A) → slice_get xs i ≡ Some x → i < length xs
inside [] i x is = absurd (cc)
inside (y ∷ xs) zero x is = omega arith
inside (y ∷ xs) (suc i) x is = let rest = inside xs i x is in omega arith

-- where it is of the same key, it is there
pub next_there : (list : List KeyChange) (at : ℕ) → at < length list → option_map (λ (c : KeyChange). c.key) (slice_get list at) ≡ option_map (λ (c : KeyChange). c.key) (slice_get list (at + 1)) → at + 1 < length list
next_there list at lt same =
    let here = there list at lt in
    by (slice_get list (at + 1)) refl (sym (ap (option_map (λ (c : KeyChange). c.key)) here.1) ∙ same)
  where
    by : {k : List ℕ} (o : Option KeyChange) → slice_get list (at + 1) ≡ o → Some k ≡ option_map (λ (c : KeyChange). c.key) o → at + 1 < length list
    by None e f = absurd (cc)
    by (Some d) e f = inside list (at + 1) d e

same_time : (a b : ℕ) (x y : Change) → ◌≡◌ {A = Option (ℕ × Change)} (Some (a, x)) (Some (b, y)) → a ≡ b
same_time a b x y e = ap time e
  where
    time : Option (ℕ × Change) → ℕ
    time None = a
    time (Some p) = p.0

-- the change behind comes later
pub later : (list : List KeyChange) (at a b : ℕ) (x y : Change) → ◌≡◌ {A = Option (ℕ × Change)} (Some (a, x)) (option_map step_of (slice_get list at)) → ◌≡◌ {A = Option (ℕ × Change)} (Some (b, y)) (option_map step_of (slice_get list (at + 1))) → a < b
    → AreInTime (drop (at + 1) list) → AreInTime (drop at list)
later list at a b x y is_a is_b lt h = up_by list at
    (λ c d is_c is_d same.
    let first = same_time a c.ts x c.change (is_a ∙ ap (option_map step_of) is_c) in
    let second = same_time b d.ts y d.change (is_b ∙ ap (λ (n : ℕ). option_map step_of (slice_get list n)) (next_is at) ∙ ap (option_map step_of) is_d) in
    omega arith)
    (subst (λ (n : ℕ). AreInTime (drop n list)) (next_is at) h)

-- ---- filled changes

one_there : {A : Type 0} (xs : List A) (at : ℕ) (x : A) → slice_get xs at ≡ Some x → take 1 (drop at xs) ≡ x ∷ []
one_there [] at x is = absurd (cc)
one_there (y ∷ xs) zero x is = ap (λ (z : _). z ∷ []) (same y x is)
  where
    same : {B : Type 0} (a b : B) → Some a ≡ Some b → a ≡ b
    same a b e = cc
one_there (y ∷ xs) (suc at) x is = one_there xs at x is

as_made : (fill : Row) (key : List ℕ) (ts : ℕ) (made : Change) (c : KeyChange) → c.key ≡ key → c.ts ≡ ts → made ≡ filled_change fill c.change → record { key = key; ts = ts; change = made } ≡ filled_of fill c
as_made fill key ts made c k t m = λ i. record { key = sym k i; ts = sym t i; change = m i }

-- what is put in the place of a change is the change, filled
pub made_so : (fill : Row) (changes : List KeyChange) (at : ℕ) (r : ChangeRef) (key : List ℕ) (made : Change) → at < length changes → Some (step_in r) ≡ option_map step_of (slice_get changes at)
    → Some key ≡ option_map (λ (c : KeyChange). c.key) (slice_get changes at) → made ≡ filled_change fill (change_with r.kind (cells_in_ref r.cells))
    → record { key = key; ts = r.ts; change = made } ∷ [] ≡ map (filled_of fill) (take 1 (drop at changes))
made_so fill changes at r key made low is key_is made_is =
    let here = there changes at low in
    let c : KeyChange = here.0 in
    let step : Some (step_in r) ≡ Some (step_of c) = is ∙ ap (option_map step_of) here.1 in
    let its_key : Some key ≡ Some c.key = key_is ∙ ap (option_map (λ (x : KeyChange). x.key)) here.1 in
    let change : change_with r.kind (cells_in_ref r.cells) ≡ c.change = same_change r.ts c.ts (change_with r.kind (cells_in_ref r.cells)) c.change step in
    ap (λ (x : KeyChange). x ∷ []) (as_made fill key r.ts made c (sym (same_keys key c.key its_key)) (sym (same_time r.ts c.ts (change_with r.kind (cells_in_ref r.cells)) c.change step)) (made_is ∙ ap (filled_change fill) change))
    ∙ sym (ap (map (filled_of fill)) (one_there changes at c here.1))
  where
    same_keys : (a b : List ℕ) → Some a ≡ Some b → a ≡ b
    same_keys a b e = cc

    same_change : (a b : ℕ) (x y : Change) → ◌≡◌ {A = Option (ℕ × Change)} (Some (a, x)) (Some (b, y)) → x ≡ y
    same_change a b x y e = ap its e
      where
        its : Option (ℕ × Change) → Change
        its None = x
        its (Some p) = p.1

take_more : {A : Type 0} (xs : List A) (at : ℕ) → take at xs ++ take 1 (drop at xs) ≡ take (suc at) xs
take_more [] zero = refl
take_more [] (suc at) = refl
take_more (x ∷ xs) zero = refl
take_more (x ∷ xs) (suc at) = ap (λ (l : List _). x ∷ l) (take_more xs at)

pub filled_more : (fill : Row) (changes now new : List KeyChange) (at : ℕ) → now ≡ map (filled_of fill) (take at changes) → new ≡ now ++ map (filled_of fill) (take 1 (drop at changes)) → new ≡ map (filled_of fill) (take (at + 1) changes)
filled_more fill changes now new at so more =
    more ∙ ap (λ (l : List KeyChange). l ++ map (filled_of fill) (take 1 (drop at changes))) so ∙ sym (map-append (filled_of fill) (take at changes) (take 1 (drop at changes)))
    ∙ ap (map (filled_of fill)) (take_more changes at) ∙ ap (λ (n : ℕ). map (filled_of fill) (take n changes)) (sym (next_is at))
