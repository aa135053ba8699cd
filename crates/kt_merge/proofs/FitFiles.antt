-- What is tested of a row, one by one.
use Rattle.std.proofs.Common.{◌≡◌, ◌≤◌, ◌<◌, ◌+◌, ◌^◌, ℕ, zero, suc, List, [], ◌∷◌, ◌++◌, length, get_or, drop, Option, Some, refl, sym, ap, ◌∙◌, subst, arith}
use Rattle.std.proofs.lemmas.List.{drop_all}
use Rattle.kt_base.specs.declared.cell.Cell.{Cell}
use Rattle.kt_cells.specs.Rules.{EachAfter, FollowingCell, CellFits, next_id}
use Rattle.kt_cells.proofs.Cells.{next_id-push}
use Rattle.kt_history.specs.declared.changes.Delta.{Delta}
use Rattle.kt_history.specs.Rows.{Row}
use Rattle.kt_baseset.specs.declared.schema.ColumnShape.{ColumnShape}
use Rattle.kt_baseset.specs.Rows.{RowFits}
use Rattle.kt_deltafile.specs.declared.file.Way.TheVariants.{Undo}
use Rattle.kt_deltafile.specs.Rules.{CellsFit, ChangeFits}
use Rattle.kt_rowfiles.proofs.Ordered.{rest_is}
use Rattle.kt_merge.specs.Fitting.{StandsUnder, IsUnder, AreFalling}

-- ---- UNDO records: what is told of all is told of those that are left

module _ (xs : List Delta) (i : ℕ) (d : Delta) (top : Option ℕ) (low : i < length xs) (is : d ≡ get_or xs i d) (Whole : Type 0) where
  pub fall_on : IsUnder top d.ts → d.ts < 2 ^ 64 → ChangeFits Undo d.change → (AreFalling top (drop i xs) → Whole) → AreFalling (Some d.ts) (drop (i + 1) xs) → Whole
  fall_on under range fits so rest = so (subst (AreFalling top) (sym (rest_is xs i d low is)) (under, range, fits, rest))

  pub fall_back : (Whole → AreFalling top (drop i xs)) → Whole → AreFalling (Some d.ts) (drop (i + 1) xs)
  fall_back so all = (subst (AreFalling top) (rest_is xs i d low is) (so all)).3

  pub fall_stops : (Whole → AreFalling top (drop i xs)) → (IsUnder top d.ts → ChangeFits Undo d.change → ⊥) → Whole → ⊥
  fall_stops so no_ all = let here = subst (AreFalling top) (rest_is xs i d low is) (so all) in no_ here.0 here.2

pub fall_over : (xs : List Delta) (i : ℕ) (top : Option ℕ) (Whole : Type 0) → length xs ≤ i → (AreFalling top (drop i xs) → Whole) → Whole
fall_over xs i top Whole past so = so (subst (AreFalling top) (sym (drop_all i xs past)) tt)

-- ---- the columns of a row

pub itself_at : {X : Type 0} (xs : List X) (i : ℕ) (d : X) → i < length xs → get_or xs i d ≡ get_or xs i (get_or xs i d)
itself_at xs i d low = any xs i d (get_or xs i d) low
  where
    any : {Y : Type 0} (ys : List Y) (k : ℕ) (a b : Y) → k < length ys → get_or ys k a ≡ get_or ys k b
    any [] k a b lt = absurd (omega arith)
    any (y ∷ ys) zero a b lt = refl
    any (y ∷ ys) (suc k) a b lt = any ys k a b (omega arith)

pub same_count : (columns : List ColumnShape) (row : Row) → RowFits columns row → length columns ≡ length row
same_count [] [] h = refl
same_count [] (x ∷ row) h = absurd h
same_count (c ∷ columns) [] h = absurd h
same_count (c ∷ columns) (x ∷ row) h = ap suc (same_count columns row h.2)

module _ (columns : List ColumnShape) (row : Row) (i : ℕ) (c : ColumnShape) (x : ℕ × Cell) (low : i < length columns) (in_ : i < length row) (is : c ≡ get_or columns i c) (at : x ≡ get_or row i x) (Whole : Type 0) where
  here : RowFits (drop i columns) (drop i row) ≡ RowFits (c ∷ drop (i + 1) columns) (x ∷ drop (i + 1) row)
  here = ap (λ (cs : List ColumnShape). RowFits cs (drop i row)) (rest_is columns i c low is) ∙ ap (RowFits (c ∷ drop (i + 1) columns)) (rest_is row i x in_ at)

  pub columns_on : StandsUnder c x → (RowFits (drop i columns) (drop i row) → Whole) → RowFits (drop (i + 1) columns) (drop (i + 1) row) → Whole
  columns_on own so rest = so (subst (λ (T : Type 0). T) (sym here) (own.0, own.1, rest))

  pub columns_back : (Whole → RowFits (drop i columns) (drop i row)) → Whole → RowFits (drop (i + 1) columns) (drop (i + 1) row)
  columns_back so all = (subst (λ (T : Type 0). T) here (so all)).2

  pub columns_stop : (Whole → RowFits (drop i columns) (drop i row)) → ¬ StandsUnder c x → Whole → ⊥
  columns_stop so no_ all = let all_here = subst (λ (T : Type 0). T) here (so all) in no_ (all_here.0, all_here.1)

pub columns_over : (columns : List ColumnShape) (row : Row) (i : ℕ) (Whole : Type 0) → length columns ≡ length row → length columns ≤ i → (RowFits (drop i columns) (drop i row) → Whole) → Whole
columns_over columns row i Whole same past so =
    let e : length row ≤ i = omega (arith, same, past) in
    let none : RowFits [] (drop i row) = subst (RowFits []) (sym (drop_all i row e)) tt in
    so (subst (λ (cs : List ColumnShape). RowFits cs (drop i row)) (sym (drop_all i columns past)) none)

-- ---- cells by rising id

-- ids rise from a least one on
abbrev pub RiseFrom : ℕ → Row → Type 0
RiseFrom least [] = Unit {0}
RiseFrom least (c ∷ cells) = (least ≤ c.0) × (c.0 < 2 ^ 16) × CellFits c.1 × RiseFrom (c.0 + 1) cells

pub each_from : (front cells : Row) (least : ℕ) → least ≡ next_id front → RiseFrom least cells → EachAfter FollowingCell front cells
each_from front [] least e h = tt
each_from front (c ∷ cells) least e h =
    (record { rising = omega (arith, e, h.0); id = h.1; cell = h.2 }, each_from (front ++ c ∷ []) cells (c.0 + 1) (sym (next_id-push front c)) h.3)

pub from_each : (front cells : Row) (least : ℕ) → least ≡ next_id front → EachAfter FollowingCell front cells → RiseFrom least cells
from_each front [] least e h = tt
from_each front (c ∷ cells) least e h =
    let own : FollowingCell front c = h.0 in
    (omega (arith, e, own.rising), own.id, own.cell, from_each (front ++ c ∷ []) cells (c.0 + 1) (sym (next_id-push front c)) h.1)

module _ (xs : Row) (i : ℕ) (c : ℕ × Cell) (least : ℕ) (low : i < length xs) (is : c ≡ get_or xs i c) (Whole : Type 0) where
  pub cells_on : least ≤ c.0 → c.0 < 2 ^ 16 → CellFits c.1 → (RiseFrom least (drop i xs) → Whole) → RiseFrom (c.0 + 1) (drop (i + 1) xs) → Whole
  cells_on up range fits so rest = so (subst (RiseFrom least) (sym (rest_is xs i c low is)) (up, range, fits, rest))

  pub cells_back : (Whole → RiseFrom least (drop i xs)) → Whole → RiseFrom (c.0 + 1) (drop (i + 1) xs)
  cells_back so all = (subst (RiseFrom least) (rest_is xs i c low is) (so all)).3

  pub cells_stop : (Whole → RiseFrom least (drop i xs)) → (least ≤ c.0 → CellFits c.1 → ⊥) → Whole → ⊥
  cells_stop so no_ all = let here = subst (RiseFrom least) (rest_is xs i c low is) (so all) in no_ here.0 here.2

pub cells_over : (xs : Row) (i least : ℕ) → length xs ≤ i → length xs < 2 ^ 16 → (RiseFrom least (drop i xs) → RiseFrom 0 xs) → CellsFit xs
cells_over xs i least past few on = record { count = few; each = each_from [] xs 0 refl (on (subst (RiseFrom least) (sym (drop_all i xs past)) tt)) }

pub cells_not : (xs : Row) → (RiseFrom 0 xs → ⊥) → CellsFit xs → ⊥
cells_not xs no_ fit = no_ (from_each [] xs 0 refl fit.each)
