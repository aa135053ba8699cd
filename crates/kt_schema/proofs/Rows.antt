-- What a row is that passes the checks.
use Rattle.std.proofs.Common.{◌≡◌, ◌≢◌, ℕ, zero, suc, ◌*◌, ◌<◌, ◌≤◌, min, max, ◌==◌, Bool, true, false, not, ◌&&◌, ◌||◌, List, [], ◌∷◌, length, take, map, cond, ℤ, Option, Some, None, inl, inr, refl, sym, ap, subst, ◌∙◌, arith, length-append}
use Rattle.std.specs.List.{slice_get, list_any}
use Rattle.std.proofs.lemmas.Option.{slice_get_past, slice_get-get_or}
use Rattle.std.proofs.lemmas.List.Sums.{count_by-le-length}
use Rattle.std.proofs.lemmas.Bool.{cases_lt, ltb-false, false≢true}
use Rattle.kt_base.specs.declared.cell.Kind.{Kind}
use Rattle.kt_base.specs.declared.cell.Kind.TheVariants as kind
use Rattle.kt_base.specs.declared.cell.Cell.{Cell}
use Rattle.kt_base.specs.declared.cell.Cell.TheVariants as cell
use Rattle.kt_base.specs.Keys.{number_key, width_of}
use Rattle.kt_key.specs.Fit.{is_bool, has_kind, is_key}
use Rattle.kt_key.specs.Spelling.{spelling, inner_spelling, last_spelling}
use Rattle.kt_key.proofs.Steps.{length-escaped, is_key-cons}
use Rattle.kt_schema.specs.declared.column.Column.{Column}
use Rattle.kt_schema.specs.First.{passes_at}
use Rattle.kt_schema.specs.Columns.{is_late, is_weak, columns_no, key_columns, key_kinds}
use Rattle.kt_schema.specs.Rows.{is_null, is_unlike, is_forbidden, is_long, unlike_cell, forbidden_null, long_cell, key_length}
use Rattle.kt_schema.proofs.Places.{none_passes, passes_at-past}
use Rattle.kt_schema.proofs.Columns.{no_keys, not_late_after, few_keys, schema_holds}

pub none_at_end : (xs : List Column) (ys : List Cell) (k : ℕ) → length xs ≤ k → k < length ys → is_unlike (slice_get xs k) (slice_get ys k) ≡ true
none_at_end xs ys k past within = ap (λ o. is_unlike o (slice_get ys k)) (slice_get_past xs k past) ∙ ap (λ o. is_unlike None o) (slice_get-get_or ys k cell.Null within)

some_at_end : (xs : List Column) (k : ℕ) → k < length xs → (x : Column) × (slice_get xs k ≡ Some x)
some_at_end [] k within = absurd (omega (arith, within))
some_at_end (x ∷ xs) zero within = (x, refl)
some_at_end (x ∷ xs) (suc k) within = some_at_end xs k (omega (arith, within))

pub column_at_end : (xs : List Column) (ys : List Cell) (k : ℕ) → k < length xs → length ys ≤ k → is_unlike (slice_get xs k) (slice_get ys k) ≡ true
column_at_end xs ys k within past =
    let here = some_at_end xs k within in
    ap (λ o. is_unlike o (slice_get ys k)) here.1 ∙ ap (λ o. is_unlike (Some here.0) o) (slice_get_past ys k past)

-- where one list ends before the other
pub unlike_end : (xs : List Column) (ys : List Cell) (k : ℕ) → k ≡ min (length xs) (length ys) → length xs ≢ length ys → is_unlike (slice_get xs k) (slice_get ys k) ≡ true
unlike_end xs ys k end apart = elim (cases_lt (length xs) (length ys)) [
  | inl lt ↦ none_at_end xs ys k (omega arith) (omega arith)
  | inr ge ↦ column_at_end xs ys k (omega arith) (omega arith)
]

pub never_unlike : (xs : List Column) (ys : List Cell) → unlike_cell xs ys ≡ None → (k : ℕ) → is_unlike (slice_get xs k) (slice_get ys k) ≡ false
never_unlike xs ys none k = elim (cases_lt k (max (length xs) (length ys))) [
  | inl lt ↦ none_passes (λ k. is_unlike (slice_get xs k) (slice_get ys k)) _ none k lt
  | inr past ↦ rw (slice_get_past xs k (omega arith), slice_get_past ys k (omega arith)) refl
]

nothing_forbidden : (o : Option Column) → is_forbidden o None ≡ false
nothing_forbidden None = refl
nothing_forbidden (Some column) = refl

pub never_forbidden : (xs : List Column) (ys : List Cell) → forbidden_null xs ys ≡ None → (k : ℕ) → is_forbidden (slice_get xs k) (slice_get ys k) ≡ false
never_forbidden xs ys none k = elim (cases_lt k (length ys)) [
  | inl lt ↦ none_passes (λ k. is_forbidden (slice_get xs k) (slice_get ys k)) _ none k lt
  | inr past ↦ ap (λ o. is_forbidden (slice_get xs k) o) (slice_get_past ys k past) ∙ nothing_forbidden (slice_get xs k)
]

pub never_long : (ys : List Cell) → long_cell ys ≡ None → (k : ℕ) → passes_at is_long ys k ≡ false
never_long ys none k = elim (cases_lt k (length ys)) [
  | inl lt ↦ none_passes (passes_at is_long ys) (length ys) none k lt
  | inr past ↦ passes_at-past is_long ys k past
]

-- columns and cells are as many
pub as_many : (xs : List Column) (ys : List Cell) → ((k : ℕ) → is_unlike (slice_get xs k) (slice_get ys k) ≡ false) → length xs ≡ length ys
as_many [] [] like = refl
as_many [] (y ∷ ys) like = absurd (false≢true (sym (like 0)))
as_many (x ∷ xs) [] like = absurd (false≢true (sym (like 0)))
as_many (x ∷ xs) (y ∷ ys) like = ap suc (as_many xs ys (λ k. like (suc k)))

-- a key column's cell is of its kind, which is none of truth values
key_cell : (null kinds bool nullable : Bool) → not (null || kinds) ≡ false → (null && not nullable) ≡ false → (nullable || bool) ≡ false → (kinds ≡ true) × (bool ≡ false)
key_cell true kinds bool true like allowed strong = absurd (false≢true (sym strong))
key_cell true kinds bool false like allowed strong = absurd (false≢true (sym allowed))
key_cell false true bool true like allowed strong = absurd (false≢true (sym strong))
key_cell false true bool false like allowed strong = (refl, strong)
key_cell false false bool nullable like allowed strong = absurd (false≢true (sym like))

-- the front cells of a row are a key
pub keyed : (columns : List Column) (row : List Cell) → ((k : ℕ) → is_late columns k ≡ false) → ((k : ℕ) → passes_at is_weak columns k ≡ false)
    → ((k : ℕ) → is_unlike (slice_get columns k) (slice_get row k) ≡ false) → ((k : ℕ) → is_forbidden (slice_get columns k) (slice_get row k) ≡ false)
    → is_key (key_kinds columns) (take (length (key_kinds columns)) row) ≡ true
keyed [] row late weak like allowed = refl
keyed (c ∷ columns) row late weak like allowed =
    by c.key row (λ k. late (suc k)) (weak 0) like allowed (λ late row like allowed. keyed columns row late (λ k. weak (suc k)) like allowed)
  where
    by : (b : Bool) (row : List Cell) → ((k : ℕ) → (passes_at (λ x. x.key) columns k && (not b || list_any (λ x. not x.key) (take k columns))) ≡ false) → (b && (c.nullable || is_bool c.kind)) ≡ false
        → ((k : ℕ) → is_unlike (slice_get (c ∷ columns) k) (slice_get row k) ≡ false) → ((k : ℕ) → is_forbidden (slice_get (c ∷ columns) k) (slice_get row k) ≡ false)
        → (((k : ℕ) → is_late columns k ≡ false) → (row : List Cell) → ((k : ℕ) → is_unlike (slice_get columns k) (slice_get row k) ≡ false)
        → ((k : ℕ) → is_forbidden (slice_get columns k) (slice_get row k) ≡ false) → is_key (key_kinds columns) (take (length (key_kinds columns)) row) ≡ true)
        → is_key (map (λ (x : Column). x.kind) (cond b (c ∷ key_columns columns) (key_columns columns))) (take (length (map (λ (x : Column). x.kind) (cond b (c ∷ key_columns columns) (key_columns columns)))) row) ≡ true
    by true [] late weak like allowed more = absurd (false≢true (sym (like 0)))
    by true (y ∷ row) late weak like allowed more =
        let here = key_cell (is_null y) (has_kind c.kind y) (is_bool c.kind) c.nullable (like 0) (allowed 0) weak in
        is_key-cons c.kind (key_kinds columns) y (take (length (key_kinds columns)) row) here.1 here.0 (more late row (λ k. like (suc k)) (λ k. allowed (suc k)))
    by false row late weak like allowed more =
        let none = no_keys columns (λ k. not_late_after (passes_at (λ x. x.key) columns k) (list_any (λ x. not x.key) (take k columns)) (late k)) in
        let P : List Column → Type 0 = λ ks. is_key (map (λ (x : Column). x.kind) ks) (take (length (map (λ (x : Column). x.kind) ks)) row) ≡ true in
        subst P (sym none.0) refl

number-le : (k : Kind) (n : ℤ) → length (number_key (width_of k) n) ≤ 8
number-le kind.Bool n = omega arith
number-le kind.Int8 n = omega arith
number-le kind.Int16 n = omega arith
number-le kind.Int32 n = omega arith
number-le kind.Int64 n = omega arith
number-le kind.String n = omega arith
number-le kind.Binary n = omega arith

inner-le : (k : Kind) (c : Cell) → is_long c ≡ false → length (inner_spelling k c) ≤ 131074
inner-le k cell.Null short = omega arith
inner-le k (cell.Bool b) short = omega arith
inner-le k (cell.Int n) short = omega (arith, number-le k n)
inner-le k (cell.Bytes bytes) short = omega (arith, ltb-false 65536 (length bytes) short, length-escaped bytes, count_by-le-length (λ (b : ℕ). b == 0) bytes)

last-le : (k : Kind) (c : Cell) → is_long c ≡ false → length (last_spelling k c) ≤ 131074
last-le k cell.Null short = omega arith
last-le k (cell.Bool b) short = omega arith
last-le k (cell.Int n) short = omega (arith, number-le k n)
last-le k (cell.Bytes bytes) short = omega (arith, ltb-false 65536 (length bytes) short)

-- how long a key is whose cells are not
pub spelling-le : (kinds : List Kind) (cells : List Cell) → ((k : ℕ) → passes_at is_long cells k ≡ false) → length (spelling kinds cells) ≤ 131074 * length kinds
spelling-le [] cells short = omega arith
spelling-le (k ∷ kinds) [] short = omega arith
spelling-le (k ∷ []) (c ∷ cells) short = omega (arith, last-le k c (short 0))
spelling-le (k ∷ next ∷ kinds) (c ∷ cells) short =
    omega (arith, length-append (inner_spelling k c) (spelling (next ∷ kinds) cells), inner-le k c (short 0), spelling-le (next ∷ kinds) cells (λ k. short (suc k)))

pub short_front : (n : ℕ) (cells : List Cell) → ((k : ℕ) → passes_at is_long cells k ≡ false) → (k : ℕ) → passes_at is_long (take n cells) k ≡ false
short_front zero cells short k = refl
short_front (suc n) [] short k = refl
short_front (suc n) (c ∷ cells) short zero = short 0
short_front (suc n) (c ∷ cells) short (suc k) = short_front n cells (λ k. short (suc k)) k

-- a row whose cells pass: its front cells are a key of a length that fits
pub record IsKeyed (columns : List Column) (row : List Cell) : Type 0 where
  pub within : length (key_kinds columns) ≤ length row
  pub key : is_key (key_kinds columns) (take (length (key_kinds columns)) row) ≡ true
  pub small : key_length columns row ≤ 39322200

pub row_keyed : (columns : List Column) (row : List Cell) → columns_no columns ≡ None → unlike_cell columns row ≡ None → forbidden_null columns row ≡ None → long_cell row ≡ None → IsKeyed columns row
row_keyed columns row fit like allowed short =
    let schema = schema_holds columns fit in
    let alike = never_unlike columns row like in
    let few = few_keys columns in
    let some : length (key_kinds columns) ≤ 300 = omega (arith, few, schema.few) in
    record {
      within = omega (arith, few, as_many columns row alike);
      key = keyed columns row schema.late schema.weak alike (never_forbidden columns row allowed);
      small = omega (arith, some, spelling-le (key_kinds columns) (take (length (key_kinds columns)) row) (short_front (length (key_kinds columns)) row (never_long row short)));
    }
