-- The cells of a key.
use Rattle.std.proofs.Common.{◌≡◌, ℕ, suc, ◌+◌, ◌<◌, ◌≤◌, Bool, true, false, not, ◌&&◌, ◌||◌, cond, List, [], ◌∷◌, ◌++◌, length, length-append, None, refl, sym, ap, ◌∙◌, arith}
use Rattle.std.specs.Prelude.{nat_lt}
use Rattle.std.specs.List.{list_all, AllByRecursion}
use Rattle.std.proofs.lemmas.Bool.{false≢true}
use Rattle.std.proofs.lemmas.Bool.Decides.{nat_tests}
use Rattle.kt_base.specs.declared.cell.Kind.{Kind}
use Rattle.kt_base.specs.declared.cell.Kind.TheVariants as kind
use Rattle.kt_base.specs.declared.cell.Cell.{Cell}
use Rattle.kt_base.specs.declared.cell.Cell.TheVariants as cell
use Rattle.kt_base.specs.Literals.{CellBytes}
use Rattle.kt_base.proofs.Values.{both, both_true}
use Rattle.kt_key.specs.Fit.{is_bool, has_kind, is_key}
use Rattle.kt_key.specs.Spelling.{spelling, inner_spelling, last_spelling}
use Rattle.kt_key.proofs.Steps.{length-escaped, is_key_more}
use Rattle.kt_schema.specs.declared.column.Column.{Column}
use Rattle.kt_schema.specs.First.{passes_at}
use Rattle.kt_schema.specs.Rows.{is_null, is_long}
use Rattle.kt_schema.specs.Columns.{is_weak, columns_no, key_columns, key_kinds}
use Rattle.kt_schema.proofs.Columns.{schema_holds}
use Rattle.kt_script.specs.Writes.{cells_no, cells_of, key_cells}
use Rattle.kt_script.specs.Fit.{fits_column}
use Rattle.kt_script.proofs.WordForms.{each_keeps}
use Rattle.kt_script.proofs.PrintedCells.{kinds_of}
use Rattle.kt_script.proofs.Cells.{literal_of, cell_taken}

-- a column of a key: none of its cells is null, and it is of no truth values
abbrev is_strong : Column → Bool
is_strong c = not (c.nullable || is_bool c.kind)

pub strong_keys : (columns : List Column) → ((k : ℕ) → k < length columns → passes_at is_weak columns k ≡ false) → list_all is_strong (key_columns columns) ≡ true
strong_keys [] weak = refl
strong_keys (c ∷ columns) weak = by c.key (weak 0 (omega arith)) (strong_keys columns (λ k lt. weak (suc k) (omega arith)))
  where
    by : (b : Bool) → (b && (c.nullable || is_bool c.kind)) ≡ false → list_all is_strong (key_columns columns) ≡ true → list_all is_strong (cond b (c ∷ key_columns columns) (key_columns columns)) ≡ true
    by true weak more = both _ _ (ap not weak) more
    by false weak more = more

key_one : (k : Kind) (kinds : List Kind) (x : Cell) (cells : List Cell) → is_bool k ≡ false → has_kind k x ≡ true → is_key kinds cells ≡ true → is_key (k ∷ kinds) (x ∷ cells) ≡ true
key_one kind.Bool kinds x cells b h more = absurd (false≢true (sym b))
key_one kind.Int8 kinds x cells b h more = both _ _ h more
key_one kind.Int16 kinds x cells b h more = both _ _ h more
key_one kind.Int32 kinds x cells b h more = both _ _ h more
key_one kind.Int64 kinds x cells b h more = both _ _ h more
key_one kind.String kinds x cells b h more = both _ _ h more
key_one kind.Binary kinds x cells b h more = both _ _ h more

-- cells that the columns of a key take make a key
pub keys_kept : (keys : List Column) (cells : List Cell) → list_all is_strong keys ≡ true → each_keeps literal_of keys cells → is_key (kinds_of keys) cells ≡ true
keys_kept [] [] strong k = refl
keys_kept [] (x ∷ cells) strong k = absurd k
keys_kept (c ∷ keys) [] strong k = absurd k
keys_kept (c ∷ keys) (x ∷ cells) strong k =
    let parts = both_true _ _ strong in
    let kind = neither c.nullable (is_bool c.kind) parts.0 in
    let fit = both_true (has_kind c.kind x || (is_null x && c.nullable)) (not (is_long x)) k.0.0 in
    key_one c.kind (kinds_of keys) x cells kind.1 (some (has_kind c.kind x) (is_null x) c.nullable fit.0 kind.0) (keys_kept keys cells parts.1 k.1)
  where
    neither : (a b : Bool) → not (a || b) ≡ true → (a ≡ false) × (b ≡ false)
    neither true b g = absurd (false≢true g)
    neither false true g = absurd (false≢true g)
    neither false false g = (refl, refl)

    some : (a n b : Bool) → (a || (n && b)) ≡ true → b ≡ false → a ≡ true
    some true n b h e = refl
    some false true b h e = absurd (false≢true (sym e ∙ h))
    some false false b h e = absurd (false≢true h)

cells_kept : (keys : List Column) (words : List (List ℕ)) → 17 < cells_no keys words → each_keeps literal_of keys (cells_of keys words)
cells_kept [] words h = tt
cells_kept (c ∷ keys) [] h = absurd (omega arith)
cells_kept (c ∷ keys) (w ∷ words) h = (cell_taken c w (omega (arith, h)), cells_kept keys words (omega (arith, h)))

-- literals that no reason up to 17 refuses spell a key
pub key_fits : (columns : List Column) (words : List (List ℕ)) → columns_no columns ≡ None → 17 < cells_no (key_columns columns) words → is_key (key_kinds columns) (key_cells columns words) ≡ true
key_fits columns words none h = keys_kept (key_columns columns) _ (strong_keys columns (λ k lt. (schema_holds columns none).weak k)) (cells_kept (key_columns columns) words h)

not_long : (n : ℕ) → n ≤ 65536 → not (nat_lt 65536 n) ≡ true
not_long n h = grind (arith, nat_tests)

inner_short : (k : Kind) (x : Cell) → length (inner_spelling k x) ≤ 65536 → not (is_long x) ≡ true
inner_short k cell.Null h = refl
inner_short k (cell.Int n) h = refl
inner_short k (cell.Bool b) h = refl
inner_short k (cell.Bytes b) h = let size = length-escaped b in let short : length b ≤ 65536 = omega (arith, size) in not_long (length b) short

last_short : (k : Kind) (x : Cell) → length (last_spelling k x) ≤ 65536 → not (is_long x) ≡ true
last_short k cell.Null h = refl
last_short k (cell.Int n) h = refl
last_short k (cell.Bool b) h = refl
last_short k (cell.Bytes b) h = not_long (length b) h

taken : (c : Column) (x : Cell) → has_kind c.kind x ≡ true → not (is_long x) ≡ true → CellBytes x → (fits_column c x ≡ true) × CellBytes x
taken c x kind short bytes = (both _ _ (ap (λ t. t || (is_null x && c.nullable)) kind) short, bytes)

-- the cells of a key that is not too long
pub key_kept : (cs : List Column) (xs : List Cell) → is_key (kinds_of cs) xs ≡ true → length (spelling (kinds_of cs) xs) ≤ 65536 → AllByRecursion CellBytes xs → each_keeps literal_of cs xs
key_kept [] [] h short bytes = tt
key_kept [] (x ∷ xs) h short bytes = absurd cc
key_kept (c ∷ cs) [] h short bytes = absurd cc
key_kept (c ∷ []) (x ∷ []) h short bytes = let more = is_key_more c.kind [] x [] h in (taken c x more.0 (last_short c.kind x short) bytes.0, tt)
key_kept (c ∷ []) (x ∷ y ∷ xs) h short bytes = let more = is_key_more c.kind [] x (y ∷ xs) h in absurd (no more.1)
  where
    no : ◌≡◌ {A = Bool} false true → ⊥
    no e = cc
key_kept (c ∷ d ∷ cs) (x ∷ xs) h short bytes =
    let rest : List ℕ = spelling (kinds_of (d ∷ cs)) xs in
    let size : length (inner_spelling c.kind x ++ rest) ≡ length (inner_spelling c.kind x) + length rest = length-append (inner_spelling c.kind x) rest in
    let more = is_key_more c.kind (kinds_of (d ∷ cs)) x xs h in
    (taken c x more.0 (inner_short c.kind x (omega (arith, size, short))) bytes.0, key_kept (d ∷ cs) xs more.1 (omega (arith, size, short)) bytes.1)
