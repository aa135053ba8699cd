-- What the words of operations say, a word at a time.
use Rattle.std.proofs.Common.{◌≡◌, ℕ, Bor, Option, Some, None, suc, ◌+◌, ◌<◌, ◌≤◌, add-one, drop, drop-cons, get_or, min, Bool, true, false, ◌||◌, List, [], ◌∷◌, ◌++◌, length, map, inl, inr, refl, sym, ap, ◌∙◌, arith, append_assoc}
use Rattle.std.specs.Prelude.{◌⊎◌, is_some, if◌then◌else◌, nat_lt, codes}
use Rattle.std.specs.List.{list_any, onto_first}
use Rattle.std.proofs.lemmas.Bool.{cases_lt}
use Rattle.std.proofs.lemmas.Bool.Decides.{nat_tests}
use Rattle.kt_base.specs.declared.cell.Cell.{Cell}
use Rattle.kt_base.specs.Literals.{same}
use Rattle.kt_schema.specs.declared.column.Column.{Column}
use Rattle.kt_history.specs.declared.operation.OpKind.{OpKind}
use Rattle.kt_history.specs.declared.operation.RowOp.{RowOp}
use Rattle.kt_script.specs.Reasons.{sound, reason_if}
use Rattle.kt_script.specs.Writes.{name_in, left_out_no, must_be_named, all_named_no, twice, op_no, op_of, op_key, ops_no, many_no, write_no, key_of, ops_of, ops_in, first_op, later_ops}
use Rattle.kt_script.proofs.Selections.{any_map}

-- the first operation and those behind it
pub ops_split : (words : List (List ℕ)) → ops_of words ≡ first_op words ∷ later_ops words
ops_split [] = refl
ops_split (w ∷ words) = by (same w (codes ";")) (ops_split words)
  where
    by : (t : Bool) → ops_of words ≡ first_op words ∷ later_ops words
        → (if t then [] ∷ ops_of words else onto_first w (ops_of words)) ≡ (if t then [] else w ∷ first_op words) ∷ (if t then ops_of words else later_ops words)
    by true e = refl
    by false e = ap (onto_first w) e

-- what stands at a place, and what is behind it
pub next_one : {A : Type 0} (xs : List A) (i : ℕ) (x : A) → i < length xs → x ≡ get_or xs i x → drop i xs ≡ x ∷ drop (i + 1) xs
next_one xs i x h e = rw add-one (drop-cons xs i x h ∙ ap (λ y. y ∷ drop (suc i) xs) (sym e))

-- the column at a place, and those behind it
pub next_column : (columns : List Column) (i : ℕ) (c : Column) → i < length columns → c ≡ get_or columns i c → drop i columns ≡ c ∷ drop (i + 1) columns
next_column columns i c h e = next_one columns i c h e

pub same_op : (k : OpKind) (key other : List ℕ) (cells more : List (ℕ × Cell)) → key ≡ other → cells ≡ more → ◌≡◌ {A = RowOp} (record { kind = k; key = key; cells = cells }) (record { kind = k; key = other; cells = more })
same_op k key other cells more e f = ap (λ (x : List ℕ). record { kind = k; key = x; cells = cells }) e ∙ ap (λ (x : List (ℕ × Cell)). record { kind = k; key = other; cells = x }) f

-- a reason that may hold is no less than itself, and no more than none
late : (test : Bool) (reason : ℕ) → reason ≤ sound → (reason ≤ reason_if test reason) × (reason_if test reason ≤ sound)
late true reason h = (omega arith, h)
late false reason h = (h, omega arith)

pub limit : (most n reason : ℕ) → ((most < n) × (reason_if (nat_lt most n) reason ≡ reason)) ⊎ ((n ≤ most) × (reason_if (nat_lt most n) reason ≡ sound))
limit most n reason = by (nat_lt most n) refl
  where
    by : (t : Bool) → nat_lt most n ≡ t → ((most < n) × (reason_if t reason ≡ reason)) ⊎ ((n ≤ most) × (reason_if t reason ≡ sound))
    by true e = inl (grind (arith, nat_tests), refl)
    by false e = inr (grind (arith, nat_tests), refl)

counted : (kept new more n a b q o r x y : ℕ) → kept ≤ 64 → new ≡ min 64 (kept + 1) → a ≡ min n q → b ≡ min a r
    → ((63 < kept) × (r ≡ 18)) ⊎ ((kept ≤ 63) × (r ≡ sound)) → ((64 < new + more) × (x ≡ 18)) ⊎ ((new + more ≤ 64) × (x ≡ sound)) → ((64 < kept + suc more) × (y ≡ 18)) ⊎ ((kept + suc more ≤ 64) × (y ≡ sound))
    → min b (min o x) ≡ min n (min (min q o) y)
counted kept new more n a b q o r x y few room la lb (inl f) (inl g) (inl h) = omega arith
counted kept new more n a b q o r x y few room la lb (inl f) (inl g) (inr h) = omega arith
counted kept new more n a b q o r x y few room la lb (inl f) (inr g) (inl h) = omega arith
counted kept new more n a b q o r x y few room la lb (inl f) (inr g) (inr h) = omega arith
counted kept new more n a b q o r x y few room la lb (inr f) (inl g) (inl h) = omega arith
counted kept new more n a b q o r x y few room la lb (inr f) (inl g) (inr h) = omega arith
counted kept new more n a b q o r x y few room la lb (inr f) (inr g) (inl h) = omega arith
counted kept new more n a b q o r x y few room la lb (inr f) (inr g) (inr h) = omega arith

-- once a reason up to 17 holds, the number of operations does not matter
early : (n a b q o r x y : ℕ) → b ≤ 17 → a ≡ min n q → b ≡ min a r → 18 ≤ r → 18 ≤ x → 18 ≤ y → min b (min o x) ≡ min n (min (min q o) y)
early n a b q o r x y low la lb lr lx ly = omega arith

-- one more operation
pub least_op : (columns : List Column) (words : List (List ℕ)) (rest : List (List (List ℕ))) (kept new n a b : ℕ) → rest ≡ later_ops words → kept ≤ 64
    → a ≡ min n (op_no columns (first_op words)) → b ≡ min a (reason_if (nat_lt 63 kept) 18) → (17 < b → new ≡ min 64 (kept + 1))
    → min b (min (ops_no columns rest) (many_no new rest)) ≡ min n (min (ops_no columns (ops_of words)) (many_no kept (ops_of words)))
least_op columns words rest kept new n a b is few la lb room =
    ap (λ ops. min b (min (ops_no columns ops) (many_no new ops))) is ∙ (step ∙ ap (λ ops. min n (min (ops_no columns ops) (many_no kept ops))) (sym (ops_split words)))
  where
    step : min b (min (ops_no columns (later_ops words)) (many_no new (later_ops words))) ≡ min n (min (min (op_no columns (first_op words)) (ops_no columns (later_ops words))) (many_no kept (first_op words ∷ later_ops words)))
    step = elim (cases_lt 17 b) [
      | inl lt ↦ counted kept new (length (later_ops words)) n a b (op_no columns (first_op words)) (ops_no columns (later_ops words)) (reason_if (nat_lt 63 kept) 18) (many_no new (later_ops words)) (many_no kept (first_op words ∷ later_ops words)) few (room lt) la lb (limit 63 kept 18) (limit 64 (new + length (later_ops words)) 18) (limit 64 (kept + suc (length (later_ops words))) 18)
      | inr past ↦ early n a b (op_no columns (first_op words)) (ops_no columns (later_ops words)) (reason_if (nat_lt 63 kept) 18) (many_no new (later_ops words)) (many_no kept (first_op words ∷ later_ops words)) past la lb
          (late (nat_lt 63 kept) 18 (omega arith)).0 (late (nat_lt 64 (new + length (later_ops words))) 18 (omega arith)).0 (late (nat_lt 64 (kept + suc (length (later_ops words)))) 18 (omega arith)).0
    ]

pub ops_more : (columns : List Column) (words : List (List ℕ)) (left rest : List (List (List ℕ))) (kept new all : List RowOp) (o : RowOp) → left ≡ ops_of words → rest ≡ later_ops words → o ≡ op_of columns (first_op words)
    → new ≡ kept ++ o ∷ [] → kept ++ map (op_of columns) left ≡ all → new ++ map (op_of columns) rest ≡ all
ops_more columns words left rest kept new all o begins is first next so =
    ap (λ xs. new ++ map (op_of columns) xs) is ∙ (ap (λ xs. xs ++ map (op_of columns) (later_ops words)) next ∙ (append_assoc kept (o ∷ []) (map (op_of columns) (later_ops words))
    ∙ (ap (λ x. kept ++ (x ∷ map (op_of columns) (later_ops words))) first ∙ (ap (λ ops. kept ++ map (op_of columns) ops) (sym (begins ∙ ops_split words)) ∙ so))))

pub ops_end : (columns : List Column) (n kept : ℕ) → kept ≤ 64 → min n (min (ops_no columns []) (many_no kept [])) ≡ min n sound
ops_end columns n kept few = by (limit 64 (kept + 0) 18)
  where
    by : ((64 < kept + 0) × (many_no kept [] ≡ 18)) ⊎ ((kept + 0 ≤ 64) × (many_no kept [] ≡ sound)) → min n (min sound (many_no kept [])) ≡ min n sound
    by (inl p) = absurd (omega arith)
    by (inr p) = omega (arith, p.1)

-- nothing is left behind an operation
pub none_in : (left : Option (Option (Bor (List ℕ)))) → is_some left ≡ false → ops_in left ≡ []
none_in None e = refl
none_in (Some rest) e = absurd cc

-- an operation that is alone
pub lone_ops : (columns : List Column) (words : List (List ℕ)) (left : List (List (List ℕ))) (kept all : List RowOp) (o : RowOp) → left ≡ ops_of words → [] ≡ later_ops words → o ≡ op_of columns (first_op words) → kept ≡ []
    → kept ++ map (op_of columns) left ≡ all → o ∷ [] ≡ all
lone_ops columns words left kept all o begins is first none so =
    ops_more columns words left [] [] (o ∷ []) all o begins is first refl (ap (λ (xs : List RowOp). xs ++ map (op_of columns) left) (sym none) ∙ so)

pub lone_least : (columns : List Column) (words : List (List ℕ)) (left : List (List (List ℕ))) (kept : List RowOp) (n a b m : ℕ) → left ≡ ops_of words → [] ≡ later_ops words → kept ≡ [] → a ≡ min n (op_no columns (first_op words))
    → b ≡ min a sound → min n (min (ops_no columns left) (many_no (length kept) left)) ≡ m → b ≡ m
lone_least columns words left kept n a b m begins is none la lb so =
    let step = least_op columns words [] 0 1 n a b is (omega arith) la lb (λ h. refl) in
    let same : b ≡ min b sound = omega (arith, lb) in
    same ∙ (sym (ops_end columns b 1 (omega arith)) ∙ (step ∙ (ap (λ ops. min n (min (ops_no columns ops) (many_no 0 ops))) (sym begins)
    ∙ (ap (λ k. min n (min (ops_no columns left) (many_no k left))) (sym (ap length none)) ∙ so))))

pub keys_same : (columns : List Column) (ops : List (List (List ℕ))) → map (λ (o : RowOp). o.key) (map (op_of columns) ops) ≡ map (op_key columns) ops
keys_same columns [] = refl
keys_same columns ([] ∷ ops) = ap (λ xs. [] ∷ xs) (keys_same columns ops)
keys_same columns ((w ∷ words) ∷ ops) = ap (λ xs. key_of columns words ∷ xs) (keys_same columns ops)

-- the reason of a write, after its operations
pub write_least : (columns : List Column) (words : List (List ℕ)) (ops : List RowOp) (n m : ℕ) → n ≡ min sound (min (ops_no columns (ops_of words)) (many_no 0 (ops_of words)))
    → (18 < n → ops ≡ map (op_of columns) (ops_of words)) → m ≡ min n (reason_if (twice (map (λ (o : RowOp). o.key) ops)) 19) → write_no columns words ≡ m
write_least columns words ops n m least kept last =
    let whole = ops_of words in
    let zero_more : 0 + length whole ≡ length whole = omega arith in
    let many : many_no 0 whole ≡ reason_if (nat_lt 64 (length whole)) 18 = ap (λ k. reason_if (nat_lt 64 k) 18) zero_more in
    let alike : 18 < n → reason_if (twice (map (λ (o : RowOp). o.key) ops)) 19 ≡ reason_if (twice (map (op_key columns) whole)) 19 =
    λ h. ap (λ keys. reason_if (twice keys) 19) (ap (map (λ (o : RowOp). o.key)) (kept h) ∙ keys_same columns whole) in
    let read = late (twice (map (λ (o : RowOp). o.key) ops)) 19 (omega arith) in
    let said = late (twice (map (op_key columns) whole)) 19 (omega arith) in
    by (ops_no columns whole) (reason_if (nat_lt 64 (length whole)) 18) _ _ (least ∙ ap (λ k. min sound (min (ops_no columns whole) k)) many) alike read.0 said.0 said.1 last (cases_lt 18 n)
  where
    by : (o k u t : ℕ) → n ≡ min sound (min o k) → (18 < n → u ≡ t) → 19 ≤ u → 19 ≤ t → t ≤ sound → m ≡ min n u → (18 < n) ⊎ (n ≤ 18) → min o (min k t) ≡ m
    by o k u t e alike read said most last (inl h) = let f = alike h in omega (arith, f)
    by o k u t e alike read said most last (inr h) = omega arith

-- the reason of the names of an upsert
pub row_names_least : (others : List Column) (rest names : List (List ℕ)) (old b m : ℕ) → b ≡ min old (all_named_no others [] rest) → (13 < b → names ≡ map name_in rest)
    → m ≡ min b (reason_if (list_any (must_be_named names) others) 15) → m ≡ min old (min (all_named_no others [] rest) (left_out_no others rest))
row_names_least others rest names old b m least named last =
    by (all_named_no others [] rest) _ (left_out_no others rest) least (late (list_any (must_be_named names) others) 15 (omega arith)).0 (late (list_any (must_be_named (map name_in rest)) others) 15 (omega arith)).0
    (λ h. ap (λ ns. reason_if (list_any (must_be_named ns) others) 15) (named h)) last (cases_lt 13 b)
  where
    by : (z u l : ℕ) → b ≡ min old z → 15 ≤ u → 15 ≤ l → (13 < b → u ≡ l) → m ≡ min b u → (13 < b) ⊎ (b ≤ 13) → m ≡ min old (min z l)
    by z u l q read said alike last (inl h) = let e = alike h in omega (arith, e)
    by z u l q read said alike last (inr h) = omega arith

-- whether one of some operations has the key of the one before them
pub twice_more : (left : List RowOp) (o : RowOp) (behind : List RowOp) (key : List ℕ) (b : Bool) → left ≡ o ∷ behind → key ≡ o.key → list_any (λ (p : RowOp). same key p.key) behind ≡ b
    → twice (map (λ (p : RowOp). p.key) left) ≡ (b || twice (map (λ (p : RowOp). p.key) behind))
twice_more left o behind key b is own found =
    ap (λ ops. twice (map (λ (p : RowOp). p.key) ops)) is ∙ ap (λ t. t || twice (map (λ (p : RowOp). p.key) behind)) (any_map (λ y. same o.key y) (λ (p : RowOp). p.key) behind ∙ (ap (λ k. list_any (λ (p : RowOp). same k p.key) behind) (sym own) ∙ found))
