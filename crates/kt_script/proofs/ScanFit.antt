-- A scan that no reason refuses names columns of the table alone.
use Rattle.std.proofs.Common.{◌≡◌, ℕ, suc, ◌+◌, ◌<◌, ◌≤◌, Bool, true, false, not, ◌&&◌, ◌||◌, List, [], ◌∷◌, ◌++◌, length, Option, Some, None, Result, Ok, Err, min, refl, sym, ap, subst, ◌∙◌, arith}
use Rattle.std.specs.Prelude.{is_some, if◌then◌else◌, ◌==◌, nat_lt, codes}
use Rattle.std.specs.List.{list_any, list_all, cons_option}
use Rattle.std.specs.Option.{option_map}
use Rattle.std.proofs.lemmas.Bool.{eqb-true, eq-eqb}
use Rattle.std.proofs.lemmas.Bool.Decides.{nat_tests}
use Rattle.std.proofs.lemmas.List.Folds.{list_any-append}
use Rattle.kt_base.specs.Literals.{same, cell_in}
use Rattle.kt_base.proofs.Values.{both, both_true}
use Rattle.kt_base.specs.declared.cell.Cell.{Cell}
use Rattle.kt_base.specs.declared.literal.LiteralNo.{LiteralNo}
use Rattle.kt_base.specs.declared.literal.LiteralNo.TheVariants as no
use Rattle.kt_key.specs.Fit.{has_kind}
use Rattle.kt_schema.specs.Rows.{is_null, is_long}
use Rattle.kt_schema.specs.Names.{is_name}
use Rattle.kt_schema.specs.declared.column.Column.{Column}
use Rattle.kt_history.specs.declared.scan.At.{At}
use Rattle.kt_history.specs.declared.scan.At.TheVariants.{Looked, Given}
use Rattle.kt_script.specs.Pieces.{cut}
use Rattle.kt_script.specs.Reasons.{sound, reason_if, cell_reason, cell_value}
use Rattle.kt_script.specs.Columns.{counts_from}
use Rattle.kt_script.specs.Writes.{column_named}
use Rattle.kt_script.specs.declared.asked.Sign.TheVariants.{Equal, Below, AtMost, Above, AtLeast}
use Rattle.kt_script.specs.Scans.{Asked, compared, null, not_null, PredLine, ScanLine, with_preds, tests_in, where_line, select_line, Timed, timed, line_no, timed_no, scan_no, name_no, names_no, preds_no, select_no, asked_no, compared_reason, id_of, ids_of, test_of, pred_of, preds_of, scan_said, timed_scan, scan_of}
use Rattle.kt_script.specs.Times.{most_time, at_no}
use Rattle.kt_script.specs.Fit.{compares, column_of, are_selected, selection_fits, test_fits, tests_column, pred_fits, AtFits, ScanFits}
use Rattle.kt_base.proofs.Decimals.{differ, same_text}
use Rattle.kt_script.proofs.Cuts.{some_piece}
use Rattle.kt_script.proofs.Cells.{cell_taken}

-- a column has the name by which it is found
pub name_is : (columns : List Column) (name : List ℕ) (c : Column) → column_named columns name ≡ Some c → c.name ≡ name
name_is [] name c e = absurd cc
name_is (x ∷ columns) name c e = by (same x.name name) refl e (name_is columns name c)
  where
    by : (b : Bool) → same x.name name ≡ b → (if b then Some x else column_named columns name) ≡ Some c → (column_named columns name ≡ Some c → c.name ≡ name) → c.name ≡ name
    by true t g later = let is : x ≡ c = cc in subst (λ (d : Column). d.name ≡ name) is (same_text x.name name t)
    by false t g later = later g

-- and it is found by its id
pub id_is : (n : ℕ) (columns : List Column) (name : List ℕ) (c : Column) → counts_from n columns ≡ true → column_named columns name ≡ Some c → (column_of columns c.id ≡ Some c) × (n ≤ c.id)
id_is n [] name c counts e = absurd cc
id_is n (x ∷ columns) name c counts e = by (same x.name name) e (id_is (n + 1) columns name c (both_true (x.id == n) (counts_from (n + 1) columns) counts).1)
  where
    first : x.id ≡ n
    first = eqb-true x.id n (both_true (x.id == n) (counts_from (n + 1) columns) counts).0

    by : (b : Bool) → (if b then Some x else column_named columns name) ≡ Some c → (column_named columns name ≡ Some c → (column_of columns c.id ≡ Some c) × (n + 1 ≤ c.id)) → (column_of (x ∷ columns) c.id ≡ Some c) × (n ≤ c.id)
    by true g later =
        let is : x ≡ c = cc in
        subst (λ (d : Column). ((if x.id == d.id then Some x else column_of columns d.id) ≡ Some d) × (n ≤ d.id)) is (ap (λ b. if b then Some x else column_of columns x.id) (eq-eqb x.id x.id refl), omega (arith, first))
    by false g later =
        let l = later g in
        let other : (x.id == c.id) ≡ false = grind (arith, nat_tests, first, l.1) in
        (ap (λ b. if b then Some x else column_of columns c.id) other ∙ l.0, omega (arith, l.1))

-- a name that is none of those before others
abbrev Apart : List (List ℕ) → List ℕ → Type 0
Apart seen n = (x : List ℕ) → list_any (λ s. same s x) seen ≡ false → same n x ≡ false

or_left : (a b : Bool) → (a || b) ≡ false → a ≡ false
or_left true b h = cc
or_left false b h = refl

or_right : (a b : Bool) → (a || b) ≡ false → b ≡ false
or_right true b h = cc
or_right false b h = h

apart_more : (seen : List (List ℕ)) (n m : List ℕ) → Apart seen n → Apart (seen ++ m ∷ []) n
apart_more seen n m a x h = a x (or_left _ _ (sym (list_any-append (λ s. same s x) seen (m ∷ [])) ∙ h))

apart_last : (seen : List (List ℕ)) (n : List ℕ) → Apart (seen ++ n ∷ []) n
apart_last seen n x h = or_left (same n x) false (or_right (list_any (λ s. same s x) seen) _ (sym (list_any-append (λ s. same s x) seen (n ∷ [])) ∙ h))

fresh : (b : Bool) → 14 ≤ reason_if b 13 → b ≡ false
fresh true h = absurd (omega arith)
fresh false h = refl

-- a name that no reason refuses has a column
pub found : (columns : List Column) (name : List ℕ) → 14 ≤ name_no columns name → (c : Column) × (column_named columns name ≡ Some c)
found columns name h = by (is_name name) (column_named columns name) refl h
  where
    by : (b : Bool) (o : Option Column) → column_named columns name ≡ o → 14 ≤ (if b then reason_if (not (is_some o)) 13 else 12) → (c : Column) × (column_named columns name ≡ Some c)
    by true None e g = absurd (omega arith)
    by true (Some c) e g = (c, e)
    by false o e g = absurd (omega arith)

pub ids_step : (columns : List Column) (name : List ℕ) (names : List (List ℕ)) (c : Column) → column_named columns name ≡ Some c → ids_of columns (name ∷ names) ≡ c.id ∷ ids_of columns names
ids_step columns name names c e = ap (λ o. cons_option (id_of o) (ids_of columns names)) e

-- a column's id is not among those of later names
later_ids : (columns : List Column) (seen names : List (List ℕ)) (name : List ℕ) (c : Column) → counts_from 1 columns ≡ true → column_named columns name ≡ Some c → Apart seen name → 14 ≤ names_no columns seen names
    → list_any (λ n. n == c.id) (ids_of columns names) ≡ false
later_ids columns seen [] name c counts e apart h = refl
later_ids columns seen (m ∷ names) name c counts e apart h =
    let d = found columns m (omega (arith, h)) in
    let more = later_ids columns (seen ++ m ∷ []) names name c counts e (apart_more seen name m apart) (omega (arith, h)) in
    let other : same name m ≡ false = apart m (fresh (list_any (λ n. same n m) seen) (omega (arith, h))) in
    ap (list_any (λ n. n == c.id)) (ids_step columns m names d.0 d.1) ∙ (ap (λ b. b || list_any (λ n. n == c.id) (ids_of columns names)) (by d.0 d.1 other (d.0.id == c.id) refl) ∙ more)
  where
    by : (x : Column) → column_named columns m ≡ Some x → same name m ≡ false → (b : Bool) → (x.id == c.id) ≡ b → (x.id == c.id) ≡ false
    by x f other false t = t
    by x f other true t =
        let ids : x.id ≡ c.id = eqb-true x.id c.id t in
        let one : Some x ≡ Some c = sym (id_is 1 columns m x counts f).0 ∙ (ap (column_of columns) ids ∙ (id_is 1 columns name c counts e).0) in
        let is : x ≡ c = cc in
        let names_is : m ≡ name = sym (name_is columns m x f) ∙ (ap (λ (y : Column). y.name) is ∙ name_is columns name c e) in
        absurd (differ name m (sym other) (sym names_is))

selected : (columns : List Column) (seen names : List (List ℕ)) → counts_from 1 columns ≡ true → 14 ≤ names_no columns seen names → are_selected columns (ids_of columns names) ≡ true
selected columns seen [] counts h = refl
selected columns seen (name ∷ names) counts h =
    let c = found columns name (omega (arith, h)) in
    let more = selected columns (seen ++ name ∷ []) names counts (omega (arith, h)) in
    let later = later_ids columns (seen ++ name ∷ []) names name c.0 counts c.1 (apart_last seen name) (omega (arith, h)) in
    ap (are_selected columns) (ids_step columns name names c.0 c.1)
    ∙ (ap (λ o. is_some o && (not (list_any (λ n. n == c.0.id) (ids_of columns names)) && are_selected columns (ids_of columns names))) (id_is 1 columns name c.0 counts c.1).0
    ∙ (ap (λ b. not b && are_selected columns (ids_of columns names)) later ∙ more))

-- a selection that has a name
abbrev Names : Option (List (List ℕ)) → Type 0
Names None = Unit {0}
Names (Some names) = 1 ≤ length names

selection : (columns : List Column) (names : Option (List (List ℕ))) → counts_from 1 columns ≡ true → Names names → 14 ≤ select_no columns names → selection_fits columns (option_map (ids_of columns) names) ≡ true
selection columns None counts some h = refl
selection columns (Some []) counts some h = absurd (omega arith)
selection columns (Some (name ∷ names)) counts some h =
    let c = found columns name (omega (arith, h)) in
    let size : length (ids_of columns (name ∷ names)) ≡ suc (length (ids_of columns names)) = ap length (ids_step columns name names c.0 c.1) in
    both _ _ (more (length (ids_of columns (name ∷ names))) (omega (arith, size))) (selected columns [] (name ∷ names) counts h)
  where
    more : (n : ℕ) → 1 ≤ n → not (n == 0) ≡ true
    more n g = grind (arith, nat_tests)

-- a literal that may be compared with is a cell of the column's kind
compared_fits : (c : Column) (word : List ℕ) → 18 ≤ compared_reason (cell_in c.kind word) → compares c (cell_value c.kind word) ≡ true
compared_fits c word h =
    let x = cell_value c.kind word in
    there (has_kind c.kind x) (is_null x) (not (is_long x)) (cell_taken (record { id = c.id; name = c.name; kind = c.kind; key = c.key; nullable = false; default = c.default }) word (never_null (cell_in c.kind word) h)).0
  where
    never_null : (r : Result Cell LiteralNo) → 18 ≤ compared_reason r → 17 < cell_reason false r
    never_null (Ok x) g = omega arith
    never_null (Err no.Form) g = absurd (omega arith)
    never_null (Err no.Null) g = absurd (omega arith)
    never_null (Err no.Kind) g = absurd (omega arith)
    never_null (Err no.Long) g = absurd (omega arith)
    never_null (Err no.Memory) g = omega arith

    there : (k n l : Bool) → ((k || (n && false)) && l) ≡ true → (k && l) ≡ true
    there true n l g = g
    there false true l g = g
    there false false l g = g

test_of_fits : (c : Column) (asked : Asked) → 18 ≤ asked_no (Some c) asked → test_fits c (test_of c asked) ≡ true
test_of_fits c (compared Equal literal) h = compared_fits c literal h
test_of_fits c (compared Below literal) h = compared_fits c literal h
test_of_fits c (compared AtMost literal) h = compared_fits c literal h
test_of_fits c (compared Above literal) h = compared_fits c literal h
test_of_fits c (compared AtLeast literal) h = compared_fits c literal h
test_of_fits c null h = refl
test_of_fits c not_null h = refl

pub not_there : (asked : Asked) → 18 ≤ asked_no None asked → ⊥
not_there (compared sign literal) h = omega (arith, h)
not_there null h = omega (arith, h)
not_there not_null h = omega (arith, h)

tests_fit : (columns : List Column) (preds : List PredLine) → counts_from 1 columns ≡ true → 18 ≤ preds_no columns preds → list_all (pred_fits columns) (preds_of columns preds) ≡ true
tests_fit columns [] counts h = refl
tests_fit columns (p ∷ preds) counts h = by (column_named columns p.name) refl (omega (arith, h)) (tests_fit columns preds counts (omega (arith, h)))
  where
    by : (o : Option Column) → column_named columns p.name ≡ o → 18 ≤ asked_no o p.asked → list_all (pred_fits columns) (preds_of columns preds) ≡ true → list_all (pred_fits columns) (cons_option (pred_of o p.asked) (preds_of columns preds)) ≡ true
    by None e g more = absurd (not_there p.asked g)
    by (Some c) e g more = ap (λ o. tests_column o (test_of c p.asked) && list_all (pred_fits columns) (preds_of columns preds)) (id_is 1 columns p.name c counts e).0 ∙ (ap (λ b. b && list_all (pred_fits columns) (preds_of columns preds)) (test_of_fits c p.asked g) ∙ more)

-- a time that is not too late
at_fits : (at : At) → sound ≤ at_no at → AtFits at
at_fits Looked h = tt
at_fits (Given t) h = low (nat_lt most_time t) refl h
  where
    low : (b : Bool) → nat_lt most_time t ≡ b → sound ≤ reason_if b 20 → t ≤ most_time
    low true e g = absurd (omega arith)
    low false e g = grind (arith, nat_tests)

-- the names of a line are those that are selected
names_where : (names : Option (List (List ℕ))) (words : List (List ℕ)) (l : ScanLine) → Names names → where_line names words ≡ Some l → Names l.names
names_where names words l some e = by (tests_in words) e
  where
    by : (o : Option (List PredLine)) → with_preds names o ≡ Some l → Names l.names
    by None g = absurd cc
    by (Some preds) g = let is : record { names = names; preds = preds } ≡ l = cc in subst (λ (x : ScanLine). Names x.names) is some

names_some : (words : List (List ℕ)) (l : ScanLine) → select_line words ≡ Some l → Names l.names
names_some [] l e = names_where None [] l tt e
names_some (word ∷ []) l e = absurd cc
names_some (word ∷ names ∷ words) l e = by (same word (codes "select")) e
  where
    by : (b : Bool) → (if b then where_line (Some (cut 44 names)) words else where_line None (word ∷ names ∷ words)) ≡ Some l → Names l.names
    by true g = let cuts = some_piece 44 names in names_where (Some (cut 44 names)) words l (omega (arith, ap length cuts.2)) g
    by false g = names_where None (word ∷ names ∷ words) l tt g

pub scan_fits : (columns : List Column) (words : List (List ℕ)) → counts_from 1 columns ≡ true → sound ≤ scan_no columns words → ScanFits columns (scan_of columns words)
scan_fits columns words counts h = by (timed words) h
  where
    lined : (at : At) (o : Option ScanLine) → ((l : ScanLine) → o ≡ Some l → Names l.names) → sound ≤ min (at_no at) (line_no columns o) → ScanFits columns (scan_said columns at o)
    lined at None some g = absurd (omega (arith, g))
    lined at (Some l) some g = record { time = at_fits at (omega (arith, g)); columns_there = selection columns l.names counts (some l refl) (omega (arith, g)); preds = tests_fit columns l.preds counts (omega (arith, g)) }

    by : (o : Option Timed) → sound ≤ timed_no columns o → ScanFits columns (timed_scan columns o)
    by None g = absurd (omega (arith, g))
    by (Some said) g = lined said.0 (select_line said.1) (names_some said.1) g
