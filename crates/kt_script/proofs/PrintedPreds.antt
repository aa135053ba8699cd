-- The printed tests of a scan are read as those tests.
use Rattle.std.proofs.Common.{◌≡◌, ℕ, zero, suc, ◌+◌, ◌<◌, ◌≤◌, List, [], ◌∷◌, ◌++◌, refl, sym, ap, subst, ◌∙◌, arith, length, map, Bool, true, false, Option, Some, None, Result, Ok, Err, length-append}
use Rattle.std.specs.Prelude.{◌==◌, if◌then◌else◌, codes}
use Rattle.std.specs.List.{list_all, cons_option, AllByRecursion}
use Rattle.std.specs.Option.{option_map}
use Rattle.std.proofs.lemmas.Bool.{eqb-true}
use Rattle.kt_base.specs.declared.cell.Kind.{Kind}
use Rattle.kt_base.specs.declared.cell.Cell.{Cell}
use Rattle.kt_base.specs.declared.literal.LiteralNo.{LiteralNo}
use Rattle.kt_base.specs.declared.literal.LiteralNo.TheVariants as no
use Rattle.kt_base.specs.Literals.{literal, cell_in}
use Rattle.kt_base.proofs.Values.{both_true}
use Rattle.kt_schema.specs.Names.{is_name}
use Rattle.kt_schema.specs.declared.column.Column.{Column}
use Rattle.kt_history.specs.declared.scan.Test.{Test}
use Rattle.kt_history.specs.declared.scan.Test.TheVariants as test
use Rattle.kt_history.specs.declared.scan.Pred.{Pred}
use Rattle.kt_script.specs.declared.asked.Sign.{Sign}
use Rattle.kt_script.specs.declared.asked.Sign.TheVariants.{Equal, Below, AtMost, Above, AtLeast}
use Rattle.kt_script.specs.Reasons.{sound, cell_or_null}
use Rattle.kt_script.specs.Writes.{is_sign, name_in, behind_name, column_named}
use Rattle.kt_script.specs.Scans.{Asked, compared, null, not_null, PredLine, or_equal, signed, null_asked, asked_at, taken_of, pred_at, preds_after, preds_in, with_preds, where_line, compared_reason, asked_no, preds_no, test_of, pred_of, preds_of}
use Rattle.kt_script.specs.Fit.{column_of, test_fits, tests_column, pred_fits}
use Rattle.kt_script.specs.Print.{ColumnFits, parted, test_words, words_under, pred_words, where_words, TestBytes}
use Rattle.kt_script.proofs.PrintedWords.{name_is}
use Rattle.kt_script.proofs.FormLaws.{Plain, zip_all, plain}
use Rattle.kt_script.proofs.Parted.{parted_each}
use Rattle.kt_script.proofs.PrintedCells.{ReadsAgain, compared_again, min_sound}
use Rattle.kt_script.proofs.PrintedTables.{IsNamed, Tabled, column_found}
use Rattle.kt_script.proofs.PrintedNames.{Known, name_before, behind_sign, name_alone, behind_alone, name_plain, sign_plain}

-- ---- tests

-- what is asked
abbrev pub asked_under : Column → Test → Asked
asked_under c (test.Eq x) = compared Equal (literal c.kind x)
asked_under c (test.Lt x) = compared Below (literal c.kind x)
asked_under c (test.Le x) = compared AtMost (literal c.kind x)
asked_under c (test.Gt x) = compared Above (literal c.kind x)
asked_under c (test.Ge x) = compared AtLeast (literal c.kind x)
asked_under c test.IsNull = null
asked_under c test.NotNull = not_null

-- a test of a column, which is read again
pub record TestRead (columns : List Column) (c : Column) (t : Test) : Type 0 where
  pub plain : AllByRecursion Plain (test_words c t)
  pub read : (ws : List (List ℕ)) → pred_at (test_words c t ++ ws) ≡ Some (record { name = c.name; asked = asked_under c t }, ws)
  pub no : asked_no (column_named columns c.name) (asked_under c t) ≡ sound
  pub is : pred_of (column_named columns c.name) (asked_under c t) ≡ Some (record { column = c.id; test = t })

-- no literal begins with an equals sign
no_equal : (k : Kind) (rest : List ℕ) → cell_in k (61 ∷ rest) ≡ Err no.Form
no_equal k [] = refl
no_equal k (b ∷ rest) = refl

form_ok : (x : Cell) → ◌≡◌ {A = Result Cell LiteralNo} (Err no.Form) (Ok x) → ⊥
form_ok x e = cc

strict_sign : (k : Kind) (x : Cell) (strict loose : Sign) (lit : List ℕ) → cell_in k lit ≡ Ok x → or_equal strict loose lit ≡ compared strict lit
strict_sign k x strict loose [] h = refl
strict_sign k x strict loose (b ∷ lit) h = by (b == 61) refl
  where
    by : (t : Bool) → (b == 61) ≡ t → (if t then compared loose lit else compared strict (b ∷ lit)) ≡ compared strict (b ∷ lit)
    by true e = absurd (form_ok x (sym (no_equal k lit) ∙ (ap (λ n. cell_in k (n ∷ lit)) (sym (eqb-true b 61 e)) ∙ h)))
    by false e = refl

-- a comparison
compared_read : (columns : List Column) (c : Column) (x : Cell) (t : Test) (b : ℕ) (rest : List ℕ) (sign : Sign) → Known columns c → ReadsAgain c.kind x → is_sign b ≡ true
    → Plain (c.name ++ b ∷ rest) → test_words c t ≡ (c.name ++ b ∷ rest) ∷ [] → asked_under c t ≡ compared sign (literal c.kind x) → signed (b ∷ rest) ≡ Some (compared sign (literal c.kind x))
    → test_of c (compared sign (literal c.kind x)) ≡ t → TestRead columns c t
compared_read columns c x t b rest sign known again is_sign_b word ws_are asked_is signed_is test_is =
    let n = name_is c.name known.fit.name in
    let w : List ℕ = c.name ++ b ∷ rest in
    let lit : List ℕ = literal c.kind x in
    let name : name_in w ≡ c.name = name_before c.name b rest n is_sign_b in
    let behind : behind_name w ≡ b ∷ rest = behind_sign c.name b rest n is_sign_b in
    record {
      plain = subst (AllByRecursion Plain) (sym ws_are) (word, tt);
      read = λ ws. ap (λ vs. pred_at (vs ++ ws)) ws_are ∙ (ap (λ m. if is_name m then option_map (taken_of m) (asked_at (signed (behind_name w)) ws) else None) name
          ∙ (ap (λ k. if k then option_map (taken_of c.name) (asked_at (signed (behind_name w)) ws) else None) known.fit.name
          ∙ (ap (λ z. option_map (taken_of c.name) (asked_at (signed z) ws)) behind ∙ (ap (λ o. option_map (taken_of c.name) (asked_at o ws)) signed_is ∙ ap (λ a. Some (taken_of c.name (a, ws))) (sym asked_is)))));
      no = ap (λ a. asked_no (column_named columns c.name) a) asked_is ∙ (ap (λ o. asked_no o (compared sign lit)) known.named ∙ ap compared_reason again.read);
      is = ap (λ a. pred_of (column_named columns c.name) a) asked_is ∙ (ap (λ o. pred_of o (compared sign lit)) known.named ∙ ap (λ u. Some (record { column = c.id; test = u })) test_is);
    }

value_again : (c : Column) (x : Cell) → ReadsAgain c.kind x → cell_or_null (cell_in c.kind (literal c.kind x)) ≡ x
value_again c x again = ap cell_or_null again.read

-- a name alone, and words behind it
name_read : (columns : List Column) (c : Column) (vs : List (List ℕ)) (asked : Asked) (ws : List (List ℕ)) → Known columns c → null_asked vs ≡ Some (asked, ws) → pred_at (c.name ∷ vs) ≡ Some (record { name = c.name; asked = asked }, ws)
name_read columns c vs asked ws known h =
    let n = name_is c.name known.fit.name in
    ap (λ m. if is_name m then option_map (taken_of m) (asked_at (signed (behind_name c.name)) vs) else None) (name_alone c.name n)
    ∙ (ap (λ k. if k then option_map (taken_of c.name) (asked_at (signed (behind_name c.name)) vs) else None) known.fit.name ∙ (ap (λ z. option_map (taken_of c.name) (asked_at (signed z) vs)) (behind_alone c.name n) ∙ ap (option_map (taken_of c.name)) h))

null_read : (columns : List Column) (c : Column) → Known columns c → TestRead columns c test.IsNull
null_read columns c known = record {
  plain = (name_plain c.name (name_is c.name known.fit.name), (plain (codes "is") refl refl, (plain (codes "null") refl refl, tt)));
  read = λ ws. name_read columns c (codes "is" ∷ codes "null" ∷ ws) null ws known refl;
  no = ap (λ o. asked_no o null) known.named;
  is = ap (λ o. pred_of o null) known.named;
}

not_null_read : (columns : List Column) (c : Column) → Known columns c → TestRead columns c test.NotNull
not_null_read columns c known = record {
  plain = (name_plain c.name (name_is c.name known.fit.name), (plain (codes "is") refl refl, (plain (codes "not") refl refl, (plain (codes "null") refl refl, tt))));
  read = λ ws. name_read columns c (codes "is" ∷ codes "not" ∷ codes "null" ∷ ws) not_null ws known refl;
  no = ap (λ o. asked_no o not_null) known.named;
  is = ap (λ o. pred_of o not_null) known.named;
}

test_read : (columns : List Column) (c : Column) (t : Test) → Known columns c → test_fits c t ≡ true → TestBytes t → TestRead columns c t
test_read columns c (test.Eq x) known fit bytes =
    let again = compared_again c x fit bytes in
    compared_read columns c x (test.Eq x) 61 (literal c.kind x) Equal known again refl (sign_plain c.name (61 ∷ []) (literal c.kind x) (name_is c.name known.fit.name) (omega arith, tt) again.plain) refl refl refl (ap test.Eq (value_again c x again))
test_read columns c (test.Lt x) known fit bytes =
    let again = compared_again c x fit bytes in
    compared_read columns c x (test.Lt x) 60 (literal c.kind x) Below known again refl (sign_plain c.name (60 ∷ []) (literal c.kind x) (name_is c.name known.fit.name) (omega arith, tt) again.plain) refl refl (ap Some (strict_sign c.kind x Below AtMost (literal c.kind x) again.read)) (ap test.Lt (value_again c x again))
test_read columns c (test.Le x) known fit bytes =
    let again = compared_again c x fit bytes in
    compared_read columns c x (test.Le x) 60 (61 ∷ literal c.kind x) AtMost known again refl (sign_plain c.name (60 ∷ 61 ∷ []) (literal c.kind x) (name_is c.name known.fit.name) (omega arith, (omega arith, tt)) again.plain) refl refl refl (ap test.Le (value_again c x again))
test_read columns c (test.Gt x) known fit bytes =
    let again = compared_again c x fit bytes in
    compared_read columns c x (test.Gt x) 62 (literal c.kind x) Above known again refl (sign_plain c.name (62 ∷ []) (literal c.kind x) (name_is c.name known.fit.name) (omega arith, tt) again.plain) refl refl (ap Some (strict_sign c.kind x Above AtLeast (literal c.kind x) again.read)) (ap test.Gt (value_again c x again))
test_read columns c (test.Ge x) known fit bytes =
    let again = compared_again c x fit bytes in
    compared_read columns c x (test.Ge x) 62 (61 ∷ literal c.kind x) AtLeast known again refl (sign_plain c.name (62 ∷ 61 ∷ []) (literal c.kind x) (name_is c.name known.fit.name) (omega arith, (omega arith, tt)) again.plain) refl refl refl (ap test.Ge (value_again c x again))
test_read columns c test.IsNull known fit bytes = null_read columns c known
test_read columns c test.NotNull known fit bytes = not_null_read columns c known

-- ---- the tests of a scan

-- a test of a scan, and the column that it is of
pub record PredRead (columns : List Column) (p : Pred) : Type 0 where
  pub c : Column
  pub test_is : TestRead columns c p.test
  pub words : pred_words columns p ≡ test_words c p.test
  pub id : c.id ≡ p.column

pred_read : (columns : List Column) (p : Pred) → Tabled columns → pred_fits columns p ≡ true → TestBytes p.test → PredRead columns p
pred_read columns p t fit bytes = by (column_of columns p.column) refl fit
  where
    by : (o : Option Column) → column_of columns p.column ≡ o → tests_column o p.test ≡ true → PredRead columns p
    by None is f = absurd cc
    by (Some c) is f =
        let found = column_found (Known columns) columns p.column c (zip_all (IsNamed columns) ColumnFits (Known columns) columns (λ d n g. record { named = n; fit = g }) t.named t.fit) is in
        record { c = c; test_is = test_read columns c p.test found.0 f bytes; words = ap (λ o. words_under o p.test) is; id = found.1 }

pub preds_read : (columns : List Column) (preds : List Pred) → Tabled columns → list_all (pred_fits columns) preds ≡ true → AllByRecursion (λ (p : Pred). TestBytes p.test) preds → AllByRecursion (PredRead columns) preds
preds_read columns [] t fit bytes = tt
preds_read columns (p ∷ preds) t fit bytes = let both = both_true (pred_fits columns p) (list_all (pred_fits columns) preds) fit in (pred_read columns p t both.0 bytes.0, preds_read columns preds t both.1 bytes.1)

-- the words of some tests
abbrev tests : List Column → List Pred → List (List ℕ)
tests columns preds = parted (codes "and") (map (pred_words columns) preds)

abbrev pub pred_lines : (columns : List Column) (preds : List Pred) → AllByRecursion (PredRead columns) preds → List PredLine
pred_lines columns [] all = []
pred_lines columns (p ∷ preds) all = record { name = all.0.c.name; asked = asked_under all.0.c p.test } ∷ pred_lines columns preds all.1

preds_again : (columns : List Column) (n : ℕ) (p : Pred) (preds : List Pred) (all : AllByRecursion (PredRead columns) (p ∷ preds)) → length preds < n → preds_in n (tests columns (p ∷ preds)) ≡ Some (pred_lines columns (p ∷ preds) all)
preds_again columns zero p preds all lt = absurd (omega arith)
preds_again columns (suc n) p [] all lt = ap (λ ws. preds_after (preds_in n) (pred_at (ws ++ []))) all.0.words ∙ ap (preds_after (preds_in n)) (all.0.test_is.read [])
preds_again columns (suc n) p (q ∷ preds) all lt =
    let pl : PredLine = record { name = all.0.c.name; asked = asked_under all.0.c p.test } in
    let behind : List (List ℕ) = codes "and" ∷ tests columns (q ∷ preds) in
    ap (λ ws. preds_after (preds_in n) (pred_at (ws ++ behind))) all.0.words ∙ (ap (preds_after (preds_in n)) (all.0.test_is.read behind) ∙ ap (option_map (λ ls. pl ∷ ls)) (preds_again columns n q preds all.1 (omega arith)))

words_some : (c : Column) (t : Test) → 1 ≤ length (test_words c t)
words_some c (test.Eq x) = omega arith
words_some c (test.Lt x) = omega arith
words_some c (test.Le x) = omega arith
words_some c (test.Gt x) = omega arith
words_some c (test.Ge x) = omega arith
words_some c test.IsNull = omega arith
words_some c test.NotNull = omega arith

pub preds_many : (columns : List Column) (p : Pred) (preds : List Pred) (all : AllByRecursion (PredRead columns) (p ∷ preds)) → length preds < length (tests columns (p ∷ preds))
preds_many columns p [] all =
    let some = words_some all.0.c p.test in
    let is = ap length all.0.words in
    let size : length (pred_words columns p ++ []) ≡ length (pred_words columns p) + 0 = length-append (pred_words columns p) [] in
    omega (arith, size, is, some)
preds_many columns p (q ∷ preds) all =
    let some = words_some all.0.c p.test in
    let is = ap length all.0.words in
    let rest : List (List ℕ) = tests columns (q ∷ preds) in
    let size : length (pred_words columns p ++ codes "and" ∷ rest) ≡ length (pred_words columns p) + length (codes "and" ∷ rest) = length-append (pred_words columns p) (codes "and" ∷ rest) in
    let later = preds_many columns q preds all.1 in
    omega (arith, size, is, some, later)

pub preds_sound : (columns : List Column) (preds : List Pred) (all : AllByRecursion (PredRead columns) preds) → preds_no columns (pred_lines columns preds all) ≡ sound
preds_sound columns [] all = refl
preds_sound columns (p ∷ preds) all = min_sound (asked_no (column_named columns all.0.c.name) (asked_under all.0.c p.test)) (preds_no columns (pred_lines columns preds all.1)) all.0.test_is.no (preds_sound columns preds all.1)

pub preds_are : (columns : List Column) (preds : List Pred) (all : AllByRecursion (PredRead columns) preds) → preds_of columns (pred_lines columns preds all) ≡ preds
preds_are columns [] all = refl
preds_are columns (p ∷ preds) all =
    ap (λ o. cons_option o (preds_of columns (pred_lines columns preds all.1))) all.0.test_is.is
    ∙ (ap (λ id. record { column = id; test = p.test } ∷ preds_of columns (pred_lines columns preds all.1)) all.0.id ∙ ap (λ ps. p ∷ ps) (preds_are columns preds all.1))

each_plain : (columns : List Column) (preds : List Pred) → AllByRecursion (PredRead columns) preds → AllByRecursion (AllByRecursion Plain) (map (pred_words columns) preds)
each_plain columns [] all = tt
each_plain columns (p ∷ preds) all = (subst (AllByRecursion Plain) (sym all.0.words) all.0.test_is.plain, each_plain columns preds all.1)

pub where_plain : (columns : List Column) (preds : List Pred) → AllByRecursion (PredRead columns) preds → AllByRecursion Plain (where_words columns preds)
where_plain columns [] all = tt
where_plain columns (p ∷ preds) all = (plain (codes "where") refl refl, parted_each Plain (codes "and") (map (pred_words columns) (p ∷ preds)) (plain (codes "and") refl refl) (each_plain columns (p ∷ preds) all))

pub where_again : (columns : List Column) (names : Option (List (List ℕ))) (preds : List Pred) (all : AllByRecursion (PredRead columns) preds) → where_line names (where_words columns preds) ≡ Some (record { names = names; preds = pred_lines columns preds all })
where_again columns names [] all = refl
where_again columns names (p ∷ preds) all = ap (with_preds names) (preds_again columns (length (tests columns (p ∷ preds))) p preds all (preds_many columns p preds all))
