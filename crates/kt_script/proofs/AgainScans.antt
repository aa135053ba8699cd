-- A scan or mark line that no reason refuses is what is printed of what it says.
use Rattle.std.proofs.Common.{◌≡◌, ℕ, zero, suc, ◌+◌, ◌≤◌, Bool, true, false, ◌||◌, List, [], ◌∷◌, ◌++◌, length, take, drop, map, Option, Some, None, Result, Ok, Err, cond, not, refl, sym, ap, subst, ◌∙◌, arith}
use mathlib.Core.List.{append-nil}
use Rattle.std.specs.Prelude.{pos, if◌then◌else◌, ◌==◌, nat_lt, codes}
use Rattle.std.specs.List.{onto_first, position_or_len, cons_option}
use Rattle.std.specs.Option.{option_map}
use Rattle.std.specs.Fmt.{decimal}
use Rattle.std.proofs.lemmas.Bool.{eqb-true}
use Rattle.std.proofs.lemmas.Bool.Decides.{nat_tests}
use Rattle.kt_base.specs.declared.cell.Kind.{Kind}
use Rattle.kt_base.specs.declared.cell.Cell.{Cell}
use Rattle.kt_base.specs.declared.literal.LiteralNo.{LiteralNo}
use Rattle.kt_base.specs.declared.literal.LiteralNo.TheVariants as no
use Rattle.kt_base.specs.Literals.{same, is_count, count_on, literal, value_in, cell_in}
use Rattle.kt_base.proofs.Decimals.{same_text}
use Rattle.kt_base.proofs.Values.{number_text}
use Rattle.kt_base.proofs.Literals.{all_spelled}
use Rattle.kt_schema.specs.Names.{is_name}
use Rattle.kt_schema.specs.declared.column.Column.{Column}
use Rattle.kt_history.specs.declared.scan.At.{At}
use Rattle.kt_history.specs.declared.scan.At.TheVariants.{Looked, Given}
use Rattle.kt_history.specs.declared.scan.Pred.{Pred}
use Rattle.kt_script.specs.declared.asked.Sign.{Sign}
use Rattle.kt_script.specs.declared.asked.Sign.TheVariants.{Equal, Below, AtMost, Above, AtLeast}
use Rattle.kt_script.specs.Pieces.{cut}
use Rattle.kt_script.specs.Reasons.{sound, reason_if, cell_or_null, cell_value}
use Rattle.kt_script.specs.Columns.{counts_from, IsTable}
use Rattle.kt_script.specs.Times.{most_time, time_in, late_no, time_no, time_or_zero, mark_no, mark_of, at_no}
use Rattle.kt_script.specs.Writes.{is_sign, name_in, behind_name, column_named}
use Rattle.kt_script.specs.Scans.{Asked, compared, null, not_null, PredLine, or_equal, signed, Taken, Asking, null_asked, asked_at, taken_of, pred_at, behind_pred, preds_after, preds_in, ScanLine, with_preds, tests_in, where_line, select_line, Timed, given, timed, names_no, compared_reason, asked_no, preds_no, select_no, line_no, timed_no, scan_no, ids_of, test_of, pred_of, preds_of, scan_said, timed_scan, scan_of}
use Rattle.kt_script.specs.Fit.{column_of}
use Rattle.kt_script.specs.Print.{joined, parted, name_of, test_words, words_under, pred_words, at_words, names_word, select_words, where_words, scan_words}
use Rattle.kt_script.proofs.Cuts.{some_piece}
use Rattle.kt_script.proofs.Preds.{null_is}
use Rattle.kt_script.proofs.EachKind.{or_memory}
use Rattle.kt_script.proofs.TimeWords.{unsigned}
use Rattle.kt_script.proofs.Cells.{name_behind}
use Rattle.kt_script.proofs.ScanFit.{name_is, id_is, found, ids_step, not_there}

-- ---- times

not_later : (t : ℕ) → sound ≤ late_no t → t ≤ most_time
not_later t h = by (nat_lt most_time t) refl h
  where
    by : (b : Bool) → nat_lt most_time t ≡ b → sound ≤ reason_if b 20 → t ≤ most_time
    by true e g = absurd (omega arith)
    by false e g = grind (arith, nat_tests)

-- a word that names a time is that time's number
time_is : (word : List ℕ) (t : ℕ) → time_in word ≡ Some t → sound ≤ late_no t → word ≡ decimal t
time_is word t e h = by (is_count word) refl e
  where
    by : (b : Bool) → is_count word ≡ b → (if b then Some (count_on 0 word) else None) ≡ Some t → word ≡ decimal t
    by true counts g =
        let is : count_on 0 word ≡ t = cc in
        let low = not_later t h in
        number_text word (pos (count_on 0 word)) (unsigned word counts) (omega (arith, is, low)) ∙ ap decimal is
    by false counts g = absurd cc

pub mark_again : (ws : List (List ℕ)) → sound ≤ mark_no ws → decimal (mark_of ws) ∷ [] ≡ ws
mark_again [] h = absurd (omega (arith, h))
mark_again (word ∷ []) h = by (time_in word) refl h
  where
    by : (o : Option ℕ) → time_in word ≡ o → sound ≤ time_no o → decimal (time_or_zero o) ∷ [] ≡ word ∷ []
    by None e g = absurd (omega arith)
    by (Some t) e g = ap (λ x. x ∷ []) (sym (time_is word t e (omega (arith, g))))
mark_again (word ∷ more ∷ later) h = absurd (omega (arith, h))

-- when a scan reads
timed_said : (ws : List (List ℕ)) (t : Timed) → timed ws ≡ Some t → sound ≤ at_no t.0 → ws ≡ at_words t.0 ++ t.1
timed_said [] t e h = absurd cc
timed_said (word ∷ ws) t e h = by (same word (codes "now")) (same word (codes "at")) refl refl e
  where
    at_time : (vs : List (List ℕ)) → given vs ≡ Some t → codes "at" ∷ vs ≡ at_words t.0 ++ t.1
    at_time [] g = absurd cc
    at_time (v ∷ vs) g = by_time (time_in v) refl g
      where
        by_time : (o : Option ℕ) → time_in v ≡ o → option_map (λ n. (Given n, vs)) o ≡ Some t → codes "at" ∷ v ∷ vs ≡ at_words t.0 ++ t.1
        by_time None i f = absurd cc
        by_time (Some n) i f =
            let is : ◌≡◌ {A = Timed} (Given n, vs) t = cc in
            let low : sound ≤ late_no n = subst (λ (x : Timed). sound ≤ at_no x.0) (sym is) h in
            subst (λ (x : Timed). codes "at" ∷ v ∷ vs ≡ at_words x.0 ++ x.1) is (ap (λ x. codes "at" ∷ x ∷ vs) (time_is v n i low))

    by : (now at : Bool) → same word (codes "now") ≡ now → same word (codes "at") ≡ at → (if now then Some (Looked, ws) else (if at then given ws else None)) ≡ Some t → word ∷ ws ≡ at_words t.0 ++ t.1
    by true at n a g = let is : ◌≡◌ {A = Timed} (Looked, ws) t = cc in subst (λ (x : Timed). word ∷ ws ≡ at_words x.0 ++ x.1) is (ap (λ w. w ∷ ws) (same_text word (codes "now") n))
    by false true n a g = ap (λ w. w ∷ ws) (same_text word (codes "at") a) ∙ at_time ws g
    by false false n a g = absurd cc

-- ---- a test

abbrev sign_text : Sign → List ℕ
sign_text Equal = codes "="
sign_text Below = codes "<"
sign_text AtMost = codes "<="
sign_text Above = codes ">"
sign_text AtLeast = codes ">="

-- the words of what is asked of a name
abbrev asked_words : List ℕ → Asked → List (List ℕ)
asked_words name (compared sign text) = (name ++ (sign_text sign ++ text)) ∷ []
asked_words name null = name ∷ codes "is" ∷ codes "null" ∷ []
asked_words name not_null = name ∷ codes "is" ∷ codes "not" ∷ codes "null" ∷ []

abbrev line_words : PredLine → List (List ℕ)
line_words p = asked_words p.name p.asked

or_equal_is : (name : List ℕ) (strict loose : Sign) (byte : ℕ) (rest : List ℕ) → sign_text strict ≡ byte ∷ [] → sign_text loose ≡ byte ∷ 61 ∷ [] → asked_words name (or_equal strict loose rest) ≡ (name ++ byte ∷ rest) ∷ []
or_equal_is name strict loose byte [] s l = ap (λ x. (name ++ (x ++ [])) ∷ []) s
or_equal_is name strict loose byte (b ∷ rest) s l = by (b == 61) refl
  where
    by : (t : Bool) → (b == 61) ≡ t → asked_words name (if t then compared loose rest else compared strict (b ∷ rest)) ≡ (name ++ byte ∷ b ∷ rest) ∷ []
    by true e = ap (λ x. (name ++ (x ++ rest)) ∷ []) l ∙ ap (λ x. (name ++ byte ∷ x ∷ rest) ∷ []) (sym (eqb-true b 61 e))
    by false e = ap (λ x. (name ++ (x ++ b ∷ rest)) ∷ []) s

signed_is : (name bytes : List ℕ) (asked : Asked) → signed bytes ≡ Some asked → (name ++ bytes) ∷ [] ≡ asked_words name asked
signed_is name [] asked e = absurd cc
signed_is name (b ∷ rest) asked e = by (b == 61) (b == 60) (b == 62) refl refl refl e
  where
    just : (a : Asked) → ◌≡◌ {A = Option Asked} (Some a) (Some asked) → asked_words name a ≡ asked_words name asked
    just a g = let is : a ≡ asked = cc in ap (asked_words name) is

    begins : (n : ℕ) → (b == n) ≡ true → (name ++ b ∷ rest) ∷ [] ≡ (name ++ n ∷ rest) ∷ []
    begins n p = ap (λ x. (name ++ x ∷ rest) ∷ []) (eqb-true b n p)

    by : (x y z : Bool) → (b == 61) ≡ x → (b == 60) ≡ y → (b == 62) ≡ z → (if x then Some (compared Equal rest) else (if y then Some (or_equal Below AtMost rest) else (if z then Some (or_equal Above AtLeast rest) else None))) ≡ Some asked → (name ++ b ∷ rest) ∷ [] ≡ asked_words name asked
    by true y z p q r g = begins 61 p ∙ just (compared Equal rest) g
    by false true z p q r g = begins 60 q ∙ (sym (or_equal_is name Below AtMost 60 rest refl refl) ∙ just (or_equal Below AtMost rest) g)
    by false false true p q r g = begins 62 r ∙ (sym (or_equal_is name Above AtLeast 62 rest refl refl) ∙ just (or_equal Above AtLeast rest) g)
    by false false false p q r g = absurd cc

-- what begins with a sign asks
asks : (b : ℕ) (rest : List ℕ) → is_sign b ≡ true → signed (b ∷ rest) ≡ None → ⊥
asks b rest h e = by (b == 61) (b == 60) (b == 62) h e
  where
    by : (x y z : Bool) → (x || (y || z)) ≡ true → (if x then Some (compared Equal rest) else (if y then Some (or_equal Below AtMost rest) else (if z then Some (or_equal Above AtLeast rest) else None))) ≡ None → ⊥
    by true y z g f = cc
    by false true z g f = cc
    by false false true g f = cc
    by false false false g f = cc

-- what stands behind a name is nothing, or begins with a sign
no_more : (word : List ℕ) → signed (drop (position_or_len is_sign word) word) ≡ None → drop (position_or_len is_sign word) word ≡ []
no_more [] e = refl
no_more (b ∷ word) e = by (is_sign b) refl e (no_more word)
  where
    by : (t : Bool) → is_sign b ≡ t → signed (drop (cond (not t) (1 + position_or_len is_sign word) 0) (b ∷ word)) ≡ None → (signed (drop (position_or_len is_sign word) word) ≡ None → drop (position_or_len is_sign word) word ≡ [])
        → drop (cond (not t) (1 + position_or_len is_sign word) 0) (b ∷ word) ≡ []
    by true s g later = absurd (asks b word s g)
    by false s g later =
        let next : 1 + position_or_len is_sign word ≡ suc (position_or_len is_sign word) = omega arith in
        let step : drop (1 + position_or_len is_sign word) (b ∷ word) ≡ drop (position_or_len is_sign word) word = ap (λ n. drop n (b ∷ word)) next in
        step ∙ later (ap signed (sym step) ∙ g)

taken_drop : (n : ℕ) (xs : List ℕ) → drop (length (take n xs)) xs ≡ drop n xs
taken_drop zero xs = refl
taken_drop (suc n) [] = refl
taken_drop (suc n) (x ∷ xs) = taken_drop n xs

behind_is : (word : List ℕ) → behind_name word ≡ drop (position_or_len is_sign word) word
behind_is word = taken_drop (position_or_len is_sign word) word

name_only : (word : List ℕ) → signed (behind_name word) ≡ None → word ≡ name_in word
name_only word none = name_behind word ∙ (ap (λ x. name_in word ++ x) (behind_is word ∙ no_more word (ap signed (sym (behind_is word)) ∙ none)) ∙ append-nil (name_in word))

-- the words of a test, and those behind it
abbrev taken_words : Taken → List (List ℕ)
taken_words t = line_words t.0 ++ t.1

null_said : (name : List ℕ) (ws : List (List ℕ)) (x : Asking) → null_asked ws ≡ Some x → name ∷ ws ≡ taken_words (taken_of name x)
null_said name ws x e = null_is (λ vs y. name ∷ vs ≡ taken_words (taken_of name y)) ws x (λ vs. refl) (λ vs. refl) e

pred_said : (ws : List (List ℕ)) (t : Taken) → pred_at ws ≡ Some t → ws ≡ taken_words t
pred_said [] t e = absurd cc
pred_said (word ∷ ws) t e = by (is_name (name_in word)) (signed (behind_name word)) refl e
  where
    name : List ℕ
    name = name_in word

    made : (x : Asking) → ◌≡◌ {A = Option Taken} (Some (taken_of name x)) (Some t) → taken_words (taken_of name x) ≡ taken_words t
    made x g = let is : taken_of name x ≡ t = cc in ap taken_words is

    asked : (o : Option Asking) → signed (behind_name word) ≡ None → null_asked ws ≡ o → option_map (taken_of name) o ≡ Some t → word ∷ ws ≡ taken_words t
    asked None s i g = absurd cc
    asked (Some x) s i g = ap (λ y. y ∷ ws) (name_only word s) ∙ (null_said name ws x i ∙ made x g)

    by : (b : Bool) (o : Option Asked) → signed (behind_name word) ≡ o → (if b then option_map (taken_of name) (asked_at o ws) else None) ≡ Some t → word ∷ ws ≡ taken_words t
    by true None s g = asked (null_asked ws) s refl g
    by true (Some question) s g = ap (λ x. x ∷ ws) (name_behind word) ∙ (ap (λ x. x ++ ws) (signed_is name (behind_name word) question s) ∙ made (question, ws) g)
    by false o s g = absurd cc

-- ---- the tests

-- the words of some tests
record PredsSaid (ws : List (List ℕ)) (preds : List PredLine) : Type 0 where
  first : PredLine
  later : List PredLine
  is : preds ≡ first ∷ later
  words : ws ≡ parted (codes "and") (map line_words (first ∷ later))

preds_said : (n : ℕ) (ws : List (List ℕ)) (preds : List PredLine) → preds_in n ws ≡ Some preds → PredsSaid ws preds
preds_said zero ws preds e = absurd cc
preds_said (suc n) ws preds e = by (pred_at ws) refl e (λ vs ps g. preds_said n vs ps g)
  where
    behind : (p : PredLine) (rest : List (List ℕ)) → ws ≡ line_words p ++ rest → behind_pred (preds_in n) p rest ≡ Some preds → ((vs : List (List ℕ)) (ps : List PredLine) → preds_in n vs ≡ Some ps → PredsSaid vs ps) → PredsSaid ws preds
    behind p [] words g later = record { first = p; later = []; is = cc; words = words }
    behind p (word ∷ rest) words g later = joins (same word (codes "and")) (preds_in n rest) refl refl g
      where
        joins : (b : Bool) (o : Option (List PredLine)) → same word (codes "and") ≡ b → preds_in n rest ≡ o → (if b then option_map (λ ps. p ∷ ps) o else None) ≡ Some preds → PredsSaid ws preds
        joins true None a o_is f = absurd cc
        joins true (Some ps) a o_is f =
            let s = later rest ps o_is in
            record {
              first = p;
              later = ps;
              is = cc;
              words = words ∙ (ap (λ w. line_words p ++ w ∷ rest) (same_text word (codes "and") a) ∙ (ap (λ x. line_words p ++ codes "and" ∷ x) s.words ∙ ap (λ qs. parted (codes "and") (map line_words (p ∷ qs))) (sym s.is)));
            }
        joins false o a o_is f = absurd cc

    by : (o : Option Taken) → pred_at ws ≡ o → preds_after (preds_in n) o ≡ Some preds → ((vs : List (List ℕ)) (ps : List PredLine) → preds_in n vs ≡ Some ps → PredsSaid vs ps) → PredsSaid ws preds
    by None i g later = absurd cc
    by (Some t) i g later = behind t.0 t.1 (pred_said ws t i) g later

-- a literal that is compared with is the spelling of its cell
value_is : (k : Kind) (text : List ℕ) → sound ≤ compared_reason (cell_in k text) → literal k (cell_value k text) ≡ text
value_is k text h = by (cell_in k text) refl h
  where
    by : (r : Result Cell LiteralNo) → cell_in k text ≡ r → sound ≤ compared_reason r → literal k (cell_or_null r) ≡ text
    by (Ok x) e g = sym (all_spelled k x text e).spelled
    by (Err no.Form) e g = absurd (omega arith)
    by (Err no.Null) e g = absurd (omega arith)
    by (Err no.Kind) e g = absurd (omega arith)
    by (Err no.Long) e g = absurd (omega arith)
    by (Err no.Memory) e g = absurd (or_memory k (value_in text) e)

test_is : (c : Column) (asked : Asked) → sound ≤ asked_no (Some c) asked → test_words c (test_of c asked) ≡ asked_words c.name asked
test_is c (compared Equal text) h = ap (λ x. (c.name ++ (codes "=" ++ x)) ∷ []) (value_is c.kind text h)
test_is c (compared Below text) h = ap (λ x. (c.name ++ (codes "<" ++ x)) ∷ []) (value_is c.kind text h)
test_is c (compared AtMost text) h = ap (λ x. (c.name ++ (codes "<=" ++ x)) ∷ []) (value_is c.kind text h)
test_is c (compared Above text) h = ap (λ x. (c.name ++ (codes ">" ++ x)) ∷ []) (value_is c.kind text h)
test_is c (compared AtLeast text) h = ap (λ x. (c.name ++ (codes ">=" ++ x)) ∷ []) (value_is c.kind text h)
test_is c null h = refl
test_is c not_null h = refl

preds_again : (columns : List Column) (preds : List PredLine) → counts_from 1 columns ≡ true → sound ≤ preds_no columns preds → map (pred_words columns) (preds_of columns preds) ≡ map line_words preds
preds_again columns [] counts h = refl
preds_again columns (p ∷ preds) counts h = by (column_named columns p.name) refl (omega (arith, h)) (preds_again columns preds counts (omega (arith, h)))
  where
    by : (o : Option Column) → column_named columns p.name ≡ o → sound ≤ asked_no o p.asked → map (pred_words columns) (preds_of columns preds) ≡ map line_words preds
        → map (pred_words columns) (cons_option (pred_of o p.asked) (preds_of columns preds)) ≡ line_words p ∷ map line_words preds
    by None e g later = absurd (not_there p.asked (omega (arith, g)))
    by (Some c) e g later =
        let column : column_of columns c.id ≡ Some c = (id_is 1 columns p.name c counts e).0 in
        let words : pred_words columns (record { column = c.id; test = test_of c p.asked }) ≡ line_words p = ap (λ o. words_under o (test_of c p.asked)) column ∙ (test_is c p.asked g ∙ ap (λ n. asked_words n p.asked) (name_is columns p.name c e)) in
        ap (λ x. x ∷ map (pred_words columns) (preds_of columns preds)) words ∙ ap (λ xs. line_words p ∷ xs) later

where_some : (columns : List Column) (preds : List Pred) (ws : List (List ℕ)) (more : List (List (List ℕ))) → map (pred_words columns) preds ≡ ws ∷ more → where_words columns preds ≡ codes "where" ∷ parted (codes "and") (ws ∷ more)
where_some columns [] ws more e = absurd cc
where_some columns (p ∷ preds) ws more e = ap (λ xs. codes "where" ∷ parted (codes "and") xs) e

tests_said : (columns : List Column) (ws : List (List ℕ)) (preds : List PredLine) → counts_from 1 columns ≡ true → tests_in ws ≡ Some preds → sound ≤ preds_no columns preds → ws ≡ where_words columns (preds_of columns preds)
tests_said columns [] preds counts e h = let is : [] ≡ preds = cc in ap (λ ps. where_words columns (preds_of columns ps)) is
tests_said columns (word ∷ ws) preds counts e h = by (same word (codes "where")) refl e
  where
    by : (b : Bool) → same word (codes "where") ≡ b → (if b then preds_in (length ws) ws else None) ≡ Some preds → word ∷ ws ≡ where_words columns (preds_of columns preds)
    by true w g =
        let s = preds_said (length ws) ws preds g in
        ap (λ x. x ∷ ws) (same_text word (codes "where") w)
        ∙ (ap (λ x. codes "where" ∷ x) s.words ∙ sym (where_some columns (preds_of columns preds) (line_words s.first) (map line_words s.later) (preds_again columns preds counts h ∙ ap (map line_words) s.is)))
    by false w g = absurd cc

-- ---- the selected names

-- pieces with the byte between each two of them are the whole
cut_again : (byte : ℕ) (xs : List ℕ) → joined (byte ∷ []) (cut byte xs) ≡ xs
cut_again byte [] = refl
cut_again byte (x ∷ xs) = by (x == byte) refl (cut_again byte xs) (some_piece byte xs)
  where
    by : (t : Bool) → (x == byte) ≡ t → joined (byte ∷ []) (cut byte xs) ≡ xs → (piece : List ℕ) × (pieces : List (List ℕ)) × (cut byte xs ≡ piece ∷ pieces) → joined (byte ∷ []) (if t then [] ∷ cut byte xs else onto_first x (cut byte xs)) ≡ x ∷ xs
    by true e later some =
        ap (λ ps. joined (byte ∷ []) ([] ∷ ps)) some.2 ∙ (ap (λ ps. byte ∷ joined (byte ∷ []) ps) (sym some.2) ∙ (ap (λ ys. byte ∷ ys) later ∙ ap (λ b. b ∷ xs) (sym (eqb-true x byte e))))
    by false e later some = ap (λ ps. joined (byte ∷ []) (onto_first x ps)) some.2 ∙ (ap (λ ps. x ∷ joined (byte ∷ []) ps) (sym some.2) ∙ ap (λ ys. x ∷ ys) later)

names_again : (columns : List Column) (seen names : List (List ℕ)) → counts_from 1 columns ≡ true → sound ≤ names_no columns seen names → map (λ id. name_of (column_of columns id)) (ids_of columns names) ≡ names
names_again columns seen [] counts h = refl
names_again columns seen (name ∷ names) counts h =
    let c = found columns name (omega (arith, h)) in
    let later = names_again columns (seen ++ name ∷ []) names counts (omega (arith, h)) in
    ap (map (λ id. name_of (column_of columns id))) (ids_step columns name names c.0 c.1)
    ∙ (ap (λ o. name_of o ∷ map (λ id. name_of (column_of columns id)) (ids_of columns names)) (id_is 1 columns name c.0 counts c.1).0
    ∙ (ap (λ n. n ∷ map (λ id. name_of (column_of columns id)) (ids_of columns names)) (name_is columns name c.0 c.1) ∙ ap (λ ns. name ∷ ns) later))

-- ---- a scan

where_said : (columns : List Column) (names : Option (List (List ℕ))) (ws : List (List ℕ)) (l : ScanLine) → counts_from 1 columns ≡ true → where_line names ws ≡ Some l → sound ≤ preds_no columns l.preds
    → (names ≡ l.names) × (ws ≡ where_words columns (preds_of columns l.preds))
where_said columns names ws l counts e h = by (tests_in ws) refl e
  where
    by : (o : Option (List PredLine)) → tests_in ws ≡ o → with_preds names o ≡ Some l → (names ≡ l.names) × (ws ≡ where_words columns (preds_of columns l.preds))
    by None i g = absurd cc
    by (Some preds) i g =
        let is : record { names = names; preds = preds } ≡ l = cc in
        subst (λ (x : ScanLine). sound ≤ preds_no columns x.preds → (names ≡ x.names) × (ws ≡ where_words columns (preds_of columns x.preds))) is (λ low. (refl, tests_said columns ws preds counts i low)) h

-- what is printed behind the time
abbrev behind_time : List Column → ScanLine → List (List ℕ)
behind_time columns l = select_words columns (option_map (ids_of columns) l.names) ++ where_words columns (preds_of columns l.preds)

none_selected : (columns : List Column) (ws : List (List ℕ)) (l : ScanLine) → counts_from 1 columns ≡ true → where_line None ws ≡ Some l → sound ≤ line_no columns (Some l) → ws ≡ behind_time columns l
none_selected columns ws l counts e h =
    let s = where_said columns None ws l counts e (omega (arith, h)) in
    s.1 ∙ ap (λ ns. select_words columns (option_map (ids_of columns) ns) ++ where_words columns (preds_of columns l.preds)) s.0

some_selected : (columns : List Column) (names : List ℕ) (ws : List (List ℕ)) (l : ScanLine) → counts_from 1 columns ≡ true → where_line (Some (cut 44 names)) ws ≡ Some l → sound ≤ line_no columns (Some l)
    → codes "select" ∷ names ∷ ws ≡ behind_time columns l
some_selected columns names ws l counts e h =
    let s = where_said columns (Some (cut 44 names)) ws l counts e (omega (arith, h)) in
    let known : sound ≤ names_no columns [] (cut 44 names) = subst (λ ns. sound ≤ select_no columns ns) (sym s.0) (omega (arith, h)) in
    let text : names_word columns (ids_of columns (cut 44 names)) ≡ names = ap (joined (codes ",")) (names_again columns [] (cut 44 names) counts known) ∙ cut_again 44 names in
    ap (λ x. codes "select" ∷ names ∷ x) s.1
    ∙ (ap (λ x. codes "select" ∷ x ∷ where_words columns (preds_of columns l.preds)) (sym text) ∙ ap (λ ns. select_words columns (option_map (ids_of columns) ns) ++ where_words columns (preds_of columns l.preds)) s.0)

line_said : (columns : List Column) (ws : List (List ℕ)) (l : ScanLine) → counts_from 1 columns ≡ true → select_line ws ≡ Some l → sound ≤ line_no columns (Some l) → ws ≡ behind_time columns l
line_said columns [] l counts e h = none_selected columns [] l counts e h
line_said columns (word ∷ []) l counts e h = absurd cc
line_said columns (word ∷ names ∷ ws) l counts e h = by (same word (codes "select")) refl e
  where
    by : (b : Bool) → same word (codes "select") ≡ b → (if b then where_line (Some (cut 44 names)) ws else where_line None (word ∷ names ∷ ws)) ≡ Some l → word ∷ names ∷ ws ≡ behind_time columns l
    by true w g = ap (λ x. x ∷ names ∷ ws) (same_text word (codes "select") w) ∙ some_selected columns names ws l counts g h
    by false w g = none_selected columns (word ∷ names ∷ ws) l counts g h

pub scan_again : (columns : List Column) (ws : List (List ℕ)) → IsTable columns → sound ≤ scan_no columns ws → scan_words columns (scan_of columns ws) ≡ codes "scan" ∷ ws
scan_again columns ws table h = by (timed ws) refl (omega (arith, h))
  where
    behind : (at : At) (rest : List (List ℕ)) (o : Option ScanLine) → select_line rest ≡ o → ws ≡ at_words at ++ rest → sound ≤ line_no columns o → scan_words columns (scan_said columns at o) ≡ codes "scan" ∷ ws
    behind at rest None i words g = absurd (omega (arith, g))
    behind at rest (Some l) i words g = ap (λ x. codes "scan" ∷ (at_words at ++ x)) (sym (line_said columns rest l table.ids i g)) ∙ ap (λ x. codes "scan" ∷ x) (sym words)

    by : (o : Option Timed) → timed ws ≡ o → sound ≤ timed_no columns o → scan_words columns (timed_scan columns o) ≡ codes "scan" ∷ ws
    by None i g = absurd (omega (arith, g))
    by (Some t) i g = behind t.0 t.1 (select_line t.1) refl (timed_said ws t i (omega (arith, g))) (omega (arith, g))
