-- What is read of a line of an opening, a word at a time.
use Rattle.std.proofs.Common.{◌≡◌, ℕ, suc, ◌<◌, ◌≤◌, min, Bool, true, false, List, [], ◌∷◌, drop, length, Option, Some, None, Bor, refl, sym, ap, ◌∙◌, arith}
use Rattle.std.specs.Prelude.{if◌then◌else◌, ◌&&◌, ◌==◌, nat_le, codes}
use Rattle.std.specs.List.{onto_first}
use Rattle.std.specs.Option.{option_map, option_and_then}
use Rattle.std.proofs.lemmas.Bool.{and_parts}
use Rattle.std.proofs.lemmas.Bool.Decides.{nat_tests}
use Rattle.kt_base.specs.Literals.{same}
use Rattle.kt_base.proofs.Decimals.{same_text}
use Rattle.kt_schema.specs.declared.column.Column.{Column}
use Rattle.kt_schema.specs.Columns.{other_columns}
use Rattle.kt_script.specs.Reasons.{sound}
use Rattle.kt_script.specs.Pieces.{cut, words_in}
use Rattle.kt_script.specs.Outputs.{counted, unless_more, number_in}
use Rattle.kt_script.specs.Writes.{is_empty, first_op, later_ops, key_len, key_no, all_named_no, none_left_no, cells_no, ops_in}
use Rattle.kt_script.proofs.Cuts.{some_piece}
use Rattle.kt_script.proofs.EachWord.{some_more}
use Rattle.kt_script.proofs.OpWords.{ops_split}
use Rattle.kt_opening.specs.OpeningLines.{head_numbers, count_in, number_alone, write_in, may_stand, insert_no, changes_no, delete_no}

-- ---- numbers

-- behind the numbers of the first line stands no word
pub head_none : (ws : List (List ℕ)) (a c : ℕ × List (List ℕ)) (rest : List ℕ) → Some a ≡ counted (codes "ahm") ws → Some c ≡ counted (codes "last") a.1 → c.1 ≡ cut 32 rest → None ≡ head_numbers ws
head_none ws a c rest first second more =
    sym (some_more (a.0, c.0) rest) ∙ ap (unless_more (a.0, c.0)) (sym more)
    ∙ ap (option_and_then (λ (y : ℕ × List (List ℕ)). unless_more (a.0, y.0) y.1)) second
    ∙ ap (option_and_then (λ (x : ℕ × List (List ℕ)). option_and_then (λ (y : ℕ × List (List ℕ)). unless_more (x.0, y.0) y.1) (counted (codes "last") x.1))) first

pub count_none : (line rest : List ℕ) (n : ℕ × List (List ℕ)) → Some n ≡ counted (codes "rows") (cut 32 line) → n.1 ≡ cut 32 rest → None ≡ count_in line
count_none line rest n first more = sym (some_more n.0 rest) ∙ ap (unless_more n.0) (sym more) ∙ ap (option_and_then (λ (m : ℕ × List (List ℕ)). unless_more m.0 m.1)) first

pub alone_none : (ws : List (List ℕ)) (digits rest : List ℕ) → ws ≡ digits ∷ cut 32 rest → None ≡ number_alone ws
alone_none ws digits rest is = let p = some_piece 32 rest in sym (ap number_alone (is ∙ ap (λ (more : List (List ℕ)). digits ∷ more) p.2))

-- ---- how long a line is

-- a piece with others behind it is shorter than all
piece_short : (byte : ℕ) (xs a b : List ℕ) (more : List (List ℕ)) → cut byte xs ≡ a ∷ b ∷ more → length a < length xs
piece_short byte [] a b more is = absurd cc
piece_short byte (x ∷ xs) a b more is = by (x == byte) is (λ (p : List ℕ) (e : cut byte xs ≡ p ∷ b ∷ more). piece_short byte xs p b more e)
  where
    by : (t : Bool) → (if t then [] ∷ cut byte xs else onto_first x (cut byte xs)) ≡ a ∷ b ∷ more → ((p : List ℕ) → cut byte xs ≡ p ∷ b ∷ more → length p < length xs) → length a < suc (length xs)
    by true equal later = let none : a ≡ [] = cc in let size : length a ≡ 0 = ap length none in omega (arith, size)
    by false equal later =
        let p = some_piece byte xs in
        let flat : (x ∷ p.0) ∷ p.1 ≡ a ∷ b ∷ more = sym (ap (onto_first x) p.2) ∙ equal in
        let first : a ≡ x ∷ p.0 = cc in
        let behind : p.1 ≡ b ∷ more = cc in
        let less = later p.0 (p.2 ∙ ap (λ (ps : List (List ℕ)). p.0 ∷ ps) behind) in
        let size : length a ≡ suc (length p.0) = ap length first in
        omega (arith, less, size)

-- a write's line is longer than its word
pub write_long : (line : List ℕ) (w : ℕ × ℕ) → write_in line ≡ Some w → 6 ≤ length line
write_long line w is = by (cut 32 line) refl is
  where
    by : (ws : List (List ℕ)) → cut 32 line ≡ ws → option_and_then (λ (ts : ℕ × List (List ℕ)). option_map (λ n. (ts.0, n)) (number_alone ts.1)) (counted (codes "write") ws) ≡ Some w → 6 ≤ length line
    by [] cuts says = absurd cc
    by (word ∷ []) cuts says = absurd cc
    by (word ∷ digits ∷ more) cuts says = named (same word (codes "write")) refl says
      where
        named : (t : Bool) → same word (codes "write") ≡ t → option_and_then (λ (ts : ℕ × List (List ℕ)). option_map (λ n. (ts.0, n)) (number_alone ts.1)) (if t then option_map (λ n. (n, more)) (number_in digits) else None) ≡ Some w → 6 ≤ length line
        named true is says =
            let size : length word ≡ 5 = ap length (same_text word (codes "write") is) in
            let less = piece_short 32 line word digits more cuts in
            omega (arith, size, less)
        named false is says = absurd cc

-- ---- rows

-- whether the words of a line may stand is told by the least reason found in them, and by what is behind them
pub stands_so : (reason : List (List ℕ) → ℕ) (ws : List (List ℕ)) (left : List (List (List ℕ))) (least : ℕ) (b : Bool) → b ≡ (nat_le sound least && is_empty left) → least ≡ min sound (reason (first_op ws)) → left ≡ later_ops ws → b ≡ may_stand reason ws
stands_so reason ws left least b is found behind =
    let tests : nat_le sound (min sound (reason (first_op ws))) ≡ nat_le sound (reason (first_op ws)) = by (reason (first_op ws)) in
    is ∙ ap (λ n. nat_le sound n && is_empty left) found ∙ ap (λ t. t && is_empty left) tests ∙ ap (λ ops. nat_le sound (reason (first_op ws)) && is_empty ops) behind
  where
    by : (n : ℕ) → nat_le sound (min sound n) ≡ nat_le sound n
    by n = grind (arith, nat_tests)

pub taken : {A : Type 0} (b t : Bool) (x y : A) → b ≡ t → b ≡ true → x ≡ y → Some x ≡ (if t then Some y else None)
taken b t x y is holds equal = ap Some equal ∙ ap (λ v. if v then Some y else None) (sym holds ∙ is)

pub left_out : {A : Type 0} (b t : Bool) (y : A) → b ≡ t → b ≡ false → None ≡ (if t then Some y else None)
left_out b t y is not = ap (λ v. if v then Some y else None) (sym not ∙ is)

-- where the words may stand, no reason was found
pub all_sound : (least : ℕ) (left : List (List (List ℕ))) (b : Bool) → b ≡ (nat_le sound least && is_empty left) → b ≡ true → sound ≤ least
all_sound least left b is holds = let t = (and_parts (nat_le sound least) (is_empty left) (sym is ∙ holds)).0 in grind (arith, nat_tests)

-- what is noted of a literal for each column, one after the other
pub row_least : (columns others : List Column) (words first second : List (List ℕ)) (old a b l m : ℕ) → others ≡ other_columns columns
    → first ≡ drop (key_len columns) words → second ≡ drop (length others) first → a ≡ min old (key_no columns words) → b ≡ min a (cells_no others first) → l ≡ none_left_no second → m ≡ min b l
    → m ≡ min old (insert_no columns words)
row_least columns others words first second old a b l m group behind_key behind_cells la lb ll lm =
    let rest = drop (key_len columns) words in
    let cells : cells_no others first ≡ cells_no (other_columns columns) rest = ap (λ cs. cells_no cs first) group ∙ ap (cells_no (other_columns columns)) behind_key in
    let left : none_left_no second ≡ none_left_no (drop (length (other_columns columns)) rest) = ap none_left_no (behind_cells ∙ (ap (λ cs. drop (length cs) first) group ∙ ap (drop (length (other_columns columns))) behind_key)) in
    omega (arith, la, lb, ll, lm, cells, left)

-- of a key and `NAME=LIT`
pub names_least : (columns others : List Column) (words rest : List (List ℕ)) (old a m : ℕ) → others ≡ other_columns columns → rest ≡ drop (key_len columns) words → a ≡ min old (key_no columns words) → m ≡ min a (all_named_no others [] rest) → m ≡ min old (changes_no columns words)
names_least columns others words rest old a m group behind la lm =
    let names : all_named_no others [] rest ≡ all_named_no (other_columns columns) [] (drop (key_len columns) words) = ap (λ cs. all_named_no cs [] rest) group ∙ ap (all_named_no (other_columns columns) []) behind in
    omega (arith, la, lm, names)

-- of a key alone
pub key_least : (columns : List Column) (words rest : List (List ℕ)) (old a l m : ℕ) → rest ≡ drop (key_len columns) words → a ≡ min old (key_no columns words) → l ≡ none_left_no rest → m ≡ min a l → m ≡ min old (delete_no columns words)
key_least columns words rest old a l m behind la ll lm = let left : none_left_no rest ≡ none_left_no (drop (key_len columns) words) = ap none_left_no behind in omega (arith, la, ll, lm, left)

-- words may not stand with others behind a `;`
pub stands_not : (least : ℕ) (left : List (List (List ℕ))) (rest : Option (Bor (List ℕ))) → ops_in (Some rest) ≡ left → false ≡ (nat_le sound least && is_empty left)
stands_not least left rest is = by (nat_le sound least) ∙ ap (λ t. nat_le sound least && t) (sym (ap is_empty (sym is ∙ ops_split (words_in rest))))
  where
    by : (t : Bool) → false ≡ (t && false)
    by true = refl
    by false = refl

le_least : (least : ℕ) → nat_le sound least ≡ true → sound ≤ least
le_least least e = grind (arith, nat_tests)

is_not : (least : ℕ) → (255 < least → false ≡ true) → false ≡ nat_le sound least
is_not least from = by (nat_le sound least) refl
  where
    by : (t : Bool) → nat_le sound least ≡ t → false ≡ t
    by false e = refl
    by true e = from (let le = le_least least e in omega (arith, le))

-- with none, they may if no reason up to the greatest was found
pub stands_by : (least : ℕ) (left : List (List (List ℕ))) (b : Bool) → (b ≡ true → 255 < least) → (255 < least → b ≡ true) → [] ≡ left → b ≡ (nat_le sound least && is_empty left)
stands_by least left b to from none = test b to from ∙ by (nat_le sound least) ∙ ap (λ (ops : List (List (List ℕ))). nat_le sound least && is_empty ops) none
  where
    by : (t : Bool) → t ≡ (t && true)
    by true = refl
    by false = refl

    test : (t : Bool) → (t ≡ true → 255 < least) → (255 < least → t ≡ true) → t ≡ nat_le sound least
    test true to from = let lt = to refl in grind (arith, nat_tests)
    test false to from = is_not least from

pub same_pair : {A B : Type 0} {a x : A} {b y : B} → a ≡ x → b ≡ y → ◌≡◌ {A = A × B} (a, b) (x, y)
same_pair e f = cc
