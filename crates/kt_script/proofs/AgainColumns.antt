-- A column line that is taken is the text of its column, and the words of a line make the line.
use Rattle.std.proofs.Common.{◌≡◌, ◌≤◌, ℕ, ◌+◌, ◌<◌, Bool, true, false, min, ◌&&◌, List, [], ◌∷◌, ◌++◌, length, Option, Some, None, Result, Ok, Err, refl, sym, ap, subst, ◌∙◌, arith}
use Rattle.std.specs.Prelude.{if◌then◌else◌, codes}
use Rattle.std.specs.List.{flat_map, onto_first}
use Rattle.std.proofs.lemmas.Bool.{false≢true, eqb-true}
use Rattle.kt_base.specs.declared.cell.Kind.{Kind}
use Rattle.kt_base.specs.declared.cell.Cell.{Cell}
use Rattle.kt_base.specs.declared.literal.LiteralNo.{LiteralNo}
use Rattle.kt_base.specs.declared.literal.LiteralNo.TheVariants as no
use Rattle.kt_base.specs.Literals.{same, literal, value_in, cell_in}
use Rattle.kt_base.proofs.Decimals.{same_text}
use Rattle.kt_base.proofs.Literals.{all_spelled}
use Rattle.kt_base.proofs.Values.{both_true}
use Rattle.kt_schema.specs.Names.{is_name}
use Rattle.kt_schema.specs.declared.column.Column.{Column}
use Rattle.kt_script.specs.declared.word.Side.{Side}
use Rattle.kt_script.specs.declared.word.Side.TheVariants.{Outside, Inside, Slashed}
use Rattle.kt_script.specs.Pieces.{side_after, ends_word, words_from, words_of}
use Rattle.kt_script.specs.Reasons.{sound, cell_or_null}
use Rattle.kt_script.specs.Columns.{ColumnLine, kind_word, kinds, kind_of, with_default, as_key, marked, of_kind, column_line, default_reason, default_no, default_value, place_no, said_no, column_no, with_column, columns_with}
use Rattle.kt_script.specs.Texts.{spaced, words}
use Rattle.kt_script.specs.Print.{word_if, default_words, column_words}
use Rattle.kt_script.proofs.Pieces.{some_word}
use Rattle.kt_script.proofs.FormLaws.{kind_word as word_kind}
use Rattle.kt_script.proofs.EachKind.{or_memory}

-- ---- the words of a line

onto_words : (b : ℕ) (ws : List (List ℕ)) → words (onto_first b ws) ≡ b ∷ words ws
onto_words b [] = refl
onto_words b (w ∷ ws) = refl

space_before : (side : Side) (l : List ℕ) → words ([] ∷ words_from side l) ≡ 32 ∷ words (words_from side l)
space_before side l = let some = some_word side l in ap (flat_map spaced) some.2 ∙ ap (λ ws. 32 ∷ words ws) (sym some.2)

is_space : (side : Side) (b : ℕ) → ends_word side b ≡ true → b ≡ 32
is_space Outside b h = eqb-true b 32 h
is_space Inside b h = absurd (false≢true h)
is_space Slashed b h = absurd (false≢true h)

rejoined_from : (side : Side) (l : List ℕ) → words (words_from side l) ≡ l
rejoined_from side [] = refl
rejoined_from side (b ∷ l) = by (ends_word side b) refl (rejoined_from Outside l) (rejoined_from (side_after side b) l)
  where
    by : (t : Bool) → ends_word side b ≡ t → words (words_from Outside l) ≡ l → words (words_from (side_after side b) l) ≡ l
        → words (if t then [] ∷ words_from Outside l else onto_first b (words_from (side_after side b) l)) ≡ b ∷ l
    by true e out on = space_before Outside l ∙ (ap (λ x. 32 ∷ x) out ∙ ap (λ x. x ∷ l) (sym (is_space side b e)))
    by false e out on = onto_words b (words_from (side_after side b) l) ∙ ap (λ x. b ∷ x) on

pub rejoined : (l : List ℕ) → words (words_of l) ≡ l
rejoined l = rejoined_from Outside l

-- ---- what a line says is in its words

kind_said : (text : List ℕ) (k : Kind) → kind_of text ≡ Some k → text ≡ kind_word k
kind_said text k h = word_kind kind_word kinds text k h

-- the words of a default's text
abbrev text_words : Option (List ℕ) → List (List ℕ)
text_words None = []
text_words (Some text) = codes "default" ∷ text ∷ []

-- what stands behind the kind
abbrev behind_kind : ColumnLine → List (List ℕ)
behind_kind l = if l.key then codes "key" ∷ [] else word_if l.nullable (codes "nullable") ++ text_words l.default

-- the words that say a line
abbrev line_words : ColumnLine → List (List ℕ)
line_words l = codes "column" ∷ l.name ∷ kind_word l.kind ∷ behind_kind l

-- what is said behind a kind
record Behind (name : List ℕ) (k : Kind) (ws : List (List ℕ)) (l : ColumnLine) : Type 0 where
  name_is : l.name ≡ name
  kind_is : l.kind ≡ k
  is : ws ≡ behind_kind l

made : (name : List ℕ) (k : Kind) (ws : List (List ℕ)) (m l : ColumnLine) → Behind name k ws m → ◌≡◌ {A = Option ColumnLine} (Some m) (Some l) → Behind name k ws l
made name k ws m l b e = let one : m ≡ l = cc in subst (Behind name k ws) one b

default_said : (name : List ℕ) (k : Kind) (n : Bool) (ws : List (List ℕ)) (l : ColumnLine) → with_default name k n ws ≡ Some l → Behind name k (word_if n (codes "nullable") ++ ws) l
default_said name k n [] l h = made name k _ _ l (record { name_is = refl; kind_is = refl; is = refl }) h
default_said name k n (w ∷ []) l h = absurd cc
default_said name k n (w ∷ v ∷ []) l h = by (same w (codes "default")) refl h
  where
    by : (t : Bool) → same w (codes "default") ≡ t → (if t then Some (record { name = name; kind = k; key = false; nullable = n; default = Some v }) else None) ≡ Some l
        → Behind name k (word_if n (codes "nullable") ++ w ∷ v ∷ []) l
    by true e g = made name k _ _ l (record { name_is = refl; kind_is = refl; is = ap (λ x. word_if n (codes "nullable") ++ x ∷ v ∷ []) (same_text w (codes "default") e) }) g
    by false e g = absurd cc
default_said name k n (w ∷ v ∷ u ∷ ws) l h = absurd cc

key_said : (name : List ℕ) (k : Kind) (ws : List (List ℕ)) (l : ColumnLine) → as_key name k ws ≡ Some l → Behind name k (codes "key" ∷ ws) l
key_said name k [] l h = made name k _ _ l (record { name_is = refl; kind_is = refl; is = refl }) h
key_said name k (w ∷ ws) l h = absurd cc

marks_said : (name : List ℕ) (k : Kind) (ws : List (List ℕ)) (l : ColumnLine) → marked name k ws ≡ Some l → Behind name k ws l
marks_said name k [] l h = default_said name k false [] l h
marks_said name k (w ∷ ws) l h = by (same w (codes "key")) (same w (codes "nullable")) refl refl h
  where
    first : (word : List ℕ) → same w word ≡ true → Behind name k (word ∷ ws) l → Behind name k (w ∷ ws) l
    first word e b = subst (λ x. Behind name k (x ∷ ws) l) (sym (same_text w word e)) b

    by : (s t : Bool) → same w (codes "key") ≡ s → same w (codes "nullable") ≡ t → (if s then as_key name k ws else (if t then with_default name k true ws else with_default name k false (w ∷ ws))) ≡ Some l → Behind name k (w ∷ ws) l
    by true t e f g = first (codes "key") e (key_said name k ws l g)
    by false true e f g = first (codes "nullable") f (default_said name k true ws l g)
    by false false e f g = default_said name k false (w ∷ ws) l g

line_said : (ws : List (List ℕ)) (l : ColumnLine) → column_line ws ≡ Some l → ws ≡ line_words l
line_said [] l h = absurd cc
line_said (a ∷ []) l h = absurd cc
line_said (a ∷ b ∷ []) l h = absurd cc
line_said (a ∷ name ∷ word ∷ ws) l h = by (same a (codes "column") && is_name name) refl h
  where
    of : a ≡ codes "column" → (o : Option Kind) → kind_of word ≡ o → of_kind name o ws ≡ Some l → a ∷ name ∷ word ∷ ws ≡ line_words l
    of first None e g = absurd cc
    of first (Some k) e g =
        let b = marks_said name k ws l g in
        ap (λ x. x ∷ name ∷ word ∷ ws) first
        ∙ (ap (λ x. codes "column" ∷ x ∷ word ∷ ws) (sym b.name_is)
        ∙ (ap (λ x. codes "column" ∷ l.name ∷ x ∷ ws) (kind_said word k e ∙ ap kind_word (sym b.kind_is)) ∙ ap (λ x. codes "column" ∷ l.name ∷ kind_word l.kind ∷ x) b.is))

    by : (t : Bool) → (same a (codes "column") && is_name name) ≡ t → (if t then of_kind name (kind_of word) ws else None) ≡ Some l → a ∷ name ∷ word ∷ ws ≡ line_words l
    by true e g = of (same_text a (codes "column") (both_true (same a (codes "column")) (is_name name) e).0) (kind_of word) refl g
    by false e g = absurd cc

-- ---- the column

-- a default that is taken has the literal of its cell
default_again : (k : Kind) (d : Option (List ℕ)) → 17 < default_no k d → text_words d ≡ default_words k (default_value k d)
default_again k None h = refl
default_again k (Some text) h = ap (λ t. codes "default" ∷ t ∷ []) (by (cell_in k text) refl h)
  where
    by : (r : Result Cell LiteralNo) → cell_in k text ≡ r → 17 < default_reason r → text ≡ literal k (cell_or_null r)
    by (Ok x) e g = (all_spelled k x text e).spelled
    by (Err no.Form) e g = absurd (omega arith)
    by (Err no.Null) e g = absurd (omega arith)
    by (Err no.Kind) e g = absurd (omega arith)
    by (Err no.Long) e g = absurd (omega arith)
    by (Err no.Memory) e g = absurd (or_memory k (value_in text) e)

pub column_again : (columns : List Column) (l : List ℕ) → sound ≤ column_no columns l → (c : Column) × (columns_with columns l ≡ columns ++ c ∷ []) × (l ≡ words (column_words c))
column_again columns l h = by (column_line (words_of l)) refl h
  where
    by : (o : Option ColumnLine) → column_line (words_of l) ≡ o → sound ≤ said_no columns o → (c : Column) × (with_column columns o ≡ columns ++ c ∷ []) × (l ≡ words (column_words c))
    by None e g = absurd (omega (arith, g))
    by (Some s) e g =
        let whole : sound ≤ min (default_no s.kind s.default) (place_no columns s) = g in
        let kept : 17 < default_no s.kind s.default = omega (arith, whole) in (
          record { id = length columns + 1; name = s.name; kind = s.kind; key = s.key; nullable = s.nullable; default = default_value s.kind s.default },
          refl,
          sym (rejoined l) ∙ (ap words (line_said (words_of l) s e)
              ∙ ap (λ ds. words (codes "column" ∷ s.name ∷ kind_word s.kind ∷ (if s.key then codes "key" ∷ [] else word_if s.nullable (codes "nullable") ++ ds))) (default_again s.kind s.default kept)),
        )
