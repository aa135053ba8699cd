-- A word that begins with a name.
use Rattle.std.proofs.Common.{◌≡◌, ℕ, ◌+◌, List, [], ◌∷◌, ◌++◌, refl, sym, ap, subst, ◌∙◌, cond, arith, length, take, drop, true, false, not}
use mathlib.Core.List.{append-nil}
use Rattle.std.specs.Prelude.{◌≢◌, ◌||◌, ◌==◌, codes}
use Rattle.std.specs.List.{position_or_len, AllByRecursion}
use Rattle.std.proofs.Math.Seq.{take-append_seam, drop-append_seam}
use Rattle.std.proofs.lemmas.Bool.{ne_eqb}
use Rattle.kt_base.specs.Literals.{same}
use Rattle.kt_schema.specs.declared.column.Column.{Column}
use Rattle.kt_script.specs.declared.word.Side.TheVariants.{Outside}
use Rattle.kt_script.specs.Writes.{is_sign, name_in, behind_name}
use Rattle.kt_script.specs.Print.{ColumnFits}
use Rattle.kt_script.proofs.InLine.{join}
use Rattle.kt_script.proofs.FormLaws.{Plain, plain_high, high_line}
use Rattle.kt_script.proofs.PrintedWords.{NameByte, Named, High, name_apart, name_bytes_of, name_high, high_word, passes_both}
use Rattle.kt_script.proofs.PrintedTables.{IsNamed}

-- ---- a name before a sign

not_sign : (b : ℕ) → NameByte b → is_sign b ≡ false
not_sign b n = ap (λ t. t || ((b == 60) || (b == 62))) (ne_eqb b 61 n.equal) ∙ (ap (λ t. t || (b == 62)) (ne_eqb b 60 n.below) ∙ ne_eqb b 62 n.above)

sign_at : (name : List ℕ) (b : ℕ) (rest : List ℕ) → AllByRecursion NameByte name → is_sign b ≡ true → position_or_len is_sign (name ++ b ∷ rest) ≡ length name
sign_at [] b rest p h = ap (λ t. cond (not t) (1 + position_or_len is_sign rest) 0) h
sign_at (x ∷ name) b rest p h =
    let later : position_or_len is_sign (name ++ b ∷ rest) ≡ length name = sign_at name b rest p.1 h in
    ap (λ t. cond (not t) (1 + position_or_len is_sign (name ++ b ∷ rest)) 0) (not_sign x p.0) ∙ omega arith

no_sign : (name : List ℕ) → AllByRecursion NameByte name → position_or_len is_sign name ≡ length name
no_sign [] p = refl
no_sign (x ∷ name) p =
    let later : position_or_len is_sign name ≡ length name = no_sign name p.1 in
    ap (λ t. cond (not t) (1 + position_or_len is_sign name) 0) (not_sign x p.0) ∙ omega arith

pub name_before : (name : List ℕ) (b : ℕ) (rest : List ℕ) → Named name → is_sign b ≡ true → name_in (name ++ b ∷ rest) ≡ name
name_before name b rest n h = ap (λ k. take k (name ++ b ∷ rest)) (sign_at name b rest (name_bytes_of name n) h) ∙ take-append_seam name (b ∷ rest)

pub behind_sign : (name : List ℕ) (b : ℕ) (rest : List ℕ) → Named name → is_sign b ≡ true → behind_name (name ++ b ∷ rest) ≡ b ∷ rest
behind_sign name b rest n h = ap (λ x. drop (length x) (name ++ b ∷ rest)) (name_before name b rest n h) ∙ drop-append_seam name (b ∷ rest)

pub name_alone : (name : List ℕ) → Named name → name_in name ≡ name
name_alone name n = ap (λ k. take k name) (no_sign name (name_bytes_of name n)) ∙ (ap (λ xs. take (length name) xs) (sym (append-nil name)) ∙ take-append_seam name [])

pub behind_alone : (name : List ℕ) → Named name → behind_name name ≡ []
behind_alone name n = ap (λ x. drop (length x) name) (name_alone name n) ∙ (ap (λ xs. drop (length name) xs) (sym (append-nil name)) ∙ drop-append_seam name [])

-- ---- the words

-- a column that is found by its name
pub record Known (columns : List Column) (c : Column) : Type 0 where
  pub named : IsNamed columns c
  pub fit : ColumnFits c

pub name_plain : (name : List ℕ) → Named name → Plain name
name_plain name n = plain_high name (name_high name n) (subst (λ x. same x (codes ";") ≡ false) (append-nil name) (name_apart name [] n))

-- a name, a sign and a literal
pub sign_plain : (name sign lit : List ℕ) → Named name → AllByRecursion High sign → Plain lit → Plain (name ++ (sign ++ lit))
sign_plain name sign lit n h p = record {
  word = passes_both Outside Outside Outside name (sign ++ lit) (high_word name (name_high name n)) (passes_both Outside Outside Outside sign lit (high_word sign h) p.word);
  line = join (λ b. b ≢ 10) name (sign ++ lit) (high_line name (name_high name n)) (join (λ b. b ≢ 10) sign lit (high_line sign h) p.line);
  apart = name_apart name (sign ++ lit) n;
}
