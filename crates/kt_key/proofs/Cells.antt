-- Reading one cell of a key.
use Rattle.std.proofs.Common.{◌≡◌, ◌≢◌, ℕ, ◌<◌, ◌≤◌, ℤ, true, false, ◌&&◌, List, ◌++◌, length, take, drop, Some, None, refl, sym, ap, ◌∙◌, arith, length-append, length-take}
use Rattle.std.specs.Int.{byte_len}
use Rattle.std.proofs.lemmas.List.{take-append-drop}
use Rattle.std.proofs.Math.Seq.{take-length}
use Rattle.std.proofs.lemmas.Bool.{false≢true}
use Rattle.std.proofs.lemmas.Option.{none-some}
use Rattle.kt_base.specs.declared.cell.Kind.{Kind}
use Rattle.kt_base.specs.declared.cell.Kind.TheVariants as kind
use Rattle.kt_base.specs.declared.cell.Cell.{Cell}
use Rattle.kt_base.specs.declared.cell.Cell.TheVariants as cell
use Rattle.kt_base.specs.Keys.{escaped, number_key, width_of, half_of, is_text}
use Rattle.kt_key.specs.Fit.{is_bool, is_number, in_range, has_kind}
use Rattle.kt_key.specs.Spelling.{inner_spelling, last_spelling}
use Rattle.kt_key.specs.Reading.{read_text}
use Rattle.kt_key.proofs.Steps.{both_true}
use Rattle.kt_key.proofs.Orders.{number_no_text}
use Rattle.kt_key.proofs.Texts.{read_text-escaped, escaped-read_text}

number_no_bool : (k : Kind) → is_number k ≡ true → is_bool k ≡ false
number_no_bool kind.Bool h = absurd (false≢true h)
number_no_bool kind.Int8 h = refl
number_no_bool kind.Int16 h = refl
number_no_bool kind.Int32 h = refl
number_no_bool kind.Int64 h = refl
number_no_bool kind.String h = refl
number_no_bool kind.Binary h = refl

text_no_bool : (k : Kind) → is_text k ≡ true → is_bool k ≡ false
text_no_bool kind.Bool h = absurd (false≢true h)
text_no_bool kind.Int8 h = refl
text_no_bool kind.Int16 h = refl
text_no_bool kind.Int32 h = refl
text_no_bool kind.Int64 h = refl
text_no_bool kind.String h = refl
text_no_bool kind.Binary h = refl

number_long : (k : Kind) (n : ℤ) → length (number_key (width_of k) n) ≡ byte_len (width_of k)
number_long kind.Bool n = refl
number_long kind.Int8 n = refl
number_long kind.Int16 n = refl
number_long kind.Int32 n = refl
number_long kind.Int64 n = refl
number_long kind.String n = refl
number_long kind.Binary n = refl

pub number_inner : (k : Kind) (bytes : List ℕ) (n : ℤ) (len : ℕ) → is_number k ≡ true → len ≡ byte_len (width_of k) → in_range (half_of (width_of k)) n ≡ true → number_key (width_of k) n ≡ take (byte_len (width_of k)) bytes
    → (is_bool k ≡ false) × (has_kind k (cell.Int n) ≡ true) × (number_key (width_of k) n ++ drop len bytes ≡ bytes) × (len ≤ length bytes)
number_inner k bytes n len is wide range same = (
  number_no_bool k is,
  ap (λ b. b && in_range (half_of (width_of k)) n) is ∙ range,
  ap (λ xs. xs ++ drop len bytes) same ∙ ap (λ m. take (byte_len (width_of k)) bytes ++ drop m bytes) wide ∙ take-append-drop (byte_len (width_of k)) bytes,
  omega (arith, number_long k n, ap length same, length-take (byte_len (width_of k)) bytes, wide),
)

pub no_number : (k : Kind) (bytes : List ℕ) → is_number k ≡ true → length bytes < byte_len (width_of k) → (c : Cell) (more : List ℕ) → is_bool k ≡ false → has_kind k c ≡ true → inner_spelling k c ++ more ≢ bytes
no_number k bytes is short cell.Null more strong h same = false≢true h
no_number k bytes is short (cell.Int n) more strong h same = omega (arith, short, number_long k n, ap length same, length-append (number_key (width_of k) n) more)
no_number k bytes is short (cell.Bool b) more strong h same = false≢true (sym strong ∙ h)
no_number k bytes is short (cell.Bytes xs) more strong h same = false≢true (sym (number_no_text k is) ∙ h)

pub text_inner : (k : Kind) (bytes text : List ℕ) (len : ℕ) → is_text k ≡ true → read_text bytes ≡ Some (text, drop len bytes) → len ≤ length bytes
    → (is_bool k ≡ false) × (has_kind k (cell.Bytes text) ≡ true) × (escaped text ++ drop len bytes ≡ bytes) × (len ≤ length bytes)
text_inner k bytes text len is read within = (text_no_bool k is, is, escaped-read_text bytes (text, drop len bytes) read, within)

pub no_text : (k : Kind) (bytes : List ℕ) → is_text k ≡ true → read_text bytes ≡ None → (c : Cell) (more : List ℕ) → is_bool k ≡ false → has_kind k c ≡ true → inner_spelling k c ++ more ≢ bytes
no_text k bytes is none cell.Null more strong h same = false≢true h
no_text k bytes is none (cell.Int n) more strong h same = false≢true (sym (number_no_text k (both_true (is_number k) (in_range (half_of (width_of k)) n) h).0) ∙ is)
no_text k bytes is none (cell.Bool b) more strong h same = false≢true (sym strong ∙ h)
no_text k bytes is none (cell.Bytes xs) more strong h same = none-some (xs, more) (sym none ∙ ap read_text (sym same) ∙ read_text-escaped xs more)

pub number_last : (k : Kind) (bytes : List ℕ) (n : ℤ) → is_number k ≡ true → length bytes ≡ byte_len (width_of k) → in_range (half_of (width_of k)) n ≡ true → number_key (width_of k) n ≡ take (byte_len (width_of k)) bytes
    → (is_bool k ≡ false) × (has_kind k (cell.Int n) ≡ true) × (number_key (width_of k) n ≡ bytes)
number_last k bytes n is long range same = (
  number_no_bool k is,
  ap (λ b. b && in_range (half_of (width_of k)) n) is ∙ range,
  same ∙ ap (λ m. take m bytes) (sym long) ∙ take-length bytes,
)

pub no_last_number : (k : Kind) (bytes : List ℕ) → is_number k ≡ true → length bytes ≢ byte_len (width_of k) → (c : Cell) → is_bool k ≡ false → has_kind k c ≡ true → last_spelling k c ≢ bytes
no_last_number k bytes is long cell.Null strong h same = false≢true h
no_last_number k bytes is long (cell.Int n) strong h same = long (sym (ap length same) ∙ number_long k n)
no_last_number k bytes is long (cell.Bool b) strong h same = false≢true (sym strong ∙ h)
no_last_number k bytes is long (cell.Bytes xs) strong h same = false≢true (sym (number_no_text k is) ∙ h)

pub text_last : (k : Kind) (text bytes : List ℕ) → is_text k ≡ true → text ≡ bytes → (is_bool k ≡ false) × (has_kind k (cell.Bytes text) ≡ true) × (text ≡ bytes)
text_last k text bytes is same = (text_no_bool k is, is, same)
