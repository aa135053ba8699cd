-- A printed column is read as that column, below those before it.
use Rattle.std.proofs.Common.{◌≡◌, ℕ, ◌+◌, ◌<◌, List, [], ◌∷◌, ◌++◌, refl, sym, ap, ◌∙◌, arith, length, take, Bool, true, false, not, min, Option, Some, None, length-append}
use Rattle.std.specs.Prelude.{◌||◌, ◌&&◌, nat_le, if◌then◌else◌, codes}
use Rattle.std.specs.List.{list_any, AllByRecursion}
use Rattle.std.specs.Ordering.{nat_cmp, is_eq}
use Rattle.std.specs.Cmp.Lexicographic.{slice_cmp}
use Rattle.std.proofs.Math.Seq.{get_or-append_seam, take-append_seam}
use Rattle.std.proofs.lemmas.Bool.Decides.{nat_tests}
use Rattle.kt_base.specs.declared.cell.Kind.{Kind}
use Rattle.kt_base.specs.declared.cell.Kind.TheVariants as kind
use Rattle.kt_base.specs.declared.cell.Cell.{Cell}
use Rattle.kt_base.specs.Literals.{literal}
use Rattle.kt_base.proofs.Values.{both_true}
use Rattle.kt_key.specs.Fit.{is_bool}
use Rattle.kt_schema.specs.First.{passes_at}
use Rattle.kt_schema.specs.Columns.{is_late, is_weak, is_again, same_name}
use Rattle.kt_schema.specs.declared.column.Column.{Column}
use Rattle.kt_schema.proofs.Places.{passes_at-here}
use Rattle.kt_script.specs.Pieces.{words_of}
use Rattle.kt_script.specs.Reasons.{sound, reason_if, cell_or_null}
use Rattle.kt_script.specs.Columns.{ColumnLine, IsTable, kind_word, kind_of, marked, of_kind, column_line, begins_column, default_reason, default_no, place_no, said_no, column_no, default_value, with_column, columns_with}
use Rattle.kt_script.specs.Texts.{words}
use Rattle.kt_script.specs.Fit.{compares}
use Rattle.kt_script.specs.Print.{word_if, default_words, column_words, default_fits, DefaultBytes, ColumnFits}
use Rattle.kt_script.proofs.Cuts.{Without}
use Rattle.kt_script.proofs.InLine.{words_in_line}
use Rattle.kt_script.proofs.FormLaws.{Plain, plain}
use Rattle.kt_script.proofs.PrintedWords.{name_is, words_alone}
use Rattle.kt_script.proofs.PrintedNames.{name_plain}
use Rattle.kt_script.proofs.WriteLaws.{plain_in_line}
use Rattle.kt_script.proofs.PrintedCells.{compared_again, min_sound}

true_false : ◌≡◌ {A = Bool} true false → ⊥
true_false e = cc

kind_again : (k : Kind) → kind_of (kind_word k) ≡ Some k
kind_again kind.Bool = refl
kind_again kind.Int8 = refl
kind_again kind.Int16 = refl
kind_again kind.Int32 = refl
kind_again kind.Int64 = refl
kind_again kind.String = refl
kind_again kind.Binary = refl

kind_plain : (k : Kind) → Plain (kind_word k)
kind_plain kind.Bool = plain (codes "bool") refl refl
kind_plain kind.Int8 = plain (codes "int8") refl refl
kind_plain kind.Int16 = plain (codes "int16") refl refl
kind_plain kind.Int32 = plain (codes "int32") refl refl
kind_plain kind.Int64 = plain (codes "int64") refl refl
kind_plain kind.String = plain (codes "string") refl refl
kind_plain kind.Binary = plain (codes "binary") refl refl

-- ---- defaults

-- the literal of a default
abbrev default_text : Kind → Option Cell → Option (List ℕ)
default_text k None = None
default_text k (Some x) = Some (literal k x)

record DefaultRead (k : Kind) (d : Option Cell) : Type 0 where
  words : AllByRecursion Plain (default_words k d)
  no : default_no k (default_text k d) ≡ sound
  is : default_value k (default_text k d) ≡ d

default_read : (c : Column) (d : Option Cell) → default_fits c d ≡ true → DefaultBytes d → DefaultRead c.kind d
default_read c None fit bytes = record { words = tt; no = refl; is = refl }
default_read c (Some x) fit bytes =
    let again = compared_again c x (both_true (not c.key) (compares c x) fit).1 bytes in
    record { words = (plain (codes "default") refl refl, (again.plain, tt)); no = ap default_reason again.read; is = ap (λ r. Some (cell_or_null r)) again.read }

-- ---- what stands behind the kind

abbrev marks : Kind → Bool → Bool → Option Cell → List (List ℕ)
marks k key nullable d = if key then codes "key" ∷ [] else word_if nullable (codes "nullable") ++ default_words k d

marks_words : (k : Kind) (key nullable : Bool) (d : Option Cell) → AllByRecursion Plain (default_words k d) → AllByRecursion Plain (marks k key nullable d)
marks_words k true nullable d p = (plain (codes "key") refl refl, tt)
marks_words k false true d p = (plain (codes "nullable") refl refl, p)
marks_words k false false d p = p

-- what a column's line says
abbrev said_line : List ℕ → Kind → Bool → Bool → Option Cell → ColumnLine
said_line name k key nullable d = record { name = name; kind = k; key = key; nullable = nullable; default = default_text k d }

marks_again : (name : List ℕ) (k : Kind) (key nullable : Bool) (d : Option Cell) → (key && nullable) ≡ false → (key ≡ true → d ≡ None) → marked name k (marks k key nullable d) ≡ Some (said_line name k key nullable d)
marks_again name k true true d h g = absurd (true_false h)
marks_again name k true false d h g = ap (λ o. Some (said_line name k true false o)) (sym (g refl))
marks_again name k false true None h g = refl
marks_again name k false true (Some x) h g = refl
marks_again name k false false None h g = refl
marks_again name k false false (Some x) h g = refl

-- ---- a column below those before it

-- what is known of a column and of those before it
pub record Fresh (front : List Column) (c : Column) : Type 0 where
  pub late : (c.key && list_any (λ d. not d.key) front) ≡ false
  pub weak : is_weak c ≡ false
  pub again : list_any (λ d. same_name c d) front ≡ false
  pub few : length front < 300

seam_passes : (p : Column → Bool) (front : List Column) (c : Column) (rest : List Column) → passes_at p (front ++ c ∷ rest) (length front) ≡ p c
seam_passes p front c rest =
    let size : length (front ++ c ∷ rest) ≡ length front + length (c ∷ rest) = length-append front (c ∷ rest) in
    passes_at-here p (front ++ c ∷ rest) (length front) c (omega (arith, size)) (sym (get_or-append_seam front c rest c))

pub fresh : (columns front : List Column) (c : Column) (rest : List Column) → columns ≡ front ++ c ∷ rest → IsTable columns → Fresh front c
fresh columns front c rest e table =
    let all : List Column = front ++ c ∷ rest in
    let k : ℕ = length front in
    let size : length all ≡ length front + length (c ∷ rest) = length-append front (c ∷ rest) in
    let whole : length columns ≡ length all = ap length e in
    let within : k < length columns = omega (arith, size, whole) in
    let before : take k all ≡ front = take-append_seam front (c ∷ rest) in
    let few = table.few in
    record {
      late = ap (λ xs. c.key && list_any (λ d. not d.key) xs) (sym before) ∙ (ap (λ t. t && list_any (λ d. not d.key) (take k all)) (sym (seam_passes (λ d. d.key) front c rest)) ∙ (ap (λ cs. is_late cs k) (sym e) ∙ table.late k within));
      weak = sym (seam_passes is_weak front c rest) ∙ (ap (λ cs. passes_at is_weak cs k) (sym e) ∙ table.weak k within);
      again = ap (λ xs. list_any (λ d. same_name c d) xs) (sym before) ∙ (sym (seam_passes (λ d. list_any (λ x. same_name d x) (take k all)) front c rest) ∙ (ap (λ cs. is_again cs k) (sym e) ∙ table.again k within));
      few = omega (arith, size, whole, few);
    }

-- the line of a column, which is read as it
pub record ColumnRead (front : List Column) (c : Column) : Type 0 where
  pub begins : begins_column (words (column_words c)) ≡ true
  pub no : column_no front (words (column_words c)) ≡ sound
  pub is : columns_with front (words (column_words c)) ≡ front ++ c ∷ []
  pub line : Without 10 (words (column_words c))

key_bare : (k n b : Bool) → (k && (n || b)) ≡ false → (k && n) ≡ false
key_bare true true b h = h
key_bare true false b h = refl
key_bare false n b h = refl

key_counts : (k n b : Bool) → (k && (n || b)) ≡ false → (k && b) ≡ false
key_counts true true b h = absurd (true_false h)
key_counts true false b h = h
key_counts false n b h = refl

no_default : (c : Column) (d : Option Cell) → default_fits c d ≡ true → c.key ≡ true → d ≡ None
no_default c None fit key = refl
no_default c (Some x) fit key = absurd (true_false (sym (both_true (not c.key) (compares c x) fit).0 ∙ ap not key))

under_limit : (n : ℕ) → n < 300 → nat_le 300 n ≡ false
under_limit n h = grind (arith, nat_tests)

pub column_read : (front : List Column) (c : Column) → Fresh front c → ColumnFits c → c.id ≡ length front + 1 → ColumnRead front c
column_read front c f fit id =
    let d = default_read c c.default fit.default fit.bytes in
    let l : List ℕ = words (column_words c) in
    let tail : List (List ℕ) = marks c.kind c.key c.nullable c.default in
    let behind : AllByRecursion Plain (c.name ∷ kind_word c.kind ∷ tail) = (name_plain c.name (name_is c.name fit.name), (kind_plain c.kind, marks_words c.kind c.key c.nullable c.default d.words)) in
    let line = plain_in_line (column_words c) (plain (codes "column") refl refl, behind) in
    let cut : words_of l ≡ column_words c = words_alone (codes "column") (c.name ∷ kind_word c.kind ∷ tail) line.words.0 line.words.1 in
    let cl : ColumnLine = said_line c.name c.kind c.key c.nullable c.default in
    let says : column_line (words_of l) ≡ Some cl =
    ap column_line cut ∙ (ap (λ t. if t then of_kind c.name (kind_of (kind_word c.kind)) tail else None) fit.name ∙ (ap (λ k. of_kind c.name k tail) (kind_again c.kind)
    ∙ marks_again c.name c.kind c.key c.nullable c.default (key_bare c.key c.nullable (is_bool c.kind) f.weak) (no_default c c.default fit.default))) in
    let a : Bool = c.key && list_any (λ x. not x.key) front in
    let b : Bool = c.key && is_bool c.kind in
    let n : Bool = list_any (λ x. is_eq (slice_cmp nat_cmp c.name x.name)) front in
    let m : Bool = nat_le 300 (length front) in
    let place : place_no front cl ≡ sound =
    min_sound (reason_if a 6) (min (reason_if b 7) (min (reason_if n 8) (reason_if m 9))) (ap (λ t. reason_if t 6) f.late)
    (min_sound (reason_if b 7) (min (reason_if n 8) (reason_if m 9)) (ap (λ t. reason_if t 7) (key_counts c.key c.nullable (is_bool c.kind) f.weak))
    (min_sound (reason_if n 8) (reason_if m 9) (ap (λ t. reason_if t 8) f.again) (ap (λ t. reason_if t 9) (under_limit (length front) f.few)))) in
    record {
      begins = refl;
      line = words_in_line (column_words c) line.line;
      no = ap (said_no front) says ∙ min_sound (default_no c.kind cl.default) (place_no front cl) d.no place;
      is = ap (with_column front) says ∙ (ap (λ v. front ++ record { id = length front + 1; name = c.name; kind = c.kind; key = c.key; nullable = c.nullable; default = v } ∷ []) d.is
          ∙ ap (λ i. front ++ record { id = i; name = c.name; kind = c.kind; key = c.key; nullable = c.nullable; default = c.default } ∷ []) (sym id));
    }
