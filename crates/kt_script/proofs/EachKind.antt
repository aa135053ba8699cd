-- Kinds of columns, one by one: which cells are of a kind, and what a literal says under one.
use Rattle.std.proofs.Common.{◌≡◌, ℕ, ◌≤◌, ℤ, pos, negsuc, Bool, true, false, not, List, length, Option, Some, None, Result, Ok, Err, refl, sym, subst, ◌∙◌, arith}
use Rattle.std.specs.Prelude.{◌&&◌, nat_lt, nat_le, if◌then◌else◌}
use Rattle.std.proofs.lemmas.Bool.Decides.{nat_tests}
use Rattle.kt_base.specs.declared.cell.Kind.{Kind}
use Rattle.kt_base.specs.declared.cell.Kind.TheVariants as kind
use Rattle.kt_base.specs.declared.cell.Cell.{Cell}
use Rattle.kt_base.specs.declared.cell.Cell.TheVariants as cell
use Rattle.kt_base.specs.declared.literal.LiteralNo.{LiteralNo}
use Rattle.kt_base.specs.declared.literal.LiteralNo.TheVariants as no
use Rattle.kt_base.specs.Literals.{Value, nothing, truth, number, text, raw, within, number_fits, short_bytes, cell_under, cell_or, fits}
use Rattle.kt_base.proofs.Values.{both, both_true}
use Rattle.kt_key.specs.Fit.{in_range, has_kind}
use Rattle.kt_schema.specs.Rows.{is_long}

and_true : (t : Bool) → t ≡ (t && true)
and_true true = refl
and_true false = refl

same_range : (half : ℕ) (n : ℤ) → within half n ≡ (in_range half n && true)
same_range half (pos n) = and_true (nat_lt n half)
same_range half (negsuc n) = and_true (nat_lt n half)

short_enough : (n : ℕ) → nat_le n 65536 ≡ not (nat_lt 65536 n)
short_enough n = by (nat_le n 65536) (nat_lt 65536 n) refl refl
  where
    by : (a b : Bool) → nat_le n 65536 ≡ a → nat_lt 65536 n ≡ b → a ≡ not b
    by true true p q = absurd (let low : n ≤ 65536 = grind (arith, nat_tests) in let high : 65537 ≤ n = grind (arith, nat_tests) in omega arith)
    by true false p q = refl
    by false true p q = refl
    by false false p q = absurd (let high : 65537 ≤ n = grind (arith, nat_tests) in let low : n ≤ 65536 = grind (arith, nat_tests) in omega arith)

-- a literal is that of a cell of the kind, which is not too long
pub fits_is : (k : Kind) (x : Cell) → fits k x ≡ (has_kind k x && not (is_long x))
fits_is kind.Bool cell.Null = refl
fits_is kind.Int8 cell.Null = refl
fits_is kind.Int16 cell.Null = refl
fits_is kind.Int32 cell.Null = refl
fits_is kind.Int64 cell.Null = refl
fits_is kind.String cell.Null = refl
fits_is kind.Binary cell.Null = refl
fits_is kind.Bool (cell.Bool b) = refl
fits_is kind.Int8 (cell.Bool b) = refl
fits_is kind.Int16 (cell.Bool b) = refl
fits_is kind.Int32 (cell.Bool b) = refl
fits_is kind.Int64 (cell.Bool b) = refl
fits_is kind.String (cell.Bool b) = refl
fits_is kind.Binary (cell.Bool b) = refl
fits_is kind.Bool (cell.Int n) = refl
fits_is kind.Int8 (cell.Int n) = same_range _ n
fits_is kind.Int16 (cell.Int n) = same_range _ n
fits_is kind.Int32 (cell.Int n) = same_range _ n
fits_is kind.Int64 (cell.Int n) = same_range _ n
fits_is kind.String (cell.Int n) = refl
fits_is kind.Binary (cell.Int n) = refl
fits_is kind.Bool (cell.Bytes bytes) = refl
fits_is kind.Int8 (cell.Bytes bytes) = refl
fits_is kind.Int16 (cell.Bytes bytes) = refl
fits_is kind.Int32 (cell.Bytes bytes) = refl
fits_is kind.Int64 (cell.Bytes bytes) = refl
fits_is kind.String (cell.Bytes bytes) = short_enough (length bytes)
fits_is kind.Binary (cell.Bytes bytes) = short_enough (length bytes)

pub kind_fits : (k : Kind) (x : Cell) → has_kind k x ≡ true → not (is_long x) ≡ true → fits k x ≡ true
kind_fits k x h g = fits_is k x ∙ both (has_kind k x) (not (is_long x)) h g

pub of_kind : (k : Kind) (x : Cell) → fits k x ≡ true → (has_kind k x ≡ true) × (not (is_long x) ≡ true)
of_kind k x h = both_true (has_kind k x) (not (is_long x)) (sym (fits_is k x) ∙ h)

-- what may be answered of a value
abbrev Answer : Value → Result Cell LiteralNo → Type 0
Answer v (Ok c) = Unit {0}
Answer v (Err no.Form) = ⊥
Answer v (Err no.Null) = v ≡ nothing
Answer v (Err no.Kind) = Unit {0}
Answer v (Err no.Long) = Unit {0}
Answer v (Err no.Memory) = ⊥

short_answer : (v : Value) (bytes : List ℕ) → Answer v (short_bytes bytes)
short_answer v bytes = by (nat_lt 65536 (length bytes))
  where
    by : (t : Bool) → Answer v (if t then Err no.Long else Ok (cell.Bytes bytes))
    by true = tt
    by false = tt

number_answer : (k : Kind) (n : ℤ) → Answer (number n) (cell_under k (number n))
number_answer k n = by (number_fits k n)
  where
    by : (t : Bool) → Answer (number n) (if t then Ok (cell.Int n) else Err no.Kind)
    by true = tt
    by false = tt

answers : (k : Kind) (v : Value) → Answer v (cell_under k v)
answers k nothing = refl
answers k (number n) = number_answer k n
answers kind.Bool (truth b) = tt
answers kind.Int8 (truth b) = tt
answers kind.Int16 (truth b) = tt
answers kind.Int32 (truth b) = tt
answers kind.Int64 (truth b) = tt
answers kind.String (truth b) = tt
answers kind.Binary (truth b) = tt
answers kind.Bool (text bytes) = tt
answers kind.Int8 (text bytes) = tt
answers kind.Int16 (text bytes) = tt
answers kind.Int32 (text bytes) = tt
answers kind.Int64 (text bytes) = tt
answers kind.String (text bytes) = short_answer (text bytes) bytes
answers kind.Binary (text bytes) = tt
answers kind.Bool (raw bytes) = tt
answers kind.Int8 (raw bytes) = tt
answers kind.Int16 (raw bytes) = tt
answers kind.Int32 (raw bytes) = tt
answers kind.Int64 (raw bytes) = tt
answers kind.String (raw bytes) = tt
answers kind.Binary (raw bytes) = short_answer (raw bytes) bytes

-- what a text is read as is never want of memory
pub or_memory : (k : Kind) (v : Option Value) → cell_or k v ≡ Err no.Memory → ⊥
or_memory k None h = cc
or_memory k (Some v) h = subst (Answer v) h (answers k v)

-- null is read of nothing alone
pub under_null : (k : Kind) (v : Value) → cell_under k v ≡ Err no.Null → v ≡ nothing
under_null k v h = subst (Answer v) h (answers k v)
