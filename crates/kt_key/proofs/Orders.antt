-- The spellings of cells compare as the cells do, and then as what stands behind them.
use Rattle.std.proofs.Common.{◌≡◌, ℕ, zero, suc, ◌*◌, ◌^◌, ◌<◌, Bool, true, false, cond, ◌==◌, ℤ, List, [], ◌∷◌, ◌++◌, ◌⊎◌, inl, inr, refl, sym, ap, subst, ◌∙◌, arith}
use mathlib.Core.List.{append-nil}
use Rattle.std.specs.Int.{byte_len}
use Rattle.std.specs.declared.cmp.Ordering.TheVariants.{Less, Equal, Greater}
use Rattle.std.specs.Ordering.{nat_cmp, int_cmp, ordering_then}
use Rattle.std.specs.Cmp.{nat_cmp_is}
use Rattle.std.specs.Cmp.Lexicographic.{slice_cmp}
use Rattle.std.proofs.lemmas.Bool.{false≢true}
use Rattle.kt_base.specs.declared.cell.Kind.{Kind}
use Rattle.kt_base.specs.declared.cell.Kind.TheVariants as kind
use Rattle.kt_base.specs.declared.cell.Cell.{Cell}
use Rattle.kt_base.specs.declared.cell.Cell.TheVariants as cell
use Rattle.kt_base.specs.Keys.{escaped, number_key, width_of, half_of, is_text}
use Rattle.kt_key.specs.Fit.{is_bool, is_number, in_range, has_kind}
use Rattle.kt_key.specs.Spelling.{inner_spelling, last_spelling}
use Rattle.kt_key.specs.Order.{cell_cmp}
use Rattle.kt_key.proofs.Steps.{both_true}
use Rattle.kt_key.proofs.Numbers.{cases_cmp, nat_cmp-self, then-equal, bytes-cmp, raised-cmp, raised-lt}

same_head : (b : Bool) (xs ys r s : List ℕ) → slice_cmp nat_cmp (cond b (1 ∷ xs) xs ++ r) (cond b (1 ∷ ys) ys ++ s) ≡ slice_cmp nat_cmp (xs ++ r) (ys ++ s)
same_head true xs ys r s = refl
same_head false xs ys r s = refl

pub escaped-cmp : (xs ys r s : List ℕ) → slice_cmp nat_cmp (escaped xs ++ r) (escaped ys ++ s) ≡ ordering_then (slice_cmp nat_cmp xs ys) (slice_cmp nat_cmp r s)
escaped-cmp [] [] r s = refl
escaped-cmp [] (zero ∷ ys) r s = refl
escaped-cmp [] (suc y ∷ ys) r s = ap (λ o. ordering_then o (slice_cmp nat_cmp (0 ∷ r) (cond (suc y == 0) (1 ∷ escaped ys) (escaped ys) ++ s))) (sym (nat_cmp_is 0 (suc y) Less (omega arith)))
escaped-cmp (zero ∷ xs) [] r s = refl
escaped-cmp (suc x ∷ xs) [] r s = ap (λ o. ordering_then o (slice_cmp nat_cmp (cond (suc x == 0) (1 ∷ escaped xs) (escaped xs) ++ r) (0 ∷ s))) (sym (nat_cmp_is (suc x) 0 Greater (omega arith)))
escaped-cmp (x ∷ xs) (y ∷ ys) r s = by (cases_cmp x y) (escaped-cmp xs ys r s)
  where
    by : (x < y) ⊎ ((x ≡ y) ⊎ (y < x)) → slice_cmp nat_cmp (escaped xs ++ r) (escaped ys ++ s) ≡ ordering_then (slice_cmp nat_cmp xs ys) (slice_cmp nat_cmp r s)
        → slice_cmp nat_cmp (escaped (x ∷ xs) ++ r) (escaped (y ∷ ys) ++ s) ≡ ordering_then (slice_cmp nat_cmp (x ∷ xs) (y ∷ ys)) (slice_cmp nat_cmp r s)
    by (inl lt) more = let e : nat_cmp x y ≡ Less = sym (nat_cmp_is x y Less lt) in rw e refl
    by (inr (inl eq)) more =
        let P : ℕ → Type 0 = λ z. slice_cmp nat_cmp (escaped (x ∷ xs) ++ r) (escaped (z ∷ ys) ++ s) ≡ ordering_then (slice_cmp nat_cmp (x ∷ xs) (z ∷ ys)) (slice_cmp nat_cmp r s) in
        let e : nat_cmp x x ≡ Equal = nat_cmp-self x in
        subst P eq (rw e (same_head (x == 0) (escaped xs) (escaped ys) r s ∙ more))
    by (inr (inr gt)) more = let e : nat_cmp x y ≡ Greater = sym (nat_cmp_is x y Greater gt) in rw e refl

whole_range : (k : Kind) → 2 * half_of (width_of k) ≡ 256 ^ byte_len (width_of k)
whole_range kind.Bool = refl
whole_range kind.Int8 = refl
whole_range kind.Int16 = refl
whole_range kind.Int32 = refl
whole_range kind.Int64 = refl
whole_range kind.String = refl
whole_range kind.Binary = refl

pub number-cmp : (k : Kind) (m n : ℤ) (r s : List ℕ) → in_range (half_of (width_of k)) m ≡ true → in_range (half_of (width_of k)) n ≡ true
    → slice_cmp nat_cmp (number_key (width_of k) m ++ r) (number_key (width_of k) n ++ s) ≡ ordering_then (int_cmp m n) (slice_cmp nat_cmp r s)
number-cmp k m n r s p q =
    bytes-cmp (byte_len (width_of k)) _ _ r s (omega (arith, raised-lt _ m p, whole_range k)) (omega (arith, raised-lt _ n q, whole_range k))
    ∙ ap (λ o. ordering_then o (slice_cmp nat_cmp r s)) (raised-cmp (half_of (width_of k)) m n p q)

-- a key cell is a number in its range, or a text
pub data KeyCell (k : Kind) : Cell → Type 0 where
  a_number : (n : ℤ) → is_text k ≡ false → in_range (half_of (width_of k)) n ≡ true → KeyCell k (cell.Int n)
  a_text : (bytes : List ℕ) → is_text k ≡ true → KeyCell k (cell.Bytes bytes)

pub number_no_text : (k : Kind) → is_number k ≡ true → is_text k ≡ false
number_no_text kind.Bool h = refl
number_no_text kind.Int8 h = refl
number_no_text kind.Int16 h = refl
number_no_text kind.Int32 h = refl
number_no_text kind.Int64 h = refl
number_no_text kind.String h = absurd (false≢true h)
number_no_text kind.Binary h = absurd (false≢true h)

pub key_cell : (k : Kind) (c : Cell) → is_bool k ≡ false → has_kind k c ≡ true → KeyCell k c
key_cell k cell.Null strong h = absurd (false≢true h)
key_cell k (cell.Int n) strong h = let parts = both_true (is_number k) (in_range (half_of (width_of k)) n) h in a_number n (number_no_text k parts.0) parts.1
key_cell k (cell.Bool b) strong h = absurd (false≢true (sym strong ∙ h))
key_cell k (cell.Bytes bytes) strong h = a_text bytes h

pub inner-cmp : (k : Kind) (c d : Cell) (r s : List ℕ) → KeyCell k c → KeyCell k d
    → slice_cmp nat_cmp (inner_spelling k c ++ r) (inner_spelling k d ++ s) ≡ ordering_then (cell_cmp c d) (slice_cmp nat_cmp r s)
inner-cmp k c d r s (a_number m e p) (a_number n f q) = number-cmp k m n r s p q
inner-cmp k c d r s (a_number m e p) (a_text bytes g) = absurd (false≢true (sym e ∙ g))
inner-cmp k c d r s (a_text bytes g) (a_number n f q) = absurd (false≢true (sym f ∙ g))
inner-cmp k c d r s (a_text xs g) (a_text ys h) = escaped-cmp xs ys r s

pub last-cmp : (k : Kind) (c d : Cell) → KeyCell k c → KeyCell k d → slice_cmp nat_cmp (last_spelling k c) (last_spelling k d) ≡ cell_cmp c d
last-cmp k c d (a_number m e p) (a_number n f q) =
    ap (λ xs. slice_cmp nat_cmp xs (number_key (width_of k) n)) (sym (append-nil (number_key (width_of k) m)))
    ∙ ap (λ ys. slice_cmp nat_cmp (number_key (width_of k) m ++ []) ys) (sym (append-nil (number_key (width_of k) n)))
    ∙ number-cmp k m n [] [] p q ∙ then-equal (int_cmp m n)
last-cmp k c d (a_number m e p) (a_text bytes g) = absurd (false≢true (sym e ∙ g))
last-cmp k c d (a_text bytes g) (a_number n f q) = absurd (false≢true (sym f ∙ g))
last-cmp k c d (a_text xs g) (a_text ys h) = refl
