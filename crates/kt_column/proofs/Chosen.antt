-- The shortest encoding of a block's values.
use Rattle.std.proofs.Common.{◌≡◌, ◌<◌, ◌≤◌, ◌-◌, ◌⊎◌, inl, inr, ℕ, List, length, Option, Some, None, arith, refl, sym, subst, ap, lit≤}
use Rattle.std.proofs.Common.{true, false, eqb}
use Rattle.std.specs.Bool.{OnTrue, OnFalse}
use Rattle.std.proofs.lemmas.Bool.{cases_lt, eqb-true, eqb-false}
use Rattle.kt_plain.specs.declared.widths.Width.{Width}
use Rattle.kt_plain.specs.declared.items.Items.{Items}
use Rattle.kt_plain.specs.declared.items.Items.TheVariants.{Numbers, Texts}
use Rattle.kt_plain.specs.Spelling as plain
use Rattle.kt_rle.proofs.Once.{spelled_once}
use Rattle.kt_front.specs.Spelling as prefix
use Rattle.kt_front.proofs.Cells.{fits_together}
use Rattle.kt_column.specs.declared.form.Form.TheVariants.{Cells, Keys}
use Rattle.kt_column.proofs.Widths.{small_texts}
use Rattle.kt_column.specs.declared.form.Form.{Form}
use Rattle.kt_column.specs.declared.form.Encoding.{Encoding}
use Rattle.kt_column.specs.declared.form.Encoding.TheVariants.{Plain, RunLength, Dictionary, Prefix}
use Rattle.kt_column.specs.declared.lengths.Measured.{Measured}
use Rattle.kt_column.specs.Forms.{width, code}
use Rattle.kt_column.specs.Values.{AreValues, IsEncoded, MayStand, IsBefore, IsShortest, IsShorter, IsBestUpTo, IsMeasuredUpTo, IsLeastUpTo, IsNoneUpTo, Takes, run_width}

-- values have one spelling in an encoding
pub encoded_once : (w : Width) (e : Encoding) (items : Items) (a b : List ℕ) → IsEncoded w e items a → IsEncoded w e items b → a ≡ b
encoded_once w Plain items a b p q = cc
encoded_once w RunLength (Numbers zs) a b p q = spelled_once (run_width w) (length zs) zs a b p q
encoded_once w RunLength (Texts ts) a b p q = elim p [ ]
encoded_once w Dictionary (Numbers zs) a b p q = elim p [ ]
encoded_once w Dictionary (Texts ts) a b p q = cc
encoded_once w Prefix (Numbers zs) a b p q = elim p [ ]
encoded_once w Prefix (Texts ts) a b p q = cc

-- two encodings of one number are one
pub same_code : (e f : Encoding) → code e ≡ code f → e ≡ f
same_code Plain Plain h = refl
same_code RunLength RunLength h = refl
same_code Dictionary Dictionary h = refl
same_code Prefix Prefix h = refl
same_code Plain RunLength h = absurd (omega arith)
same_code Plain Dictionary h = absurd (omega arith)
same_code Plain Prefix h = absurd (omega arith)
same_code RunLength Plain h = absurd (omega arith)
same_code RunLength Dictionary h = absurd (omega arith)
same_code RunLength Prefix h = absurd (omega arith)
same_code Dictionary Plain h = absurd (omega arith)
same_code Dictionary RunLength h = absurd (omega arith)
same_code Dictionary Prefix h = absurd (omega arith)
same_code Prefix Plain h = absurd (omega arith)
same_code Prefix RunLength h = absurd (omega arith)
same_code Prefix Dictionary h = absurd (omega arith)

-- the encodings up to this one: this one, or one before it
up_to : (e f : Encoding) → code f ≤ code e → (f ≡ e) ⊎ (code f ≤ code e - 1)
up_to e f h = elim (cases_lt (code f) (code e)) [ inl lt ↦ inr (omega arith) | inr ge ↦ inl (same_code f e (omega arith)) ]

-- the same bytes, in the same encoding
pub same_bytes : (form : Form) (items : Items) (e f : Encoding) (a b : List ℕ) → f ≡ e → MayStand form items e a → MayStand form items f b → a ≡ b
same_bytes form items e f a b h p q =
    let at_e : MayStand form items e b = subst (λ x. MayStand form items x b) h q in
    encoded_once (width form) e items a b p.1 at_e.1

before_itself : (e f : Encoding) (a b : List ℕ) → f ≡ e → a ≡ b → IsBefore e a f b
before_itself e f a b h k = inr (ap length k, let same : code e ≡ code f = ap code (sym h) in omega arith)

-- the first, and the last where it is shorter
first_is_least : (form : Form) (items : Items) (e : Encoding) (a : List ℕ) → IsNoneUpTo form items (code e - 1) → MayStand form items e a → IsLeastUpTo form items (code e) e a
first_is_least form items e a none stands = (
  stands,
  omega arith,
  λ other others le there.
      elim (up_to e other le) [
        | inl same ↦ before_itself _ _ _ _ same (same_bytes form items _ _ _ _ same stands there)
        | inr less ↦ absurd (none other others less there)
      ],
)

shorter_is_least : (form : Form) (items : Items) (f e : Encoding) (b a : List ℕ) → IsLeastUpTo form items (code e - 1) f b → MayStand form items e a → length a < length b → IsLeastUpTo form items (code e) e a
shorter_is_least form items f e b a least stands lt = (
  stands,
  omega arith,
  λ other others le there.
      elim (up_to e other le) [
        | inl same ↦ before_itself _ _ _ _ same (same_bytes form items _ _ _ _ same stands there)
        | inr less ↦ elim (least.2 other others less there) [ inl h ↦ inl (omega arith) | inr h ↦ inl (omega arith) ]
      ],
)

-- the one before, where the new one is not shorter
kept_is_least : (form : Form) (items : Items) (f e : Encoding) (b a : List ℕ) → IsLeastUpTo form items (code e - 1) f b → MayStand form items e a → length b ≤ length a → IsLeastUpTo form items (code e) f b
kept_is_least form items f e b a least stands le = (
  least.0,
  omega arith,
  λ other others below there.
      elim (up_to e other below) [
        | inl same ↦ before_new f e other b a others (omega arith) le (ap code same) (same_bytes form items _ _ _ _ same stands there)
        | inr less ↦ least.2 other others less there
      ],
)
  where
    before_new : (e f g : Encoding) (a b d : List ℕ) → code e ≤ code f → length a ≤ length b → code g ≡ code f → b ≡ d → IsBefore e a g d
    before_new e f g a b d h k m n = let same : length b ≡ length d = ap length n in elim (cases_lt (length a) (length d)) [ inl lt ↦ inl lt | inr ge ↦ inr (omega arith, omega arith) ]

pub still_best : (form : Form) (items : Items) (best : Option Measured) (c result : Measured) → IsBestUpTo form items (code c.encoding - 1) best → Takes form items c.encoding c.len → IsShorter best c result → IsMeasuredUpTo form items (code c.encoding) result
still_best form items None c result before takes h = subst (IsMeasuredUpTo form items (code c.encoding)) (sym h) (takes.0, first_is_least form items c.encoding takes.0 before takes.1, takes.2)
still_best form items (Some best) c result before takes (inl h) =
    subst (IsMeasuredUpTo form items (code c.encoding)) (sym h.1) (before.0, kept_is_least form items best.encoding c.encoding before.0 takes.0 before.1 takes.1 (omega (arith, before.2, takes.2, h.0)), before.2)
still_best form items (Some best) c result before takes (inr h) =
    subst (IsMeasuredUpTo form items (code c.encoding)) (sym h.1) (takes.0, shorter_is_least form items best.encoding c.encoding before.0 takes.0 before.1 takes.1 (omega (arith, before.2, takes.2, h.0)), takes.2)

-- none of the new number either
pub still_none : (form : Form) (items : Items) (e : Encoding) → IsNoneUpTo form items (code e - 1) → ((bytes : List ℕ) → ¬ MayStand form items e bytes) → IsNoneUpTo form items (code e)
still_none form items e before here = λ other others le there.
    elim (up_to e other le) [
      | inl same ↦ here others (subst (λ x. MayStand form items x others) same there)
      | inr less ↦ before other others less there
    ]

-- some encoding may stand
pub some_stands : (form : Form) (items : Items) → AreValues form items → IsNoneUpTo form items 4 → ⊥
some_stands (Cells kind nullable) items h none = none Plain (plain.spelling (width (Cells kind nullable)) items) (lit≤ tt) (tt, refl)
some_stands Keys (Numbers zs) h none = elim h.fits [ ]
some_stands Keys (Texts ts) h none = none Prefix (prefix.spelling ts) (lit≤ tt) (refl, (fits_together ts (small_texts Keys ts h), refl))

-- one encoding is the shortest
pub one_shortest : (form : Form) (items : Items) (e f : Encoding) (a b : List ℕ) → IsShortest form items e a → IsShortest form items f b → e ≡ f
one_shortest form items e f a b p q =
    same_code e f (elim (p.least f b q.stands) [
      | inl less ↦ elim (q.least e a p.stands) [ inl more ↦ omega arith | inr same ↦ omega (arith, same.0) ]
      | inr here ↦ elim (q.least e a p.stands) [ inl more ↦ omega (arith, here.0) | inr same ↦ omega (arith, here.1, same.1) ]
    ])

pub shortest_again : (form : Form) (items : Items) (e f : Encoding) (a b : List ℕ) → IsShortest form items e a → f ≡ e → MayStand form items f b → IsShortest form items f b
shortest_again form items e f a b p h q =
    let same : a ≡ b = same_bytes form items e f a b h p.stands q in
    subst (λ x. IsShortest form items x b) (sym h) (subst (λ x. IsShortest form items e x) same p)

pub shortest_of_code : (form : Form) (items : Items) (e f : Encoding) (b : List ℕ) → ((a : List ℕ) × IsShortest form items e a) → code e ≡ code f → MayStand form items f b → IsShortest form items f b
shortest_of_code form items e f b p h q = shortest_again form items e f p.0 b p.1 (sym (same_code e f h)) q

pub not_of_code : (form : Form) (items : Items) (e f : Encoding) (b : List ℕ) → ((a : List ℕ) × IsShortest form items e a) → (code e ≡ code f → ⊥) → ¬ IsShortest form items f b
not_of_code form items e f b p h q = h (ap code (one_shortest form items e f p.0 b p.1 q))

-- what follows from a test of two numbers
pub if_same : (P : Type 0) (a b : ℕ) → (a ≡ b → P) → OnTrue (eqb a b) P
if_same P a b then = (elim (eqb a b) as (λ t. eqb a b ≡ t → OnTrue t P) [ true ↦ λ e. then (eqb-true a b e) | false ↦ λ e. tt ]) refl

pub if_not_same : (P : Type 0) (a b : ℕ) → ((a ≡ b → ⊥) → P) → OnFalse (eqb a b) P
if_not_same P a b then = (elim (eqb a b) as (λ t. eqb a b ≡ t → OnFalse t P) [ true ↦ λ e. tt | false ↦ λ e. then (eqb-false a b e) ]) refl
