-- Reading between the quotes of a literal.
use Rattle.std.proofs.Common.{◌≡◌, ℕ, suc, ◌+◌, ◌<◌, List, [], ◌∷◌, ◌++◌, refl, sym, ap, subst, ◌∙◌, arith, length, Bool, true, false, cond, append_assoc, Option, Some, None, take}
use mathlib.Core.List.{append-nil}
use Rattle.std.specs.Prelude.{◌||◌, ◌==◌, nat_lt, nat_le, if◌then◌else◌, not}
use Rattle.std.specs.List.{before_first, prefix_len, AllByRecursion}
use Rattle.std.specs.Option.{option_map}
use Rattle.kt_base.specs.Literals.{hex_value, is_hex, is_escaped, with_byte, unquoted, among, high, low}

pub short_high : (xs : List ℕ) → length xs < 2 → unquoted high xs ≡ None
short_high [] h = refl
short_high (x ∷ []) h = elim (is_hex x) as (λ t. (if t then unquoted (low (hex_value x)) [] else None) ≡ None) [ true ↦ refl | false ↦ refl ]
short_high (x ∷ y ∷ xs) h = absurd (omega arith)

-- bytes that stand for themselves
abbrev pub Plain : List ℕ → Type 0
Plain bytes = AllByRecursion (λ b. is_escaped b ≡ false) bytes

pub front_plain : (bytes : List ℕ) → Plain (before_first is_escaped bytes)
front_plain [] = tt
front_plain (b ∷ bytes) = by_test (front_plain bytes) (is_escaped b) refl
  where
    by_test : Plain (before_first is_escaped bytes) → (t : Bool) → is_escaped b ≡ t → Plain (take (cond (not t) (1 + prefix_len (λ x. not (is_escaped x)) bytes) 0) (b ∷ bytes))
    by_test later true e = tt
    by_test later false e =
        let n : ℕ = prefix_len (λ x. not (is_escaped x)) bytes in
        let one : 1 + n ≡ suc n = omega arith in
        let front : Plain (b ∷ take n bytes) = (e, later) in
        subst (λ k. Plain (take k (b ∷ bytes))) (sym one) front

stands : (a b c : Bool) (x y z w : Option (List ℕ)) → ((a || b) || c) ≡ false → (if a then x else (if b then y else (if (a || b) || c then z else w))) ≡ w
stands true b c x y z w h = cc
stands false true c x y z w h = cc
stands false false true x y z w h = cc
stands false false false x y z w h = refl

behind_byte : (b : ℕ) (front : List ℕ) (read : Option (List ℕ)) → with_byte b (option_map (λ t. front ++ t) read) ≡ option_map (λ t. (b ∷ front) ++ t) read
behind_byte b front None = refl
behind_byte b front (Some t) = refl

behind_none : (read : Option (List ℕ)) → read ≡ option_map (λ (t : List ℕ). [] ++ t) read
behind_none None = refl
behind_none (Some t) = refl

-- bytes that stand for themselves are read as themselves
pub plain_read : (front s : List ℕ) → Plain front → unquoted among (front ++ s) ≡ option_map (λ t. front ++ t) (unquoted among s)
plain_read [] s p = behind_none (unquoted among s)
plain_read (b ∷ front) s p =
    stands (b == 34) (b == 92) ((nat_lt b 32 || (b == 127)) || nat_le 256 b) _ _ _ _ p.0 ∙ (ap (with_byte b) (plain_read front s p.1) ∙ behind_byte b front (unquoted among s))

-- what is read so far, and the rest
abbrev pub after_bytes : List ℕ → Option (List ℕ) → Option (List ℕ)
after_bytes bytes read = option_map (λ t. bytes ++ t) read

pub after_none : (read : Option (List ℕ)) → read ≡ after_bytes [] read
after_none read = behind_none read

after_run : (bytes plain : List ℕ) (b : ℕ) (read : Option (List ℕ)) → after_bytes bytes (after_bytes plain (with_byte b read)) ≡ after_bytes ((bytes ++ plain) ++ b ∷ []) read
after_run bytes plain b None = refl
after_run bytes plain b (Some t) = ap Some (simp append_assoc)

pub after_byte : (bytes : List ℕ) (b : ℕ) (read : Option (List ℕ)) → after_bytes bytes (with_byte b read) ≡ after_bytes (bytes ++ b ∷ []) read
after_byte bytes b None = refl
after_byte bytes b (Some t) = ap Some (simp append_assoc)

-- one run and one byte more
pub run_step : (inside rest plain special behind bytes new newest : List ℕ) (b : ℕ) → unquoted among inside ≡ after_bytes bytes (unquoted among rest) → rest ≡ plain ++ special → plain ≡ before_first is_escaped rest
    → unquoted among special ≡ with_byte b (unquoted among behind) → new ≡ bytes ++ plain → newest ≡ new ++ b ∷ []
    → unquoted among inside ≡ after_bytes newest (unquoted among behind)
run_step inside rest plain special behind bytes new newest b so cut front next new_is newest_is =
    let self : Plain plain = subst Plain (sym front) (front_plain rest) in
    let read : unquoted among rest ≡ after_bytes plain (with_byte b (unquoted among behind)) = ap (unquoted among) cut ∙ (plain_read plain special self ∙ ap (after_bytes plain) next) in
    let is : (bytes ++ plain) ++ b ∷ [] ≡ newest = sym (newest_is ∙ ap (λ x. x ++ b ∷ []) new_is) in
    so ∙ (ap (after_bytes bytes) read ∙ (after_run bytes plain b (unquoted among behind) ∙ ap (λ x. after_bytes x (unquoted among behind)) is))

-- one run, and the end
pub run_end : (inside rest plain special bytes new : List ℕ) (read : Option (List ℕ)) → unquoted among inside ≡ after_bytes bytes (unquoted among rest) → rest ≡ plain ++ special → plain ≡ before_first is_escaped rest
    → unquoted among special ≡ read → new ≡ bytes ++ plain → unquoted among inside ≡ after_bytes new read
run_end inside rest plain special bytes new read so cut front next new_is =
    let self : Plain plain = subst Plain (sym front) (front_plain rest) in
    let rest_read : unquoted among rest ≡ after_bytes plain read = ap (unquoted among) cut ∙ (plain_read plain special self ∙ ap (after_bytes plain) next) in
    so ∙ (ap (after_bytes bytes) rest_read ∙ (regroup read ∙ ap (λ x. after_bytes x read) (sym new_is)))
  where
    regroup : (o : Option (List ℕ)) → after_bytes bytes (after_bytes plain o) ≡ after_bytes (bytes ++ plain) o
    regroup None = refl
    regroup (Some t) = ap Some (sym (append_assoc bytes plain t))

-- a run of bytes that stand for themselves, and the quote that ends them
pub run_quoted : (inside plain special : List ℕ) → inside ≡ plain ++ special → plain ≡ before_first is_escaped inside → special ≡ 34 ∷ [] → unquoted among inside ≡ Some plain
run_quoted inside plain special cut front quote =
    let self : Plain plain = subst Plain (sym front) (front_plain inside) in
    ap (unquoted among) (cut ∙ ap (λ x. plain ++ x) quote) ∙ (plain_read plain (34 ∷ []) self ∙ ap Some (append-nil plain))
