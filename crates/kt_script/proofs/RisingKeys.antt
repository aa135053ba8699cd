-- Keys that rise are different keys.
use Rattle.std.proofs.Common.{◌≡◌, ℕ, ◌+◌, ◌<◌, Bool, true, false, ◌||◌, List, [], ◌∷◌, length, get_or, drop, map, refl, sym, ap, subst, ◌∙◌, arith}
use Rattle.std.specs.List.{list_any}
use Rattle.std.specs.Ordering.{nat_cmp, is_lt}
use Rattle.std.specs.declared.cmp.Ordering.{Ordering}
use Rattle.std.specs.declared.cmp.Ordering.TheVariants.{Less, Equal, Greater}
use Rattle.std.specs.Cmp.Lexicographic.{slice_cmp}
use Rattle.std.proofs.lemmas.Bool.{false≢true}
use Rattle.std.proofs.lemmas.Cmp.{nat_list_cmp_total, tied_itself}
use Rattle.kt_base.specs.Literals.{same}
use Rattle.kt_base.proofs.Decimals.{same_text}
use Rattle.kt_history.specs.declared.operation.RowOp.{RowOp}
use Rattle.kt_script.specs.Writes.{front, twice}
use Rattle.kt_script.proofs.OpWords.{next_one}

-- each key stands so to the one before it
abbrev pub Rise : (List ℕ → List ℕ → Type 0) → List (List ℕ) → Type 0
Rise Below [] = Unit {0}
Rise Below (x ∷ []) = Unit {0}
Rise Below (x ∷ y ∷ keys) = Below x y × Rise Below (y ∷ keys)

module _ (Below : List ℕ → List ℕ → Type 0) where
  -- the first key and those behind it are all of them
  pub first_key : (ops : List RowOp) (o : RowOp) (key : List ℕ) → 0 < length ops → o ≡ get_or ops 0 o → key ≡ o.key → Rise Below (key ∷ map (λ (p : RowOp). p.key) (drop 1 ops)) → Rise Below (map (λ (p : RowOp). p.key) ops)
  first_key ops o key some is own r =
      let all : ops ≡ o ∷ drop 1 ops = next_one ops 0 o some is in
      subst (Rise Below) (ap (λ k. k ∷ map (λ (p : RowOp). p.key) (drop 1 ops)) own ∙ sym (ap (map (λ (p : RowOp). p.key)) all)) r

  -- one key more, behind the last one
  pub next_key : (ops : List RowOp) (at : ℕ) (last : List ℕ) (o : RowOp) (key : List ℕ) → at < length ops → o ≡ get_or ops at o → key ≡ o.key → Below last key
      → (Rise Below (last ∷ map (λ (p : RowOp). p.key) (drop at ops)) → Rise Below (map (λ (p : RowOp). p.key) ops)) → Rise Below (key ∷ map (λ (p : RowOp). p.key) (drop (at + 1) ops)) → Rise Below (map (λ (p : RowOp). p.key) ops)
  next_key ops at last o key lt is own below so r =
      let here : drop at ops ≡ o ∷ drop (at + 1) ops = next_one ops at o lt is in
      let keys : key ∷ map (λ (p : RowOp). p.key) (drop (at + 1) ops) ≡ map (λ (p : RowOp). p.key) (drop at ops) = ap (λ k. k ∷ map (λ (p : RowOp). p.key) (drop (at + 1) ops)) own ∙ sym (ap (map (λ (p : RowOp). p.key)) here) in
      so (subst (λ ks. Rise Below (last ∷ ks)) keys (below, r))

  module _ (then : (x y z : List ℕ) → Below x y → Below y z → Below x z) (other : (x y : List ℕ) → Below x y → same x y ≡ false) where
    -- without the second key
    skip : (x y : List ℕ) (keys : List (List ℕ)) → Rise Below (x ∷ y ∷ keys) → Rise Below (x ∷ keys)
    skip x y [] r = tt
    skip x y (z ∷ keys) r = (then x y z r.0 r.1.0, r.1.1)

    others : (x : List ℕ) (keys : List (List ℕ)) → Rise Below (x ∷ keys) → list_any (λ y. same x y) keys ≡ false
    others x [] r = refl
    others x (y ∷ keys) r = ap (λ t. t || list_any (λ z. same x z) keys) (other x y r.0) ∙ others x keys (skip x y keys r)

    behind : (x : List ℕ) (keys : List (List ℕ)) → Rise Below (x ∷ keys) → Rise Below keys
    behind x [] q = tt
    behind x (y ∷ keys) q = q.1

    pub apart : (keys : List (List ℕ)) → Rise Below keys → twice keys ≡ false
    apart [] r = refl
    apart (x ∷ keys) r = ap (λ t. t || twice keys) (others x keys r) ∙ apart keys (behind x keys r)

-- ---- each key is above the one before it

abbrev pub IsBelow : List ℕ → List ℕ → Type 0
IsBelow x y = slice_cmp nat_cmp x y ≡ Less

pub less : (o : Ordering) → is_lt o ≡ true → o ≡ Less
less Less e = refl
less Equal e = absurd (false≢true e)
less Greater e = absurd (false≢true e)

other_key : (x y : List ℕ) → IsBelow x y → same x y ≡ false
other_key x y below = by (same x y) refl
  where
    by : (t : Bool) → same x y ≡ t → t ≡ false
    by true e =
        let tied : slice_cmp nat_cmp x y ≡ Equal = ap (slice_cmp nat_cmp x) (sym (same_text x y e)) ∙ tied_itself nat_list_cmp_total x in
        let clash : Less ≡ Equal = sym below ∙ tied in
        absurd cc
    by false e = refl

pub rising_apart : (keys : List (List ℕ)) → Rise IsBelow keys → twice keys ≡ false
rising_apart keys r = apart IsBelow (λ x y z. nat_list_cmp_total.trans x y z) other_key keys r

-- ---- the first eight bytes of each are above those of the one before it

abbrev pub IsFrontBelow : List ℕ → List ℕ → Type 0
IsFrontBelow x y = front x < front y

other_front : (x y : List ℕ) → IsFrontBelow x y → same x y ≡ false
other_front x y below = by (same x y) refl
  where
    by : (t : Bool) → same x y ≡ t → t ≡ false
    by true e = absurd (let alike : front x ≡ front y = ap front (same_text x y e) in omega (arith, below, alike))
    by false e = refl

pub fronts_apart : (keys : List (List ℕ)) → Rise IsFrontBelow keys → twice keys ≡ false
fronts_apart keys r = apart IsFrontBelow (λ x y z p q. omega (arith, p, q)) other_front keys r
