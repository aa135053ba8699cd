-- Bits that are set one after another.
use Rattle.std.proofs.Common.{◌≡◌, ◌≢◌, ◌⊎◌, ◌↔◌, ℕ, ◌+◌, ◌*◌, ◌/◌, ◌%◌, ◌^◌, ◌<◌, List, length, set, get_or, bit_or, sym, ap, ◌∙◌, arith, inl, inr}
use Rattle.std.specs.Int.{w8, bit_at}
use Rattle.std.proofs.lemmas.Bool.{cases_eq, cases_lt}
use Rattle.std.proofs.lemmas.List.{get_or-set_same, get_or-set_other}
use Rattle.std.proofs.lemmas.Nat.Bits.{bit_at_set_same, bit_at_set_other}
use Rattle.kt_lookup.specs.Hash.{bit_of}
use Rattle.kt_lookup.specs.Filter.{HasBit}

-- the byte of a bit with the bit set
abbrev with_bit : List ℕ → ℕ → ℕ
with_bit bytes k = bit_or (get_or bytes (k / 8) 0) (1 * 2 ^ (k % 8) % 256)

only_same : (x y j k a b : ℕ) → a ≡ b → x ≢ y → (j ≡ k → x ≡ y) → (b ≡ 1) ⊎ (j ≡ k) → a ≡ 1
only_same x y j k a b kept not same (inl h) = kept ∙ h
only_same x y j k a b kept not same (inr e) = absurd (not (same e))

pub bit_set : (bytes : List ℕ) (k : ℕ) → k < 8 * length bytes → (j : ℕ) → HasBit (set bytes (k / 8) (with_bit bytes k)) j ↔ (HasBit bytes j ⊎ (j ≡ k))
bit_set bytes k lt j =
    let inside : k / 8 < length bytes = omega arith in
    elim (cases_eq (j / 8) (k / 8)) [
      | inl same ↦
          let byte : get_or (set bytes (k / 8) (with_bit bytes k)) (j / 8) 0 ≡ with_bit bytes k = ap (λ (i : ℕ). get_or (set bytes (k / 8) (with_bit bytes k)) i 0) same ∙ get_or-set_same bytes (k / 8) (with_bit bytes k) 0 inside in
          elim (cases_eq (j % 8) (k % 8)) [
            | inl bit ↦
                let e : j ≡ k = omega arith in
                let one : HasBit (set bytes (k / 8) (with_bit bytes k)) j =
                ap (λ (b : ℕ). bit_at b (j % 8)) byte ∙ ap (bit_at (with_bit bytes k)) bit ∙ bit_at_set_same w8 (get_or bytes (k / 8) 0) (k % 8) (omega arith) in
                ((λ h. inr e), (λ h. one))
            | inr other ↦
                let kept : bit_at (get_or (set bytes (k / 8) (with_bit bytes k)) (j / 8) 0) (j % 8) ≡ bit_at (get_or bytes (j / 8) 0) (j % 8) =
                ap (λ (b : ℕ). bit_at b (j % 8)) byte ∙ bit_at_set_other w8 (get_or bytes (k / 8) 0) (k % 8) (omega arith) (j % 8) other ∙ ap (λ (i : ℕ). bit_at (get_or bytes i 0) (j % 8)) (sym same) in
                ((λ h. inl (sym kept ∙ h)), (λ h. only_same (j % 8) (k % 8) j k (bit_at (get_or (set bytes (k / 8) (with_bit bytes k)) (j / 8) 0) (j % 8)) (bit_at (get_or bytes (j / 8) 0) (j % 8)) kept other (λ e. ap (λ (i : ℕ). i % 8) e) h))
          ]
      | inr far ↦
          let kept : bit_at (get_or (set bytes (k / 8) (with_bit bytes k)) (j / 8) 0) (j % 8) ≡ bit_at (get_or bytes (j / 8) 0) (j % 8) =
          ap (λ (b : ℕ). bit_at b (j % 8)) (get_or-set_other bytes (k / 8) (j / 8) (with_bit bytes k) 0 far) in
          ((λ h. inl (sym kept ∙ h)), (λ h. only_same (j / 8) (k / 8) j k (bit_at (get_or (set bytes (k / 8) (with_bit bytes k)) (j / 8) 0) (j % 8)) (bit_at (get_or bytes (j / 8) 0) (j % 8)) kept far (λ e. ap (λ (i : ℕ). i / 8) e) h))
    ]

-- a hash sets the bit as one of its first
abbrev pub Upto : ℕ → ℕ → ℕ → ℕ → Type 0
Upto bits hash n j = (i : ℕ) × (i < n) × (bit_of bits hash i ≡ j)

pub bits_none : (P : Type 0) (bits hash j : ℕ) → P ↔ (P ⊎ Upto bits hash 0 j)
bits_none P bits hash j = ((λ p. inl p), (λ h. first h))
  where
    first : (P ⊎ Upto bits hash 0 j) → P
    first (inl p) = p
    first (inr (i, lt, e)) = absurd (omega arith)

pub bits_more : (P Q R : Type 0) (bits hash i k j : ℕ) → (R ↔ (Q ⊎ (j ≡ k))) → k ≡ bit_of bits hash i → (Q ↔ (P ⊎ Upto bits hash i j)) → R ↔ (P ⊎ Upto bits hash (i + 1) j)
bits_more P Q R bits hash i k j step is before = ((λ r. there (step.0 r)), (λ h. step.1 (back h)))
  where
    more : (P ⊎ Upto bits hash i j) → P ⊎ Upto bits hash (i + 1) j
    more (inl p) = inl p
    more (inr (m, lt, e)) = inr (m, omega arith, e)

    there : (Q ⊎ (j ≡ k)) → P ⊎ Upto bits hash (i + 1) j
    there (inl q) = more (before.0 q)
    there (inr e) = inr (i, omega arith, sym (e ∙ is))

    back : (P ⊎ Upto bits hash (i + 1) j) → Q ⊎ (j ≡ k)
    back (inl p) = inl (before.1 (inl p))
    back (inr (m, lt, e)) = elim (cases_lt m i) [
      | inl less ↦ inl (before.1 (inr (m, less, e)))
      | inr le ↦ let same : m ≡ i = omega arith in inr (sym e ∙ ap (bit_of bits hash) same ∙ sym is)
    ]
