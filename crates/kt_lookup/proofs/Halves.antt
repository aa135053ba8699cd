-- Halving what is left to search.
use Rattle.std.proofs.Common.{◌≡◌, ℕ, suc, ◌+◌, ◌*◌, ◌^◌, ◌<◌, ◌≤◌, refl, ap, ◌∙◌, subst, arith}
use Rattle.std.proofs.Math.Nat.{pow-succ'}
use Rattle.std.proofs.lemmas.Nat.{mul-le}

-- s comparisons were made, and so many entries of n are left
pub record Halved (n s left : ℕ) : Type 0 where
  pub spread : 2 ^ s * left ≤ n
  pub cost : 2 ^ s ≤ 2 * n + 1

pub halved_none : (n : ℕ) → Halved n 0 n
halved_none n = record { spread = omega arith; cost = omega arith }

pub halved_more : (n s t left left' : ℕ) → t ≡ suc s → 0 < left → 2 * left' ≤ left → Halved n s left → Halved n t left'
halved_more n s t left left' e some half h =
    let twice : 2 ^ t ≡ 2 * 2 ^ s = ap (λ (k : ℕ). 2 ^ k) e ∙ pow-succ' 2 s in
    let all = h.spread in
    let fewer = mul-le (2 ^ s) (2 * left') (2 ^ s) left (omega arith) half in
    let one = mul-le (2 ^ s) 1 (2 ^ s) left (omega arith) some in
    let shape : 2 * 2 ^ s * left' ≡ 2 ^ s * (2 * left') = omega arith in
    record {
      spread = subst (λ (k : ℕ). k * left' ≤ n) (◌∙◌ {A = ℕ} (symm twice) refl) (omega (arith, shape, fewer, all));
      cost = omega (arith, twice, one, all);
    }
  where
    symm : {a b : ℕ} → a ≡ b → b ≡ a
    symm e = cc
