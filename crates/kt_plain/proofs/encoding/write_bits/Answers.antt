use Rattle.std.proofs.Common.{◌≡◌, ◌⊎◌, arith, length, sym, ◌∙◌, rules, get_or, inl, inr, refl}
use Rattle.std.specs.Prelude.{pos, ℤ, FitsSigned, nat_abs}
use Rattle.std.specs.Int.{w8, w64, cast_unsigned}
use Rattle.std.proofs.lemmas.Int.{to_z-of_z}
use Rattle.std.proofs.lemmas.List.{take_all}
use Rattle.kt_plain.proofs.Steps.{byte_more}
use Rattle.kt_plain.proofs.encoding.write_bits.Goals as goal

bit_byte : (z : ℤ) → (z ≡ pos 0) ⊎ (z ≡ pos 1) → nat_abs z ≡ cast_unsigned w8 z
bit_byte z (inl e) = rw e refl
bit_byte z (inr e) = rw e refl

pub items-preserved : goal.items-preserved
items-preserved c =
    let z : ℤ = get_or c.args.values.now c.items.i (pos 0) in
    let bit = c.requires.fits c.items.i (pos 0) c.items-test.true in
    let wide : FitsSigned w64 z = search rules in
    let len = c.items.auto.out in
    let is : nat_abs z ≡ cast_unsigned w8 z = bit_byte z bit in
    rw (to_z-of_z w64 z wide) (byte_more (λ x. cast_unsigned w8 x) c.args.values.now (pos 0) c.items.out (nat_abs z) c.items.i (omega arith) c.items-test.true is c.items.invariant)

pub returns : goal.returns
returns c =
    let len = c.items.auto.out in
    let done : c.items.i ≡ length c.args.values.now = omega arith in
    sym (take_all c.items.i c.items.out (omega arith)) ∙ rw (take_all c.items.i c.args.values.now (omega arith)) at c.items.invariant
