use Rattle.std.proofs.Common.{◌≡◌, ◌*◌, ◌+◌, arith, length, sym, ◌∙◌, refl, rules, get_or, drop}
use Rattle.std.specs.Prelude.{pos, ℤ, FitsSigned}
use Rattle.std.specs.Int.{w16, w64}
use Rattle.std.proofs.lemmas.Int.{to_z-of_z}
use Rattle.std.proofs.lemmas.List.{take_all}
use Rattle.kt_plain.specs.declared.widths.NumberWidth.TheVariants.{Two}
use Rattle.kt_plain.specs.Widths.{number}
use Rattle.kt_plain.proofs.Steps.{written_more}
use Rattle.kt_plain.proofs.encoding.write_two.Goals as goal

pub items-preserved : goal.items-preserved
items-preserved c =
    let z : ℤ = get_or c.args.values.now c.items.i (pos 0) in
    let narrow : FitsSigned w16 z = c.requires.fits c.items.i (pos 0) c.items-test.true in
    let wide : FitsSigned w64 z = search rules in
    let e : 2 * (c.items.i + 1) ≡ 2 * c.items.i + 2 = omega arith in
    let len = c.items.auto.out in
    rw (e, c.put_two.ensures, to_z-of_z w64 z wide, to_z-of_z w16 z narrow)
    (written_more (number Two) 2 c.args.values.now (pos 0) c.items.out (drop (2 * c.items.i + 2) c.items.out) c.items.i (omega arith) c.items-test.true refl c.items.invariant)

pub returns : goal.returns
returns c =
    let len = c.items.auto.out in
    let done : c.items.i ≡ length c.args.values.now = omega arith in
    sym (take_all (2 * c.items.i) c.items.out (omega arith)) ∙ rw (take_all c.items.i c.args.values.now (omega arith)) at c.items.invariant
