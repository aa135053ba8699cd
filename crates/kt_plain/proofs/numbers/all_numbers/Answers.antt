use Rattle.std.proofs.Common.{◌∙◌, ◌++◌, ◌∷◌, [], List, ℤ, ap, sym, rules}
use Rattle.std.specs.Prelude.{FitsSigned}
use Rattle.std.specs.Int.{w64}
use Rattle.std.proofs.lemmas.Int.{to_z-of_z}
use Rattle.kt_plain.specs.Widths.{values}
use Rattle.kt_plain.proofs.Fields.{values-more}
use Rattle.kt_plain.proofs.numbers.all_numbers.Goals as goal

pub numbers-preserved : goal.numbers-preserved
numbers-preserved c =
    let wide : FitsSigned w64 c.number_in.result = search rules in
    let same = to_z-of_z w64 c.number_in.result wide in
    c.in_ok-push.ensures.items ∙ ap (λ (z : ℤ). c.numbers.numbers.items ++ z ∷ []) same ∙ ap (λ (zs : List ℤ). zs ++ c.number_in.result ∷ []) c.numbers.invariant
    ∙ ap (λ (z : ℤ). values c.args.width c.numbers.i c.args.bytes.now ++ z ∷ []) c.number_in.ensures ∙ sym (values-more c.args.width c.numbers.i c.args.bytes.now)
