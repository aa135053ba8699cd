use Rattle.std.proofs.Common.{sym, subst, ap, ◌∙◌, ◌≡◌}
use Rattle.std.specs.Int.{w64}
use Rattle.std.specs.Prelude.{FitsSigned}
use Rattle.std.specs.Fmt.{signed_decimal}
use Rattle.std.proofs.lemmas.Int.{to_z-of_z}
use Rattle.kt_base.proofs.Decimals.{is_ascii, read_back, same_number, differ}
use Rattle.kt_base.proofs.literal.number_of.Goals as goal

pub returns-in_default-clause-none : goal.returns-in_default-clause-none
returns-in_default-clause-none c = λ n fits e. c.in_default.ensures.cases.0 (is_ascii n c.args.bytes.now fits e)

pub returns-in_default-parse-clause-none : goal.returns-in_default-parse-clause-none
returns-in_default-parse-clause-none c = λ n fits e. let back = read_back n c.in-Ok.text.now _ fits (c.in-Ok.ensures.cases.0 ∙ e) c.parse.ensures.value.0 in c.in_default-parse.not-Ok n back

pub returns-else-eq-clause-none : goal.returns-else-eq-clause-none
returns-else-eq-clause-none c = λ n fits e.
    let back = read_back n c.in-Ok.text.now c.parse.result fits (c.in-Ok.ensures.cases.0 ∙ e) c.parse.ensures.value.0 in
    let number : c.in-Ok-parse.number ≡ n = same_number c.in-Ok-parse.number n (sym c.in-Ok-parse.is ∙ back) in
    let its : FitsSigned w64 c.in-Ok-parse.number = subst (FitsSigned w64) (sym number) fits in
    differ c.as_bytes.result.now c.args.bytes.now c.if-eq.ensures (c.as_bytes.ensures.value ∙ (c.format.ensures.text ∙ (ap signed_decimal (to_z-of_z w64 c.in-Ok-parse.number its ∙ number) ∙ sym e)))
