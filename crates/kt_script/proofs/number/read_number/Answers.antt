use Rattle.std.proofs.Common.{◌≡◌, sym, subst, ap, ◌∙◌, arith}
use Rattle.std.specs.Fmt.{decimal}
use Rattle.std.specs.Str.{IsAscii}
use Rattle.std.proofs.lemmas.Str.{IsUtf8-from_ascii}
use Rattle.std.proofs.lemmas.Fmt.{IsAscii-decimal, parse-decimal}
use Rattle.kt_script.specs.Laws.{Fits64}
use Rattle.kt_script.specs.Outputs.{number_in}
use Rattle.kt_base.proofs.Decimals.{differ, same_text}
use Rattle.kt_script.proofs.ToldLines.{number_none, number_told, same_ok}
use Rattle.kt_script.proofs.number.read_number.Goals as goal

pub returns-in_default : goal.returns-in_default
returns-in_default c = sym (number_none c.args.word.now (λ n fits e. c.in_default.ensures.cases.0 (IsUtf8-from_ascii c.args.word.now (subst IsAscii (sym e) (IsAscii-decimal n fits)))))

pub returns-in_default-parse : goal.returns-in_default-parse
returns-in_default-parse c = sym (number_none c.args.word.now (λ n fits e. c.in_default-parse.not-Ok n (parse-decimal 64 n c.in-Ok.text.now c.parse.result fits fits (c.in-Ok.ensures.cases.0 ∙ e) c.parse.ensures.value.0)))

pub returns-then-eq : goal.returns-then-eq
returns-then-eq c =
    let fits : Fits64 c.in-Ok-parse.number = omega arith in
    let word : c.as_bytes.result.now ≡ c.args.word.now = same_text c.as_bytes.result.now c.args.word.now (sym c.if-eq.ensures) in
    let printed : c.as_bytes.result.now ≡ decimal c.in-Ok-parse.number = c.as_bytes.ensures.value ∙ c.format.ensures.text in
    sym (ap number_in (sym word ∙ printed) ∙ number_told c.in-Ok-parse.number fits)

pub returns-else-eq : goal.returns-else-eq
returns-else-eq c = sym (number_none c.args.word.now (λ n fits e.
    let back = parse-decimal 64 n c.in-Ok.text.now c.parse.result fits fits (c.in-Ok.ensures.cases.0 ∙ e) c.parse.ensures.value.0 in
    let number : c.in-Ok-parse.number ≡ n = same_ok c.in-Ok-parse.number n (sym c.in-Ok-parse.is ∙ back) in
    differ c.as_bytes.result.now c.args.word.now c.if-eq.ensures (c.as_bytes.ensures.value ∙ c.format.ensures.text ∙ ap decimal number ∙ sym e)))
