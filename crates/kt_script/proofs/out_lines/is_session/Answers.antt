use Rattle.std.proofs.Common.{[], ◌++◌, ap, ◌∙◌, sym}
use Rattle.std.specs.Fmt.{decimal}
use Rattle.std.proofs.lemmas.List.{append-nil}
use Rattle.kt_base.specs.Literals.{same}
use Rattle.kt_script.specs.Texts.{session_line}
use Rattle.kt_script.proofs.ToldLines.{not_same}
use Rattle.kt_script.proofs.out_lines.is_session.Goals as goal

pub returns-in_default : goal.returns-in_default
returns-in_default c = sym (not_same c.args.line.now (session_line c.args.number) (λ e. c.in_default.ensures.none (decimal c.args.number ++ []) e))

pub returns : goal.returns
returns c =
    c.eq.ensures ∙ ap (same c.in-Some.digits.now) (c.as_bytes.ensures.value ∙ c.format.ensures.text ∙ sym (append-nil (decimal c.args.number)))
    ∙ sym (ap (λ l. same l (session_line c.args.number)) c.in-Some.ensures.found)
