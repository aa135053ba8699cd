use Rattle.std.proofs.Common.{◌∷◌, ap, ◌∙◌}
use Rattle.kt_script.specs.Outputs.{pieces_in}
use Rattle.kt_opening.proofs.LineReads.{alone_none}
use Rattle.kt_opening.proofs.opening_lines.number_alone.Goals as goal

pub returns-in-Some : goal.returns-in-Some
returns-in-Some c =
    alone_none (pieces_in c.args.rest) c.in_ok-digits.digits.now c.in-Some.field-0.now
    (c.in_ok-digits.ensures.some ∙ ap (λ more. c.in_ok-digits.digits.now ∷ more) (ap pieces_in c.in-Some.is))
