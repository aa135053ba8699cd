use Rattle.std.proofs.Common.{subst, sym, ◌∙◌, drop}
use Rattle.std.specs.Prelude.{◌≢◌, All}
use Rattle.std.proofs.lemmas.List.Elements.{recursion_from_All}
use Rattle.kt_script.proofs.Cuts.{cut_end}
use Rattle.kt_script.proofs.Moves.{line_found}
use Rattle.kt_opening.proofs.lines.line_at.Goals as goal

pub returns-in-Some : goal.returns-in-Some
returns-in-Some c =
    let stands = line_found c.args.text.now c.args.at c.in-Some.line.now c.in-Some.field-0-1.now c.requires (sym c.split_at.ensures.back ∙ c.in-Some.ensures.cut) c.in-Some.ensures.first in
    (stands.parted, stands.within)

pub returns-in-None : goal.returns-in-None
returns-in-None c = cut_end 10 (drop c.args.at c.args.text.now) (recursion_from_All (λ b. b ≢ 10) (drop c.args.at c.args.text.now) (subst (All (λ b. b ≢ 10)) c.split_at.ensures.back c.in-None.ensures.none))
