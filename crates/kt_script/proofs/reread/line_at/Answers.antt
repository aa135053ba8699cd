use Rattle.std.proofs.Common.{◌∙◌, sym, subst}
use Rattle.std.specs.Prelude.{◌≢◌, All}
use Rattle.kt_script.proofs.Moves.{line_found}
use Rattle.kt_script.proofs.reread.line_at.Goals as goal

pub returns-in-Some : goal.returns-in-Some
returns-in-Some c = line_found c.args.text.now c.args.at c.in-Some.line.now c.in-Some.field-0-1.now c.requires (sym c.split_at.ensures.back ∙ c.in-Some.ensures.cut) c.in-Some.ensures.first

pub returns-in-None : goal.returns-in-None
returns-in-None c = subst (All (λ b. b ≢ 10)) c.split_at.ensures.back c.in-None.ensures.none
