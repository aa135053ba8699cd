use Rattle.std.proofs.Common.{ap, ◌∙◌}
use Rattle.std.specs.Prelude.{◌≢◌}
use Rattle.std.proofs.lemmas.List.Elements.{recursion_from_All}
use Rattle.kt_script.specs.Pieces.{cut}
use Rattle.kt_script.proofs.Cuts.{cut_front, cut_end}
use Rattle.kt_opening.proofs.opening_lines.cut_space.Goals as goal

pub returns-in-Some : goal.returns-in-Some
returns-in-Some c = ap (cut 32) c.in-Some.ensures.cut ∙ cut_front 32 c.in-Some.word.now c.in-Some.rest.now (recursion_from_All (λ b. b ≢ 32) c.in-Some.word.now c.in-Some.ensures.first)

pub returns-in-None : goal.returns-in-None
returns-in-None c = cut_end 32 c.args.text.now (recursion_from_All (λ b. b ≢ 32) c.args.text.now c.in-None.ensures.none)
