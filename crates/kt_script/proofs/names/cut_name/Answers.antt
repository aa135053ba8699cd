use Rattle.std.proofs.Common.{ap, ◌∙◌}
use Rattle.std.specs.Prelude.{◌≢◌}
use Rattle.std.proofs.lemmas.List.Elements.{recursion_from_All}
use Rattle.kt_script.specs.Pieces.{cut}
use Rattle.kt_script.proofs.Cuts.{cut_front, cut_end}
use Rattle.kt_script.proofs.names.cut_name.Goals as goal

pub returns-in-Some : goal.returns-in-Some
returns-in-Some c = ap (cut 44) c.in-Some.ensures.cut ∙ cut_front 44 c.in-Some.name.now c.in-Some.behind.now (recursion_from_All (λ b. b ≢ 44) c.in-Some.name.now c.in-Some.ensures.first)

pub returns-in-None : goal.returns-in-None
returns-in-None c = cut_end 44 c.args.text.now (recursion_from_All (λ b. b ≢ 44) c.args.text.now c.in-None.ensures.none)
