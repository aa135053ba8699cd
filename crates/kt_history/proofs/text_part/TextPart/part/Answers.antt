use Rattle.std.proofs.Common.{ℕ, ◌+◌, List, ap, ◌∙◌, arith}
use Rattle.std.specs.Arc.{arc_value}
use Rattle.std.specs.List.{between}
use Rattle.kt_history.proofs.Parts.{part_of_part, part_length}
use Rattle.kt_history.proofs.text_part.TextPart.part.Goals as goal

pub returns : goal.returns
returns c =
    let len = part_length (arc_value c.self.inside.texts) c.args.self.now c.self.inside.first c.self.inside.len c.self.view_is c.self.invariant.0 in
    ap (λ (texts : List (List ℕ)). between (c.self.inside.first + c.args.first) (c.self.inside.first + c.args.first + c.args.len) texts) c.in_ok-try_clone.ensures
    ∙ part_of_part (arc_value c.self.inside.texts) c.self.inside.first c.self.inside.len c.args.first c.args.len (omega (arith, len, c.requires))
    ∙ ap (λ (texts : List (List ℕ)). between c.args.first (c.args.first + c.args.len) texts) c.self.view_is
