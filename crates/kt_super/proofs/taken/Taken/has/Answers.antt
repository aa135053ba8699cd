use Rattle.std.proofs.Common.{◌∙◌, ap, List, ℕ}
use Rattle.kt_super.specs.Rowsets as spec
use Rattle.kt_super.proofs.TakenNumbers.{set_has}
use Rattle.kt_super.proofs.taken.Taken.has.Goals as goal

pub returns : goal.returns
returns c =
    c.contains.ensures ∙ set_has c.self.inside.sorted.keys c.args.number ∙ c.self.invariant c.args.number ∙ ap (λ (l : List ℕ). spec.has l c.args.number) c.self.view_is
