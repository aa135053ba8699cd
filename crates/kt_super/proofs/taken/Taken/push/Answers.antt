use Rattle.std.proofs.Common.{◌++◌, ◌∷◌, [], ◌∙◌, ap}
use Rattle.kt_super.proofs.TakenNumbers.{pushed_alike}
use Rattle.kt_super.proofs.taken.Taken.push.Goals as goal

pub invariant_of-self-2 : goal.invariant_of-self-2
invariant_of-self-2 c =
    pushed_alike c.self.inside.sorted.keys _ c.self.inside.numbers.items _ c.args.number c.self.invariant c.in_ok-insert.ensures.keys
    (c.in_ok-push.ensures.items ∙ ap (λ xs. xs ++ c.args.number ∷ []) c.reserve.ensures.items)
