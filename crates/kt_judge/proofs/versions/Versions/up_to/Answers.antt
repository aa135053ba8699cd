use Rattle.std.proofs.Common.{None, sym, ◌∙◌, take, ap}
use Rattle.kt_judge.specs.Tables.{Versions, row_from, row_after_all}
use Rattle.kt_judge.proofs.Dated.{told_up_to}
use Rattle.kt_judge.proofs.versions.Versions.up_to.Goals as goal

pub returns : goal.returns
returns c = ap (λ (vs : Versions). row_after_all None (take c.count_up_to.result vs)) (c.deref.ensures.value ∙ sym c.deref-2.ensures.value)
    ∙ told_up_to None c.args.t _ c.count_up_to.result c.count_up_to.ensures.bound c.count_up_to.ensures.parts.0 c.count_up_to.ensures.parts.1
    ∙ ap (row_from None c.args.t) (c.deref-2.ensures.value ∙ c.self.view_is)
