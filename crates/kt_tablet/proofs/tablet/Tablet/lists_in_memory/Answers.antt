use Rattle.std.proofs.Common.{suc, map, ap, ◌∙◌}
use Rattle.std.proofs.lemmas.Result.{IfOk-weaker}
use Rattle.kt_stores.specs.Shelf.{stores_of}
use Rattle.kt_tablet.specs.Jobs.{filled_of}
use Rattle.kt_tablet.proofs.InMemory.{lists_filled}
use Rattle.kt_tablet.proofs.tablet.Tablet.lists_in_memory.Goals as goal

pub returns : goal.returns
returns g c =
    let i = c.self.inside in
    rw (← c.self.view_is) (IfOk-weaker c.lists_of.result _ _ (λ lists is. ap (map (map (filled_of i.fill))) is ∙ lists_filled i.fill c.args.upto (suc i.stores.frozen) (stores_of i.stores)) c.lists_of.ensures)
