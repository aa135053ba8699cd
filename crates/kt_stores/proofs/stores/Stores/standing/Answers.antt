use Rattle.std.proofs.Common.{◌+◌, take, subst}
use Rattle.kt_history.specs.Grown.{AllGrown}
use Rattle.kt_stores.specs.Shelf.{StoresView, stores_of}
use Rattle.kt_stores.specs.Parts.{shelved}
use Rattle.kt_stores.proofs.Grown.{memory_grown}
use Rattle.kt_stores.proofs.stores.Stores.standing.Goals as goal

pub returns-clause-memory : goal.returns-clause-memory
returns-clause-memory g c =
    let r = g.R.RowStore in
    let i = c.self.inside in
    subst (λ (v : StoresView). AllGrown (take (1 + v.frozen) (stores_of v))) c.self.view_is
    (memory_grown r.stands (shelved r.target r.store r.is_closed r.cells) i.pool i.active i.frozen.items i.rowsets.items c.self.invariant.0.stand)
