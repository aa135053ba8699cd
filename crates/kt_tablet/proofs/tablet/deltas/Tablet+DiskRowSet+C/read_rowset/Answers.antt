use Rattle.std.proofs.Common.{◌≤◌, ◌+◌, ◌-◌, ◌∙◌, suc, map, length, Some, sym, ap, arith}
use Rattle.std.proofs.lemmas.Result.{IfOk-weaker}
use Rattle.kt_stores.specs.Shelf.{stores_of}
use Rattle.kt_tablet.specs.Filling.{told_stores}
use Rattle.kt_tablet.specs.Jobs.{store_in_names, files_of}
use Rattle.kt_tablet.proofs.Deltas.{first_placed, told_at, name_is, filed_at}
use Rattle.kt_tablet.proofs.tablet.deltas.Tablet+DiskRowSet+C.read_rowset.Goals as goal

pub returns-in-Some-clause-number : goal.returns-in-Some-clause-number
returns-in-Some-clause-number g c =
    let i = c.self.inside in
    let at = c.in-Some.at in
    let first = first_placed c.args.number i.stores.shelf at c.in-Some.ensures.place in
    IfOk-weaker c.read_rowset.result _ _ (λ d told. told c.args.number first.dms (name_is at i.stores.shelf _ first.named)) c.read_rowset.ensures.number

pub returns-in-Some-clause-store : goal.returns-in-Some-clause-store
returns-in-Some-clause-store g c =
    let i = c.self.inside in
    let at = c.in-Some.at in
    let first = first_placed c.args.number i.stores.shelf at c.in-Some.ensures.place in
    let behind : suc i.stores.frozen ≤ at = omega (arith, c.in-Some.ensures.behind) in
    IfOk-weaker c.read_rowset.result _ _
    (λ d is. sym (first.store (told_stores i.fill i.stores) _ (told_at i.fill (suc i.stores.frozen) at (stores_of i.stores) _ behind is)) ∙ ap (λ v. store_in_names c.args.number v.names v.core.stores) c.self.view_is)
    c.read_rowset.ensures.store

pub returns-in-Some-clause-held : goal.returns-in-Some-clause-held
returns-in-Some-clause-held g c =
    let i = c.self.inside in
    let filed = ap (λ v. files_of c.args.number v.files) (sym c.self.view_is) ∙ filed_at c.args.number i.stores.files (c.in-Some.at - 1 - i.stores.frozen) c.in-Some.ensures.files in
    IfOk-weaker c.read_rowset.result _ _ (λ d held. filed ∙ held) c.read_rowset.ensures.held
