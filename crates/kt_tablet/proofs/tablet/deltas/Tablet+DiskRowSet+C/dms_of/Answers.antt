use Rattle.std.proofs.Common.{◌+◌, ◌∙◌, map, length, Some, sym, ap}
use Rattle.kt_tablet.specs.Jobs.{dms_in}
use Rattle.kt_tablet.proofs.Deltas.{first_placed, none_placed, name_is, same_some}
use Rattle.kt_tablet.proofs.tablet.deltas.Tablet+DiskRowSet+C.dms_of.Goals as goal

pub returns-in-Some : goal.returns-in-Some
returns-in-Some g c =
    let i = c.self.inside in
    let at = c.in-Some.at in
    let first = first_placed c.args.number i.stores.shelf at c.in-Some.ensures.place in
    c.dms_named.ensures c.args.number first.dms (same_some c.target_at.result _ (sym c.target_at.ensures ∙ name_is at i.stores.shelf _ first.named))
    ∙ sym first.first ∙ ap (λ v. dms_in c.args.number v.names) c.self.view_is

pub returns-in-None : goal.returns-in-None
returns-in-None g c = sym (none_placed c.args.number c.self.inside.stores.shelf c.in-None.ensures.place) ∙ ap (λ v. dms_in c.args.number v.names) c.self.view_is
