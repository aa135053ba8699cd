use Rattle.std.proofs.Common.{◌≤◌, ◌+◌, ◌-◌, ◌∙◌, suc, sym, ap, arith}
use Rattle.kt_stores.specs.Shelf.{stores_of}
use Rattle.kt_tablet.specs.Filling.{told_stores}
use Rattle.kt_tablet.specs.Jobs.{store_in_names, dms_in, files_of}
use Rattle.kt_tablet.proofs.Deltas.{first_placed, none_placed, told_at, none_some, filed_at, filed_there}
use Rattle.kt_tablet.proofs.tablet.deltas.Tablet+DiskRowSet+C.has_deltas.Goals as goal

pub returns-in-Some : goal.returns-in-Some
returns-in-Some g c none dms named =
    let i = c.self.inside in
    let at = c.in-Some.at in
    let first = first_placed c.args.number i.stores.shelf at c.in-Some.ensures.place in
    let behind : suc i.stores.frozen ≤ at = omega (arith, c.in-Some.ensures.behind) in
    let there = filed_there c.args.number i.stores.files (at - 1 - i.stores.frozen) c.in-Some.ensures.files in
    let told = c.has_deltas.ensures none there.0 there.1 in (
      there.0,
      sym (ap (λ v. files_of c.args.number v.files) c.self.view_is) ∙ filed_at c.args.number i.stores.files (at - 1 - i.stores.frozen) c.in-Some.ensures.files ∙ there.1,
      ap (λ v. store_in_names c.args.number v.names v.core.stores) (sym c.self.view_is) ∙ first.store (told_stores i.fill i.stores) _ (told_at i.fill (suc i.stores.frozen) at (stores_of i.stores) _ behind told),
    )

pub returns-in-None : goal.returns-in-None
returns-in-None g c none dms named =
    let i = c.self.inside in
    none_some dms (sym (none_placed c.args.number i.stores.shelf c.in-None.ensures.place) ∙ ap (λ v. dms_in c.args.number v.names) c.self.view_is ∙ named)
