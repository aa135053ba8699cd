use Rattle.std.proofs.Common.{◌≡◌, ◌≤◌, ◌<◌, ◌+◌, ◌-◌, ◌∙◌, ℕ, suc, map, length, Option, Some, None, refl, sym, ap, subst, arith}
use Rattle.std.proofs.lemmas.List.{length-map}
use Rattle.kt_history.specs.Stores.{Store}
use Rattle.kt_diskrowset.specs.Data.{held_in}
use Rattle.kt_stores.specs.Shelf.{Shelved, stores_of}
use Rattle.kt_tablet.specs.Filling.{all_told, told_stores}
use Rattle.kt_tablet.specs.Jobs.{dms_in, store_in_names}
use Rattle.kt_tablet.specs.Rows.{AreWritten}
use Rattle.kt_tablet.proofs.Deltas.{first_placed, none_placed, told_at, name_is, has_put, filed_put, none_some}
use Rattle.kt_tablet.proofs.Frozen.{still_sound}
use Rattle.kt_tablet.proofs.Several.{get_there}
use Rattle.kt_tablet.proofs.tablet.deltas.Tablet+DiskRowSet+C.put_files.Goals as goal

pub settle-requires-clause-number : goal.settle-requires-clause-number
settle-requires-clause-number g c =
    let i = c.self.inside in
    let at = c.in-Some.at in
    let first = first_placed c.args.rowset.number i.stores.shelf at c.in-Some.ensures.place in
    (first.dms, name_is at i.stores.shelf _ first.named)

pub settle-requires-clause-store : goal.settle-requires-clause-store
settle-requires-clause-store g c =
    let i = c.self.inside in
    let at = c.in-Some.at in
    let first = first_placed c.args.rowset.number i.stores.shelf at c.in-Some.ensures.place in
    let behind : suc i.stores.frozen ≤ at = omega (arith, c.in-Some.ensures.behind) in
    let within : at < length (stores_of i.stores) = (let n = length-map i.stores.shelf (λ (s : Shelved). s.store) in omega (arith, n, c.in-Some.ensures.within)) in
    let here = get_there (stores_of i.stores) at within in
    let told = told_at i.fill (suc i.stores.frozen) at (stores_of i.stores) here.0 behind here.1 in
    let is = c.requires.store ∙ ap (λ v. store_in_names c.args.rowset.number v.names v.core.stores) (sym c.self.view_is) ∙ first.store (told_stores i.fill i.stores) here.0 told in
    here.1 ∙ ap (λ (s : Store). Some s) (sym is)

pub invariant_of-self : goal.invariant_of-self
invariant_of-self g c =
    let i = c.self.inside in
    let e = c.settle.ensures in
    let stores = ap (λ n. all_told i.fill (suc n) (stores_of c.settle.new.self)) e.frozen ∙ ap (all_told i.fill (suc i.stores.frozen)) e.stores in (
      still_sound g.C.Clock.readings _ _ _ _ _ c.self.invariant.0 stores,
      record { held = c.self.invariant.1.held; cells = e.reserved ∙ c.self.invariant.1.cells; provided = c.self.invariant.1.provided; apart = c.self.invariant.1.apart; end = c.self.invariant.1.end },
      c.self.invariant.2,
      subst (λ names. AreWritten names i.flights.items) (sym e.names) c.self.invariant.3,
    )

pub returns-in-Some : goal.returns-in-Some
returns-in-Some g c =
    let i = c.self.inside in
    let e = c.settle.ensures in
    let stores = ap (λ n. all_told i.fill (suc n) (stores_of c.settle.new.self)) e.frozen ∙ ap (all_told i.fill (suc i.stores.frozen)) e.stores in
    has_put _ _ _ _ _ _ _ (held_in c.args.rowset) c.self.view_is stores e.names e.frozen (e.files ∙ sym (filed_put (held_in c.args.rowset) i.stores.files (c.in-Some.at - 1 - i.stores.frozen) c.in-Some.ensures.files))

none_of : (o : Option ℕ) → ((n : ℕ) → o ≡ Some n → ⊥) → None ≡ o
none_of None h = refl
none_of (Some n) h = absurd (h n refl)

pub returns-in_default : goal.returns-in_default
returns-in_default g c =
    let there = ap (λ v. dms_in c.args.rowset.number v.names) c.self.view_is in
    let gone = none_placed c.args.rowset.number c.self.inside.stores.shelf (none_of c.rowset_place.result c.in_default.not-Some ∙ c.rowset_place.ensures.place) in
    absurd (none_some c.requires.there.0 (sym gone ∙ there ∙ c.requires.there.1))
