use Rattle.std.proofs.Common.{◌≡◌, ◌+◌, ◌∙◌, suc, map, length, Some, sym, ap, subst, arith}
use Rattle.kt_histlaws.specs.Histories.{on_nth}
use Rattle.kt_stores.specs.Shelf.{StoresView, names_of, taken_by}
use Rattle.kt_tablet.specs.Filling.{all_told, told_stores}
use Rattle.kt_tablet.specs.Jobs.{dms_in}
use Rattle.kt_tablet.specs.Views.{IsReady}
use Rattle.kt_tablet.proofs.Deltas.{first_placed, names_renamed, stores_renamed, name_is, same_some, has_renamed}
use Rattle.kt_tablet.proofs.Frozen.{still_sound}
use Rattle.kt_tablet.proofs.Plans.{no_flights}
use Rattle.kt_tablet.proofs.Written.{written_none}
use Rattle.kt_tablet.proofs.tablet.deltas.Tablet+DiskRowSet+C.freeze_deltas.Goals as goal

pub invariant_of-self : goal.invariant_of-self
invariant_of-self g c =
    let i = c.self.inside in
    let same = c.in_err-freeze_deltas.ensures.err in (
      still_sound g.C.Clock.readings _ _ _ _ _ c.self.invariant.0 (ap (λ (v : StoresView). told_stores i.fill v) same),
      subst (IsReady _ _ _ _ _ _) (sym (ap (λ (v : StoresView). v.pool) same)) c.self.invariant.1,
      c.self.invariant.2,
      written_none _ i.flights.items (no_flights i.flights.items (ap (λ v. v.core.aloft) c.self.view_is ∙ c.requires.calm)),
    )

pub invariant_of-self-2 : goal.invariant_of-self-2
invariant_of-self-2 g c =
    let i = c.self.inside in
    let at = c.in-Some.at in
    let is = c.in_ok-freeze_deltas.ensures.ok in (
      still_sound g.C.Clock.readings _ _ _ _ _ c.self.invariant.0 (ap (λ (v : StoresView). told_stores i.fill v) is ∙ ap (all_told i.fill (suc i.stores.frozen)) (stores_renamed (c.in-Some-dms_named.dms + 1) at i.stores.shelf)),
      subst (IsReady _ _ _ _ _ _) (sym (ap (λ (v : StoresView). v.pool) is)) c.self.invariant.1,
      c.self.invariant.2,
      written_none _ i.flights.items (no_flights i.flights.items (ap (λ v. v.core.aloft) c.self.view_is ∙ c.requires.calm)),
    )

pub returns-clause-frozen : goal.returns-clause-frozen
returns-clause-frozen g c =
    let i = c.self.inside in
    let at = c.in-Some.at in
    let first = first_placed c.args.number i.stores.shelf at c.in-Some.ensures.place in
    let dms : first.dms ≡ c.in-Some-dms_named.dms = same_some _ _ (sym (c.in-Some-dms_named.ensures c.args.number first.dms (same_some c.target_at.result _ (sym c.target_at.ensures ∙ name_is at i.stores.shelf _ first.named)))) in
    let is = c.in_ok-freeze_deltas.ensures.ok in
    let stores = ap (λ (v : StoresView). told_stores i.fill v) is ∙ ap (all_told i.fill (suc i.stores.frozen)) (stores_renamed (c.in-Some-dms_named.dms + 1) at i.stores.shelf) in
    let names = ap (λ (v : StoresView). names_of v.shelf) is ∙ names_renamed (c.in-Some-dms_named.dms + 1) at i.stores.shelf ∙ ap (λ n. on_nth at (taken_by (n + 1)) (names_of i.stores.shelf)) (sym dms) ∙ sym first.later in
    has_renamed _ _ _ _ _ _ _ c.args.number c.self.view_is stores names (ap (λ (v : StoresView). v.pool) is) (ap (λ (v : StoresView). v.frozen) is) (ap (λ (v : StoresView). v.files) is)

pub returns-clause-there : goal.returns-clause-there
returns-clause-there g c =
    let i = c.self.inside in
    let at = c.in-Some.at in
    let first = first_placed c.args.number i.stores.shelf at c.in-Some.ensures.place in
    let dms : first.dms ≡ c.in-Some-dms_named.dms = same_some _ _ (sym (c.in-Some-dms_named.ensures c.args.number first.dms (same_some c.target_at.result _ (sym c.target_at.ensures ∙ name_is at i.stores.shelf _ first.named)))) in
    (c.in-Some-dms_named.dms, ap (λ v. dms_in c.args.number v.names) (sym c.self.view_is) ∙ first.first ∙ ap (λ n. Some n) dms, omega (arith, c.if-dms.false))
