use Rattle.std.proofs.Common.{◌≡◌, suc, map, length, sym, ap, ◌∙◌, subst, arith}
use Rattle.std.specs.Prelude.{take, drop}
use Rattle.kt_diskrowset.specs.Rowset.{store_of}
use Rattle.kt_stores.specs.Leaving.{AreNew, shelved_rowset}
use Rattle.kt_stores.specs.Shelf.{Shelved, names_of}
use Rattle.kt_stores.specs.Takes.{rowsets, left_on, over_to}
use Rattle.kt_tablet.specs.Filling.{all_told, told_stores}
use Rattle.kt_tablet.specs.Jobs.{MayChangeOver}
use Rattle.kt_tablet.proofs.Plans.{no_flights}
use Rattle.kt_tablet.proofs.Written.{written_none}
use Rattle.kt_tablet.proofs.Frozen.{told_over, names_over, mapped, changed_sound, told_length, names_length, frozen_left, has_changed_over}
use Rattle.kt_tablet.proofs.tablet.changing.Tablet+DiskRowSet+C.compact_over.Goals as goal

pub compact_over-requires-clause-outputs : goal.compact_over-requires-clause-outputs
compact_over-requires-clause-outputs g c = subst (λ v. AreNew v.pool c.args.outputs.items) (sym c.self.view_is) c.requires.outputs

pub compact_over-requires-clause-room : goal.compact_over-requires-clause-room
compact_over-requires-clause-room g c =
    let i = c.self.inside in
    let e = ap (λ v. length v.core.stores) c.self.view_is in
    let f = ap (λ v. v.frozen) c.self.view_is in
    let long = told_length i.fill (suc i.stores.frozen) i.stores.shelf in
    let room = c.requires.room in
    omega arith

pub compact_over-requires-clause-few : goal.compact_over-requires-clause-few
compact_over-requires-clause-few g c =
    let i = c.self.inside in
    let e = ap (λ v. length v.core.stores) c.self.view_is in
    let long = told_length i.fill (suc i.stores.frozen) i.stores.shelf in
    let few = c.requires.few in
    omega arith

pub invariant_of-self : goal.invariant_of-self
invariant_of-self g c =
    let i = c.self.inside in
    let e = c.compact_over.ensures in
    let outs = map (λ r. shelved_rowset r i.stores.pool) c.args.outputs.items in
    let long : length (names_of i.stores.shelf) ≡ length (told_stores i.fill i.stores) = names_length i.stores.shelf ∙ sym (told_length i.fill (suc i.stores.frozen) i.stores.shelf) in
    let stores =
    ap (λ n. all_told i.fill (suc n) (map (λ (s : Shelved). s.store) c.compact_over.new.self.shelf)) e.frozen
    ∙ ap (λ l. all_told i.fill (suc (length (left_on (rowsets c.args.numbers.now) (take i.stores.frozen (drop 1 i.stores.shelf))))) (map (λ (s : Shelved). s.store) l)) e.shelf ∙ told_over i.fill (rowsets c.args.numbers.now) i.stores.frozen outs i.stores.shelf
    ∙ ap (λ l. over_to (rowsets c.args.numbers.now) l (names_of i.stores.shelf) (told_stores i.fill i.stores)) (mapped (λ (s : Shelved). s.store) (λ r. shelved_rowset r i.stores.pool) c.args.outputs.items) in
    let may = subst (λ v. MayChangeOver v (rowsets c.args.numbers.now) (map (λ r. store_of r v.pool) c.args.outputs.items)) (sym c.self.view_is) c.requires.may in (
      changed_sound g.C.Clock.readings _ _ (map (λ r. store_of r i.stores.pool) c.args.outputs.items) _ _ _ c.self.invariant.0 (rowsets c.args.numbers.now) long may stores,
      record { held = c.self.invariant.1.held; cells = e.reserved ∙ c.self.invariant.1.cells; provided = c.self.invariant.1.provided; apart = c.self.invariant.1.apart; end = c.self.invariant.1.end },
      c.self.invariant.2,
      written_none _ i.flights.items (no_flights i.flights.items (ap (λ v. v.core.aloft) c.self.view_is ∙ c.requires.calm)),
    )

pub returns : goal.returns
returns g c =
    let i = c.self.inside in
    let e = c.compact_over.ensures in
    let outs = map (λ r. shelved_rowset r i.stores.pool) c.args.outputs.items in
    let stores =
    ap (λ n. all_told i.fill (suc n) (map (λ (s : Shelved). s.store) c.compact_over.new.self.shelf)) e.frozen
    ∙ ap (λ l. all_told i.fill (suc (length (left_on (rowsets c.args.numbers.now) (take i.stores.frozen (drop 1 i.stores.shelf))))) (map (λ (s : Shelved). s.store) l)) e.shelf ∙ told_over i.fill (rowsets c.args.numbers.now) i.stores.frozen outs i.stores.shelf
    ∙ ap (λ l. over_to (rowsets c.args.numbers.now) l (names_of i.stores.shelf) (told_stores i.fill i.stores)) (mapped (λ (s : Shelved). s.store) (λ r. shelved_rowset r i.stores.pool) c.args.outputs.items) in
    let names =
    ap names_of e.shelf ∙ names_over (rowsets c.args.numbers.now) outs i.stores.shelf
    ∙ ap (λ l. over_to (rowsets c.args.numbers.now) l (names_of i.stores.shelf) (names_of i.stores.shelf)) (mapped (λ (s : Shelved). s.name) (λ r. shelved_rowset r i.stores.pool) c.args.outputs.items) in
    let store_in = ap (λ v. map (λ r. store_of r v.pool) c.args.outputs.items) c.self.view_is in
    has_changed_over _ _ (rowsets c.args.numbers.now) _ _ _ _ _ _ _ _ c.self.view_is (stores ∙ ap (λ l. over_to (rowsets c.args.numbers.now) l (names_of i.stores.shelf) (told_stores i.fill i.stores)) store_in) names (e.frozen ∙ frozen_left (rowsets c.args.numbers.now) i.stores.frozen i.stores.shelf) e.files
