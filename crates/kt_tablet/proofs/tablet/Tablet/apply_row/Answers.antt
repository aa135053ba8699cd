use Rattle.std.proofs.Common.{◌≡◌, ◌<◌, suc, length, is_some, refl, sym, ap, ◌∙◌, subst, rules}
use Rattle.std.proofs.Math.Nat.{zero-lt-suc}
use Rattle.kt_history.specs.Operations.{effect}
use Rattle.kt_history.specs.Stores.{with_change, change_by}
use Rattle.kt_histlaws.specs.Core.{live}
use Rattle.kt_histlaws.specs.Events.{pushed_if}
use Rattle.kt_histlaws.specs.Flights.{AllUnder}
use Rattle.kt_histlaws.specs.Histories.{hists, on_nth}
use Rattle.kt_stores.specs.Shelf.{stores_of, names_of, last_live, place_of}
use Rattle.kt_tablet.specs.Filling.{all_told}
use Rattle.kt_tablet.specs.Rows.{commit_row}
use Rattle.kt_tablet.specs.Views.{placed_of, aloft_of}
use Rattle.kt_tablet.specs.Visits.{MayApply}
use Rattle.kt_tablet.proofs.Several.{stores_applied, place_told, outcome_several, same_count, one_of_names, length-told}
use Rattle.kt_tablet.proofs.Flights.{within, aloft_set, places_set}
use Rattle.kt_tablet.proofs.Rows.{Applying, applying, placed_is, any_shown, more_at, same_place, has_room, next_here, under_next, alone_next, apply_sound, ready_applied, told_applied, has_applied, run_outcome, applied_beside, has_noted}
use Rattle.kt_tablet.proofs.Visits.{of_old}
use Rattle.kt_tablet.proofs.Written.{written_applied}
use Rattle.kt_tablet.proofs.tablet.Tablet.apply_row.Goals as goal

pub place_of-place-requires : goal.place_of-place-requires
place_of-place-requires g c =
    let may = of_old (λ core. MayApply core c.args.number c.args.at) _ _ c.self.view_is c.requires c.if-self.false in
    any_shown c.args.number c.self.inside.flights.items c.deref.result.now may.flight may.flies c.deref.ensures.value

pub index-write-requires : goal.index-write-requires
index-write-requires g c =
    let may = of_old (λ core. MayApply core c.args.number c.args.at) _ _ c.self.view_is c.requires c.if-self.false in
    let place = placed_is c.args.number c.place_of-place.result c.self.inside.flights.items c.deref.result.now may.flight may.flies c.deref.ensures.value c.place_of-place.ensures in
    let lt : c.place_of-place.result < length c.self.inside.flights.items = within c.args.number c.self.inside.flights.items c.place_of-place.result place in
    search rules

pub at-op-requires : goal.at-op-requires
at-op-requires g c =
    let may = of_old (λ core. MayApply core c.args.number c.args.at) _ _ c.self.view_is c.requires c.if-self.false in
    let place = placed_is c.args.number c.place_of-place.result c.self.inside.flights.items c.deref.result.now may.flight may.flies c.deref.ensures.value c.place_of-place.ensures in
    more_at _ c.args.number c.args.at c.place_of-place.result c.self.inside.flights.items c.index-write.result.now refl may place c.index-write.ensures

pub apply_op-row-requires : goal.apply_op-row-requires
apply_op-row-requires g c =
    let may = of_old (λ core. MayApply core c.args.number c.args.at) _ _ c.self.view_is c.requires c.if-self.false in
    let place = placed_is c.args.number c.place_of-place.result c.self.inside.flights.items c.deref.result.now may.flight may.flies c.deref.ensures.value c.place_of-place.ensures in
    let v = applying _ c.args.number c.args.at c.place_of-place.result c.self.inside.flights.items c.index-write.result.now c.at-op.result refl may place c.index-write.ensures c.at-op.ensures in
    let room = has_room _ _ _ _ _ _ _ _ _ _ _ _ c.self.invariant.1 v in
    room.needs

pub index_mut-requires : goal.index_mut-requires
index_mut-requires g c =
    let may = of_old (λ core. MayApply core c.args.number c.args.at) _ _ c.self.view_is c.requires c.if-self.false in
    let place = placed_is c.args.number c.place_of-place.result c.self.inside.flights.items c.deref.result.now may.flight may.flies c.deref.ensures.value c.place_of-place.ensures in
    let lt : c.place_of-place.result < length c.self.inside.flights.items = within c.args.number c.self.inside.flights.items c.place_of-place.result place in
    search rules

pub note-requires-clause-more : goal.note-requires-clause-more
note-requires-clause-more g c =
    let may = of_old (λ core. MayApply core c.args.number c.args.at) _ _ c.self.view_is c.requires c.if-self.false in
    let place = placed_is c.args.number c.place_of-place.result c.self.inside.flights.items c.deref.result.now may.flight may.flies c.deref.ensures.value c.place_of-place.ensures in
    let v = applying _ c.args.number c.args.at c.place_of-place.result c.self.inside.flights.items c.index-write.result.now c.at-op.result refl may place c.index-write.ensures c.at-op.ensures in
    let same = same_place c.self.inside.flights.items c.place_of-place.result c.index-write.result.now c.index_mut.result.now (within c.args.number c.self.inside.flights.items c.place_of-place.result place) c.index-write.ensures c.index_mut.ensures.value in
    let a = subst (λ w. Applying c.self.inside.flights.items c.args.number c.args.at c.place_of-place.result w c.at-op.result) same v in
    let room = has_room _ _ _ _ _ _ _ _ _ _ _ _ c.self.invariant.1 a in
    room.more

pub note-requires-clause-outcome_room : goal.note-requires-clause-outcome_room
note-requires-clause-outcome_room g c =
    let may = of_old (λ core. MayApply core c.args.number c.args.at) _ _ c.self.view_is c.requires c.if-self.false in
    let place = placed_is c.args.number c.place_of-place.result c.self.inside.flights.items c.deref.result.now may.flight may.flies c.deref.ensures.value c.place_of-place.ensures in
    let v = applying _ c.args.number c.args.at c.place_of-place.result c.self.inside.flights.items c.index-write.result.now c.at-op.result refl may place c.index-write.ensures c.at-op.ensures in
    let same = same_place c.self.inside.flights.items c.place_of-place.result c.index-write.result.now c.index_mut.result.now (within c.args.number c.self.inside.flights.items c.place_of-place.result place) c.index-write.ensures c.index_mut.ensures.value in
    let a = subst (λ w. Applying c.self.inside.flights.items c.args.number c.args.at c.place_of-place.result w c.at-op.result) same v in
    let room = has_room _ _ _ _ _ _ _ _ _ _ _ _ c.self.invariant.1 a in
    room.outcomes

pub note-requires-clause-row_room : goal.note-requires-clause-row_room
note-requires-clause-row_room g c =
    let may = of_old (λ core. MayApply core c.args.number c.args.at) _ _ c.self.view_is c.requires c.if-self.false in
    let place = placed_is c.args.number c.place_of-place.result c.self.inside.flights.items c.deref.result.now may.flight may.flies c.deref.ensures.value c.place_of-place.ensures in
    let v = applying _ c.args.number c.args.at c.place_of-place.result c.self.inside.flights.items c.index-write.result.now c.at-op.result refl may place c.index-write.ensures c.at-op.ensures in
    let same = same_place c.self.inside.flights.items c.place_of-place.result c.index-write.result.now c.index_mut.result.now (within c.args.number c.self.inside.flights.items c.place_of-place.result place) c.index-write.ensures c.index_mut.ensures.value in
    let a = subst (λ w. Applying c.self.inside.flights.items c.args.number c.args.at c.place_of-place.result w c.at-op.result) same v in
    let room = has_room _ _ _ _ _ _ _ _ _ _ _ _ c.self.invariant.1 a in
    room.rows

pub invariant_of-self : goal.invariant_of-self
invariant_of-self g c =
    let may = of_old (λ core. MayApply core c.args.number c.args.at) _ _ c.self.view_is c.requires c.if-self.false in
    let place = placed_is c.args.number c.place_of-place.result c.self.inside.flights.items c.deref.result.now may.flight may.flies c.deref.ensures.value c.place_of-place.ensures in
    let v = applying _ c.args.number c.args.at c.place_of-place.result c.self.inside.flights.items c.index-write.result.now c.at-op.result refl may place c.index-write.ensures c.at-op.ensures in
    let same = same_place c.self.inside.flights.items c.place_of-place.result c.index-write.result.now c.index_mut.result.now (within c.args.number c.self.inside.flights.items c.place_of-place.result place) c.index-write.ensures c.index_mut.ensures.value in
    let a = subst (λ w. Applying c.self.inside.flights.items c.args.number c.args.at c.place_of-place.result w c.at-op.result) same v in
    let op = c.at-op.result in
    let ts = c.index_mut.result.now.ts in
    let fill = c.self.inside.fill in
    let old = stores_of c.self.inside.stores in
    let memory = suc c.self.inside.stores.frozen in
    let next = next_here c.self.inside.flights.items c.args.number c.args.at c.place_of-place.result c.index_mut.result.now op a in
    let under = under_next g.C.Clock.readings _ c.place_of-place.result ts op c.self.invariant.0 next in
    let changed = subst (λ w. AllUnder w.ts (hists op.key old) → stores_of c.apply_op-row.new.stores ≡ on_nth (place_of op.key old) (with_change op.key w.ts (change_by op (is_some (last_live op.key old)))) old) same c.apply_op-row.ensures.changed in
    let flies = aloft_set c.self.inside.flights.items c.place_of-place.result c.index_mut.result.now c.note.new.write a.here (ap aloft_of c.note.ensures.write) in
    let r = c.apply_op-row.ensures.row in
    let low : place_of op.key old < length (all_told fill memory old) = subst (λ n. place_of op.key old < n) (sym (length-told fill memory old)) c.apply_op-row.ensures.bound in (
      apply_sound g.C.Clock.readings _ c.place_of-place.result (place_of op.key old) ts op _ _ _ _ _ _ _ c.self.invariant.0 next flies low
          (alone_next g.C.Clock.readings _ c.place_of-place.result ts op fill memory old c.self.invariant.0 refl next c.apply_op-row.ensures.bound)
          (λ first opens. ap (λ k. all_told fill (suc k) (stores_of c.apply_op-row.new.stores)) c.apply_op-row.ensures.frozen
          ∙ stores_applied fill memory op ts (place_of op.key old) old (stores_of c.apply_op-row.new.stores) (is_some (last_live op.key old)) (zero-lt-suc c.self.inside.stores.frozen) refl (under first opens) refl changed),
      ready_applied _ _ _ _ _ _ _ _ c.args.number c.place_of-place.result c.args.at c.index_mut.result.now c.note.new.write op
          c.self.invariant.1 a c.note.ensures.write c.note.ensures.outcome_room c.note.ensures.row_room c.apply_op-row.ensures.promised,
      told_applied g.C.Clock.readings _ c.args.number c.args.at c.place_of-place.result c.self.inside.flights.items c.index_mut.result.now c.note.new.write op c.apply_op-row.result.outcome c.self.invariant.0 refl a
          (λ first opens. c.apply_op-row.ensures.outcome ∙ outcome_several fill memory op ts old (under first opens))
          c.note.ensures.write c.note.ensures.outcomes c.self.invariant.2,
      written_applied (names_of c.self.inside.stores.shelf) _ c.self.inside.flights.items c.place_of-place.result c.index_mut.result.now c.note.new.write c.apply_op-row.result.outcome c.apply_op-row.result c.self.invariant.3 (within c.args.number c.self.inside.flights.items c.place_of-place.result place) a.here
          c.note.ensures.write (subst (λ n. n < length c.index_mut.result.now.ops) (sym a.applied) a.more) c.note.ensures.outcomes c.note.ensures.rows (r.0, one_of_names (names_of c.self.inside.stores.shelf) (place_of op.key old) r.0 r.1, r.2) c.apply_op-row.ensures.names,
    )

pub returns-clause-applied : goal.returns-clause-applied
returns-clause-applied g c =
    let may = of_old (λ core. MayApply core c.args.number c.args.at) _ _ c.self.view_is c.requires c.if-self.false in
    let place = placed_is c.args.number c.place_of-place.result c.self.inside.flights.items c.deref.result.now may.flight may.flies c.deref.ensures.value c.place_of-place.ensures in
    let v = applying _ c.args.number c.args.at c.place_of-place.result c.self.inside.flights.items c.index-write.result.now c.at-op.result refl may place c.index-write.ensures c.at-op.ensures in
    let same = same_place c.self.inside.flights.items c.place_of-place.result c.index-write.result.now c.index_mut.result.now (within c.args.number c.self.inside.flights.items c.place_of-place.result place) c.index-write.ensures c.index_mut.ensures.value in
    let a = subst (λ w. Applying c.self.inside.flights.items c.args.number c.args.at c.place_of-place.result w c.at-op.result) same v in
    let op = c.at-op.result in
    let ts = c.index_mut.result.now.ts in
    let fill = c.self.inside.fill in
    let old = stores_of c.self.inside.stores in
    let memory = suc c.self.inside.stores.frozen in
    let changed = subst (λ w. AllUnder w.ts (hists op.key old) → stores_of c.apply_op-row.new.stores ≡ on_nth (place_of op.key old) (with_change op.key w.ts (change_by op (is_some (last_live op.key old)))) old) same c.apply_op-row.ensures.changed in
    let flies = aloft_set c.self.inside.flights.items c.place_of-place.result c.index_mut.result.now c.note.new.write a.here (ap aloft_of c.note.ensures.write) in
    has_applied _ _ c.args.number c.args.at c.place_of-place.result c.self.inside.flights.items c.index_mut.result.now op c.note.result _ _ c.self.view_is refl a flies
    (λ all. ap (λ k. all_told fill (suc k) (stores_of c.apply_op-row.new.stores)) c.apply_op-row.ensures.frozen
    ∙ stores_applied fill memory op ts (place_of op.key old) old (stores_of c.apply_op-row.new.stores) (is_some (last_live op.key old)) (zero-lt-suc c.self.inside.stores.frozen) refl all refl changed
    ∙ ap (λ i. pushed_if i op.key ts (effect fill op.kind op.cells (live (all_told fill memory old) op.key ts)).0 (all_told fill memory old)) (sym (place_told fill memory op.key old)))
    (length-told fill (suc c.apply_op-row.new.stores.frozen) (stores_of c.apply_op-row.new.stores) ∙ same_count c.self.inside.stores.shelf c.apply_op-row.new.stores.shelf c.apply_op-row.ensures.names ∙ sym (length-told fill memory old))

pub returns-clause-run : goal.returns-clause-run
returns-clause-run g c =
    let may = of_old (λ core. MayApply core c.args.number c.args.at) _ _ c.self.view_is c.requires c.if-self.false in
    let place = placed_is c.args.number c.place_of-place.result c.self.inside.flights.items c.deref.result.now may.flight may.flies c.deref.ensures.value c.place_of-place.ensures in
    let v = applying _ c.args.number c.args.at c.place_of-place.result c.self.inside.flights.items c.index-write.result.now c.at-op.result refl may place c.index-write.ensures c.at-op.ensures in
    let same = same_place c.self.inside.flights.items c.place_of-place.result c.index-write.result.now c.index_mut.result.now (within c.args.number c.self.inside.flights.items c.place_of-place.result place) c.index-write.ensures c.index_mut.ensures.value in
    let a = subst (λ w. Applying c.self.inside.flights.items c.args.number c.args.at c.place_of-place.result w c.at-op.result) same v in
    let op = c.at-op.result in
    let ts = c.index_mut.result.now.ts in
    let fill = c.self.inside.fill in
    let old = stores_of c.self.inside.stores in
    let memory = suc c.self.inside.stores.frozen in
    let next = next_here c.self.inside.flights.items c.args.number c.args.at c.place_of-place.result c.index_mut.result.now op a in
    let under = under_next g.C.Clock.readings _ c.place_of-place.result ts op c.self.invariant.0 next in
    run_outcome g.C.Clock.readings _ _ c.args.number c.args.at c.place_of-place.result c.self.inside.flights.items c.index_mut.result.now op c.note.result c.self.view_is c.self.invariant.0 refl a
    (λ first opens. c.note.ensures.outcome ∙ c.apply_op-row.ensures.outcome ∙ outcome_several fill memory op ts old (under first opens))

pub returns-clause-beside : goal.returns-clause-beside
returns-clause-beside g c = applied_beside _ _ _ _ _ _ _ _ _ c.self.view_is c.apply_op-row.ensures.names
    (places_set c.self.inside.flights.items c.place_of-place.result c.index_mut.result.now c.note.new.write c.index_mut.ensures.value (ap placed_of c.note.ensures.write)) c.apply_op-row.ensures.frozen c.apply_op-row.ensures.files

pub returns-clause-noted : goal.returns-clause-noted
returns-clause-noted g c =
    let may = of_old (λ core. MayApply core c.args.number c.args.at) _ _ c.self.view_is c.requires c.if-self.false in
    let place = placed_is c.args.number c.place_of-place.result c.self.inside.flights.items c.deref.result.now may.flight may.flies c.deref.ensures.value c.place_of-place.ensures in
    let v = applying _ c.args.number c.args.at c.place_of-place.result c.self.inside.flights.items c.index-write.result.now c.at-op.result refl may place c.index-write.ensures c.at-op.ensures in
    let same = same_place c.self.inside.flights.items c.place_of-place.result c.index-write.result.now c.index_mut.result.now (within c.args.number c.self.inside.flights.items c.place_of-place.result place) c.index-write.ensures c.index_mut.ensures.value in
    let a = subst (λ w. Applying c.self.inside.flights.items c.args.number c.args.at c.place_of-place.result w c.at-op.result) same v in
    let op = c.at-op.result in
    let ts = c.index_mut.result.now.ts in
    let fill = c.self.inside.fill in
    let old = stores_of c.self.inside.stores in
    let memory = suc c.self.inside.stores.frozen in
    let r = c.apply_op-row.ensures.row in
    has_noted _ _ _ c.args.number c.args.at c.place_of-place.result c.self.inside.flights.items c.index_mut.result.now c.note.new.write op c.note.result c.apply_op-row.result fill memory old r.0 c.self.view_is refl refl refl a r.1
    (r.2 ∙ ap (commit_row r.0) (sym c.note.ensures.outcome)) c.note.ensures.rows refl
