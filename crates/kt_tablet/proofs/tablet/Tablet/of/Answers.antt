use Rattle.std.proofs.Common.{◌≡◌, [], ◌∙◌, ap, sym, map, refl}
use Rattle.kt_history.specs.Machine.{first_turns}
use Rattle.kt_stores.specs.Shelf.{names_of}
use Rattle.kt_tablet.specs.Filling.{told_stores}
use Rattle.kt_tablet.specs.Views.{aloft_of, work_of}
use Rattle.kt_tablet.proofs.Visits.{of_sound, ready_first}
use Rattle.kt_tablet.proofs.Told.{told_none}
use Rattle.kt_tablet.proofs.Written.{written_none}
use Rattle.kt_tablet.proofs.Keeps.{none_planned}
use Rattle.kt_tablet.proofs.tablet.Tablet.of.Goals as goal

pub invariant_of-result : goal.invariant_of-result
invariant_of-result g c =
    let none : c.of.result.value ≡ [] = c.of.ensures ∙ c.of-plan.ensures ∙ c.new.ensures.items in (
      of_sound g.C.Clock.readings _ c.in-Ok.ensures.lines (ap (map aloft_of) c.new-3.ensures.items) c.new-2.ensures.mark c.new-2.ensures.last refl
          (c.in-Ok.ensures.turns ∙ ap first_turns (sym none))
          (ap (λ v. told_stores c.in-Ok.fill v) c.of-opening.ensures)
          c.of-opened.ensures
          (none_planned (work_of c.of-2.result.value c.of.result.value c.args.cells c.in-Ok.fill) none),
      ready_first _ _ _ _ _ _ c.new-3.ensures.items c.new-2.ensures.rests c.requires c.in-Ok.ensures.room,
      told_none (work_of c.of-2.result.value c.of.result.value c.args.cells c.in-Ok.fill) _ _ _ c.in-Ok.trail.items _ c.new-3.ensures.items,
      written_none (names_of c.args.stores.shelf) _ c.new-3.ensures.items,
    )
