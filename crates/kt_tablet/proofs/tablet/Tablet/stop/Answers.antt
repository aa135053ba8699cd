use Rattle.std.proofs.Common.{refl}
use Rattle.kt_tablet.proofs.Visits.{stop_sound, ready_stopped}
use Rattle.kt_tablet.proofs.Told.{told_on}
use Rattle.kt_tablet.proofs.tablet.Tablet.stop.Goals as goal

pub invariant_of-self : goal.invariant_of-self
invariant_of-self g c =
    let lines = c.push_reserved.ensures.items in
    let sound = stop_sound g.C.Clock.readings _ _ c.self.invariant.0 c.if-self.false lines in (
      sound,
      ready_stopped _ _ _ _ _ _ _ _ _ c.self.invariant.1,
      told_on g.C.Clock.readings _ _ _ _ _ _ _ _ _ _ _ _ _ _ _ _ c.self.invariant.0 sound refl lines c.self.invariant.2,
      c.self.invariant.3,
    )
