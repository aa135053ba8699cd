-- Steps of a visit.
use Rattle.std.proofs.Common.{List, ◌∙◌, subst}
use Rattle.kt_history.specs.declared.event.Event.{Event}
use Rattle.kt_seatlock.specs.Trails.{Adds}
use Rattle.kt_engine.specs.Visits.{session_of, StepsAreOne}

pub one_visit : {L D C : Type 0} → StepsAreOne L D C
one_visit n a b c first none second = record {
  line = subst (λ (t : List Event). Adds session_of n t c.tablet.core.trail) none second.line;
  parts = λ k ne. second.parts k ne ∙ first.parts k ne;
}
