-- A stop among the lines and a pass without a job, as maintenance tells them and as a session does.
use Rattle.std.proofs.Common.{◌≡◌, ◌⊎◌, inl, inr, List, [], ◌∷◌, Option, true, refl}
use Rattle.kt_history.specs.declared.event.Event.{Event}
use Rattle.kt_history.specs.declared.event.Event.TheVariants as event
use Rattle.kt_engine.specs.Visits.{PartView}
use Rattle.kt_maint.specs.Calls.{HasNoJob, has_stop}
use Rattle.kt_serve.specs.Maintained as maintained
use Rattle.kt_serve.specs.Sessions as sessions

pub same_stop : (lines : List Event) → has_stop lines ≡ true → sessions.has_stop lines ≡ true
same_stop [] h = h
same_stop (event.Stop ∷ lines) h = refl
same_stop (_ ∷ lines) h = same_stop lines h

module _ {L D C : Type 0} where
  pub to_jobs : (told : Option (PartView L D C)) → maintained.HasNoJob told → HasNoJob told
  to_jobs told h = record { part = h.part; is = h.is; none = h.none }

  pub from_jobs : (told : Option (PartView L D C)) → HasNoJob told → maintained.HasNoJob told
  from_jobs told h = record { part = h.part; is = h.is; none = h.none }

  pub none_left : (told : Option (PartView L D C)) (lines : List Event) → HasNoJob told ⊎ (has_stop lines ≡ true) → maintained.HasNoJob told ⊎ (sessions.has_stop lines ≡ true)
  none_left told lines (inl none) = inl (from_jobs told none)
  none_left told lines (inr stop) = inr (same_stop lines stop)
