-- The `stop` line of a history, and of an engine that stands.
use Rattle.std.proofs.Common.{◌≡◌, ◌≢◌, List, [], ◌∷◌, ◌++◌, true, false, refl, ap, ◌∙◌}
use Rattle.std.specs.List.{All}
use Rattle.kt_history.specs.declared.event.Event.{Event}
use Rattle.kt_history.specs.declared.event.Event.TheVariants as event
use Rattle.kt_engine.specs.Engines.{EngineView, TellsStop}
use Rattle.kt_engine.proofs.Lists.{all_head, all_tail}
use Rattle.kt_serve.specs.Sessions.{has_stop}

-- one that is added
pub has_stop-end : (lines : List Event) → has_stop (lines ++ event.Stop ∷ []) ≡ true
has_stop-end [] = refl
has_stop-end (event.Begin s i ts m ∷ lines) = has_stop-end lines
has_stop-end (event.End s i ts ∷ lines) = has_stop-end lines
has_stop-end (event.Look s i t m ∷ lines) = has_stop-end lines
has_stop-end (event.Rows s i t ∷ lines) = has_stop-end lines
has_stop-end (event.Ancient s i t a ∷ lines) = has_stop-end lines
has_stop-end (event.Busy s i t f ∷ lines) = has_stop-end lines
has_stop-end (event.Mark s i a ∷ lines) = has_stop-end lines
has_stop-end (event.Chore s i ∷ lines) = has_stop-end lines
has_stop-end (event.Large s i n ∷ lines) = has_stop-end lines
has_stop-end (event.Stop ∷ lines) = refl

-- a `stop` line stays
pub has_stop-more : (lines more : List Event) → has_stop lines ≡ true → has_stop (lines ++ more) ≡ true
has_stop-more [] more h = absurd cc
has_stop-more (event.Begin s i ts m ∷ lines) more h = has_stop-more lines more h
has_stop-more (event.End s i ts ∷ lines) more h = has_stop-more lines more h
has_stop-more (event.Look s i t m ∷ lines) more h = has_stop-more lines more h
has_stop-more (event.Rows s i t ∷ lines) more h = has_stop-more lines more h
has_stop-more (event.Ancient s i t a ∷ lines) more h = has_stop-more lines more h
has_stop-more (event.Busy s i t f ∷ lines) more h = has_stop-more lines more h
has_stop-more (event.Mark s i a ∷ lines) more h = has_stop-more lines more h
has_stop-more (event.Chore s i ∷ lines) more h = has_stop-more lines more h
has_stop-more (event.Large s i n ∷ lines) more h = has_stop-more lines more h
has_stop-more (event.Stop ∷ lines) more h = refl

-- where no line is one
has_stop-none : (lines : List Event) → All (λ e. e ≢ event.Stop) lines → has_stop lines ≡ false
has_stop-none [] h = refl
has_stop-none (event.Begin s i ts m ∷ lines) h = has_stop-none lines (all_tail (λ e. e ≢ event.Stop) (event.Begin s i ts m) lines h)
has_stop-none (event.End s i ts ∷ lines) h = has_stop-none lines (all_tail (λ e. e ≢ event.Stop) (event.End s i ts) lines h)
has_stop-none (event.Look s i t m ∷ lines) h = has_stop-none lines (all_tail (λ e. e ≢ event.Stop) (event.Look s i t m) lines h)
has_stop-none (event.Rows s i t ∷ lines) h = has_stop-none lines (all_tail (λ e. e ≢ event.Stop) (event.Rows s i t) lines h)
has_stop-none (event.Ancient s i t a ∷ lines) h = has_stop-none lines (all_tail (λ e. e ≢ event.Stop) (event.Ancient s i t a) lines h)
has_stop-none (event.Busy s i t f ∷ lines) h = has_stop-none lines (all_tail (λ e. e ≢ event.Stop) (event.Busy s i t f) lines h)
has_stop-none (event.Mark s i a ∷ lines) h = has_stop-none lines (all_tail (λ e. e ≢ event.Stop) (event.Mark s i a) lines h)
has_stop-none (event.Chore s i ∷ lines) h = has_stop-none lines (all_tail (λ e. e ≢ event.Stop) (event.Chore s i) lines h)
has_stop-none (event.Large s i n ∷ lines) h = has_stop-none lines (all_tail (λ e. e ≢ event.Stop) (event.Large s i n) lines h)
has_stop-none (event.Stop ∷ lines) h = absurd (all_head (λ e. e ≢ event.Stop) event.Stop lines h refl)

module _ {L D C : Type 0} (x : EngineView L D C) (stops : TellsStop x.tablet.core) where
  -- where the engine is stopped its history says so
  pub stop_seen : x.tablet.core.stopped ≡ true → has_stop x.tablet.core.trail ≡ true
  stop_seen stopped = let last = stops.stopped stopped in ap has_stop last.1 ∙ has_stop-end last.0

  -- and where it goes on
  pub no_stop : x.tablet.core.stopped ≡ false → has_stop x.tablet.core.trail ≡ false
  no_stop goes = has_stop-none x.tablet.core.trail (stops.goes goes)
