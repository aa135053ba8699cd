use Rattle.std.proofs.Common.{◌≡◌, false}
use Rattle.kt_serve.specs.Sessions.{Applies}
use Rattle.kt_serve.proofs.rows.apply_part.Given as goal

abbrev pub invariant-loop-row : goal.invariant-loop-row
invariant-loop-row g l =
    Applies l.fn.engine l.engine l.by l.at l.row × (l.engine.tablet.core.stopped ≡ false) × (l.engine.tablet.places ≡ l.fn.engine.tablet.places) × (l.engine.store ≡ l.fn.engine.store) × (l.engine.upkeep ≡ l.fn.engine.upkeep)
