use Rattle.std.proofs.Common.{inl, inr}
use Rattle.kt_maint.proofs.work.turn.Goals as goal

-- what was tried is neither
pub returns-in-Some-clause-same : goal.returns-in-Some-clause-same
returns-in-Some-clause-same g c = λ e. absurd (elim e [ inl busy ↦ c.run_found.ensures.tried.0 busy | inr idle ↦ c.run_found.ensures.tried.1 idle ])
