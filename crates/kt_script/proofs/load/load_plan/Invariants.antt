use Rattle.std.proofs.Common.{◌≡◌}
use Rattle.kt_script.proofs.LoadOps.{sessions_to}
use Rattle.kt_script.proofs.load.load_plan.Given as goal

-- the sessions before here are made
abbrev pub invariant-sessions : goal.invariant-sessions
invariant-sessions l = l.sessions.items ≡ sessions_to l.count l.session
