use Rattle.std.proofs.Common.{ℕ, ◌≤◌, length}
use Rattle.kt_seatlock.specs.Passes.{number, seen, part, IsBack}
use Rattle.kt_serve.specs.Maintained.{KeepsUpkeep}
use Rattle.kt_serve.specs.Sessions.{HasNoLog, IsGoing, IsFlying}
use Rattle.kt_serve.proofs.rows.finish_write.Given as goal

abbrev pub invariant-loop : goal.invariant-loop
invariant-loop g l =
    IsBack l.fn.pass l.pass × HasNoLog (part l.pass) × IsGoing (number l.fn.pass) (part l.fn.pass) (part l.pass) (seen l.fn.pass) (seen l.pass)
    × ((i : ℕ) → IsFlying (part l.fn.pass) (number l.fn.pass) i l.write 0 → IsFlying (part l.pass) (number l.fn.pass) i l.write l.at) × (l.at ≤ length l.write.ops)
    × KeepsUpkeep (part l.fn.pass) (part l.pass)
