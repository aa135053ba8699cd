use Rattle.std.proofs.Common.{◌≡◌, ◌+◌, ℕ, Some, length, take}
use Rattle.kt_history.specs.declared.reply.Reply.{Reply}
use Rattle.kt_history.specs.Machine.{nth}
use Rattle.kt_seatlock.specs.Passes.{number, seen, part, IsBack}
use Rattle.kt_serve.specs.Points.{CameTo}
use Rattle.kt_serve.specs.Maintained.{HasNoJob, HasRounds, StoreRests, chores_in}
use Rattle.kt_serve.specs.Sessions.{IsFree, SameRoot, OnRoot, TellsOwn}
use Rattle.kt_serve.proofs.session.run_commands.Given as goal

abbrev pub invariant-loop-at : goal.invariant-loop-at
invariant-loop-at g l =
    IsBack l.initial.pass l.pass × SameRoot (part l.initial.pass) (part l.pass) × IsFree (part l.pass) (l.at + 1) × (length l.replies.items ≡ l.at)
    × OnRoot (part l.initial.pass) (λ root. TellsOwn root (number l.initial.pass) l.replies.items (seen l.pass))
    × ((k : ℕ) (reply : Reply) → nth l.replies.items k ≡ Some reply → CameTo g.G.Gate.came l.gate (number l.initial.pass) k reply)
    × StoreRests (part l.pass) × (HasNoJob (part l.initial.pass) → HasNoJob (part l.pass)) × HasRounds (chores_in (take l.at l.commands)) (part l.pass)
