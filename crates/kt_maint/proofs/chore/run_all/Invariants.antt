use Rattle.std.proofs.Common.{take}
use Rattle.kt_seatlock.specs.Passes.{number, seen, part, IsBack}
use Rattle.kt_engine.specs.Calls.{SeesOthers, HasNoDevice, StandsStill}
use Rattle.kt_maint.specs.Calls.{HasNoJob}
use Rattle.kt_maint.proofs.Rounds.{RoundsOn}
use Rattle.kt_maint.proofs.chore.run_all.Given as goal

abbrev pub invariant-wants : goal.invariant-wants
invariant-wants g l = IsBack l.initial.pass l.pass × HasNoDevice (part l.pass) × StandsStill (part l.initial.pass) (part l.pass) × SeesOthers (number l.initial.pass) (seen l.initial.pass) (seen l.pass)
    × RoundsOn l.wants (take l.want-index l.wants) (part l.initial.pass) (part l.pass) × (HasNoJob (part l.initial.pass) → HasNoJob (part l.pass))
