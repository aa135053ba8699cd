use Rattle.kt_seatlock.specs.Passes.{number, seen, part, IsBack}
use Rattle.kt_serve.specs.Maintained.{KeepsUpkeep}
use Rattle.kt_serve.specs.Sessions.{HasNoLog, IsStill}
use Rattle.kt_serve.proofs.log.make_durable.Given as goal

abbrev pub invariant-loop : goal.invariant-loop
invariant-loop g l = IsBack l.initial.pass l.pass × HasNoLog (part l.pass) × IsStill (number l.initial.pass) (part l.initial.pass) (part l.pass) (seen l.initial.pass) (seen l.pass) × KeepsUpkeep (part l.initial.pass) (part l.pass)
