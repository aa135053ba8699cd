use Rattle.kt_seatlock.specs.Passes.{number, seen, part, IsBack}
use Rattle.kt_serve.specs.Maintained.{KeepsUpkeep}
use Rattle.kt_serve.specs.Sessions.{IsGoing}
use Rattle.kt_serve.specs.Scans.{IsLooking}
use Rattle.kt_serve.proofs.scan.read_rows.Given as goal

abbrev pub invariant-loop : goal.invariant-loop
invariant-loop g l = IsBack l.initial.pass l.pass × IsLooking (part l.pass) l.index l.scan.at × IsGoing (number l.initial.pass) (part l.initial.pass) (part l.pass) (seen l.initial.pass) (seen l.pass) × KeepsUpkeep (part l.initial.pass) (part l.pass)
