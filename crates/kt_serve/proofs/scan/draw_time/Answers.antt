use Rattle.std.proofs.Common.{refl, sym, subst}
use Rattle.kt_history.specs.declared.scan.At.{At}
use Rattle.kt_seatlock.specs.Passes.{number, part, seen}
use Rattle.kt_serve.specs.Scans.{ScansAt, IsLooking}
use Rattle.kt_serve.proofs.Rests.{upkeep_same}
use Rattle.kt_serve.proofs.Stills.{going_self}
use Rattle.kt_serve.proofs.Scans.{free_looks}
use Rattle.kt_serve.proofs.scan.draw_time.Goals as goal

pub look_once-requires-clause-scan : goal.look_once-requires-clause-scan
look_once-requires-clause-scan g c = subst (λ (a : At). ScansAt (part c.args.pass.now) (number c.args.pass.now) c.args.index a) c.in-Looked.is c.requires.scan

pub returns-in-Given-clause-going : goal.returns-in-Given-clause-going
returns-in-Given-clause-going g c = going_self (number c.args.pass.now) (part c.args.pass.now) (seen c.args.pass.now)

pub returns-in-Given-clause-drawn : goal.returns-in-Given-clause-drawn
returns-in-Given-clause-drawn g c = subst (λ (a : At). IsLooking (part c.args.pass.now) c.args.index a) (sym c.in-Given.is) (free_looks _ c.args.index _ c.requires.next)

pub returns-in-Given-clause-upkeep : goal.returns-in-Given-clause-upkeep
returns-in-Given-clause-upkeep g c = upkeep_same (part c.args.pass.now) (part c.args.pass.now) refl
