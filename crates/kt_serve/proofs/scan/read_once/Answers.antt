use Rattle.std.proofs.Common.{Some, sym, ap, ◌∙◌, subst}
use Rattle.kt_seatlock.specs.Passes.{number, part, seen}
use Rattle.kt_serve.specs.Scans.{AfterRead, changes}
use Rattle.kt_serve.proofs.Begins.{same_root}
use Rattle.kt_serve.proofs.Open.{is_open}
use Rattle.kt_serve.proofs.Points.{never_written}
use Rattle.kt_serve.proofs.Rests.{upkeep_stays}
use Rattle.kt_serve.proofs.Scans.{look_turn, may_snapshot, waits_same, look_stays, after_read}
use Rattle.kt_serve.proofs.scan.read_once.Goals as goal

pub snapshot-read-requires : goal.snapshot-read-requires
snapshot-read-requires g c = λ _. may_snapshot _ c.enter-engine.result _ c.number-by.result c.args.index c.args.at c.enter-engine.ensures.part.0 c.number-by.ensures c.requires.next c.requires.scan c.requires.few

pub leave_as-requires-clause-same : goal.leave_as-requires-clause-same
leave_as-requires-clause-same g c = λ e. c.enter-engine.ensures.got.0 ∙ ap Some (sym (waits_same c.enter-engine.result c.snapshot-read.new.self c.number-by.result c.args.index c.snapshot-read.result c.snapshot-read.ensures.beside c.snapshot-read.ensures.left (sym (c.changes.ensures ∙ ap changes c.turn_of-turn.ensures) ∙ e)))

pub returns-clause-home : goal.returns-clause-home
returns-clause-home g c = look_stays _ _ c.enter-engine.result c.snapshot-read.new.self _ _ c.args.index c.args.at c.enter-engine.ensures.part.0 c.leave_as.ensures.told.1 (c.leave_as.ensures.pass.0.1 ∙ c.enter-engine.ensures.pass.0.1) c.requires.next (ap (λ v. v.log) c.snapshot-read.ensures.beside)

pub returns-clause-root : goal.returns-clause-root
returns-clause-root g c = same_root _ _ c.enter-engine.result c.snapshot-read.new.self c.number-by.result _ _ c.enter-engine.ensures.part.0 c.leave_as.ensures.told.1 c.snapshot-read.ensures.visit

pub returns-clause-read : goal.returns-clause-read
returns-clause-read g c = subst (λ r. AfterRead (part c.args.pass.now) (part c.leave_as.new.pass) (seen c.args.pass.now) (seen c.leave_as.new.pass) (number c.args.pass.now) c.args.index c.args.at r) (sym c.turn_of-turn.ensures)
    (after_read _ _ _ _ c.enter-engine.result c.snapshot-read.new.self _ _ c.number-by.result c.args.index c.args.at g.C.Clock.readings c.snapshot-read.result
    c.enter-engine.ensures.part.0 c.leave_as.ensures.told.1 (c.leave_as.ensures.pass.0.1 ∙ c.enter-engine.ensures.pass.0.1) c.number-by.ensures c.requires.next c.enter-engine.ensures.trail c.leave_as.ensures.told.0
    c.standing.ensures.stops c.standing.ensures.sound c.snapshot-read.ensures.read c.snapshot-read.ensures.mark c.snapshot-read.ensures.copied c.snapshot-read.ensures.shows (ap (λ v. v.log) c.snapshot-read.ensures.beside) c.snapshot-read.ensures.refused c.snapshot-read.ensures.left)

pub returns-clause-open : goal.returns-clause-open
returns-clause-open g c = is_open _ c.enter-engine.result _ c.args.index c.requires.next.look _ g.C.Clock.readings c.enter-engine.ensures.part.0 (look_turn _ c.args.index c.args.at c.enter-engine.result _ c.requires.next c.enter-engine.ensures.part.0) c.enter-engine.ensures.trail c.standing.ensures.sound

pub returns-clause-unwritten : goal.returns-clause-unwritten
returns-clause-unwritten g c = λ ts outcomes e. never_written c.snapshot-read.result ts outcomes (sym c.turn_of-turn.ensures ∙ e)

pub returns-clause-upkeep : goal.returns-clause-upkeep
returns-clause-upkeep g c = upkeep_stays _ _ c.enter-engine.result c.snapshot-read.new.self _ _ c.enter-engine.ensures.part.0 c.leave_as.ensures.told.1 (c.leave_as.ensures.pass.0.1 ∙ c.enter-engine.ensures.pass.0.1) (ap (λ v. v.store) c.snapshot-read.ensures.beside) (ap (λ v. v.upkeep) c.snapshot-read.ensures.beside)
