use Rattle.std.proofs.lemmas.Result.{on_err_weaker}
use Rattle.kt_seatlock.specs.Passes.{number, part, seen}
use Rattle.kt_serve.proofs.Scans.{going_lacks}
use Rattle.kt_serve.proofs.Maintained.{done_command}
use Rattle.kt_serve.proofs.Rests.{chore_keeps, each_keeps, upkeep_none, upkeep_rests, upkeep_rounds}
use Rattle.kt_serve.proofs.tablet.SharedTablet.take.Goals as goal

pub returns-in-Write-clause-memory : goal.returns-in-Write-clause-memory
returns-in-Write-clause-memory g c = on_err_weaker c.write.result (going_lacks (number c.args.pass.now) c.args.index (part c.args.pass.now) (part c.write.new.pass) (seen c.args.pass.now) (seen c.write.new.pass)) c.write.ensures.memory

pub returns-in-Mark-clause-memory : goal.returns-in-Mark-clause-memory
returns-in-Mark-clause-memory g c = on_err_weaker c.mark.result (going_lacks (number c.args.pass.now) c.args.index (part c.args.pass.now) (part c.mark.new.pass) (seen c.args.pass.now) (seen c.mark.new.pass)) c.mark.ensures.memory

pub returns-in-Chore-clause-memory : goal.returns-in-Chore-clause-memory
returns-in-Chore-clause-memory g c = on_err_weaker c.chore.result (going_lacks (number c.args.pass.now) c.args.index (part c.args.pass.now) (part c.chore.new.pass) (seen c.args.pass.now) (seen c.chore.new.pass)) c.chore.ensures.memory

pub returns-in-Chore-clause-done : goal.returns-in-Chore-clause-done
returns-in-Chore-clause-done g c = λ chore asked. done_command c.args.command.now _ chore (part c.args.pass.now) (part c.chore.new.pass) c.chore.result c.in-Chore.is c.chore.ensures.done asked

pub returns-in-Mark-clause-rests : goal.returns-in-Mark-clause-rests
returns-in-Mark-clause-rests g c = upkeep_rests (part c.args.pass.now) (part c.mark.new.pass) c.mark.ensures.upkeep c.requires.rests

pub returns-in-Scan-clause-rests : goal.returns-in-Scan-clause-rests
returns-in-Scan-clause-rests g c = upkeep_rests (part c.args.pass.now) (part c.scan.new.pass) c.scan.ensures.upkeep c.requires.rests

pub returns-in-Mark-clause-none : goal.returns-in-Mark-clause-none
returns-in-Mark-clause-none g c = λ _. upkeep_none (part c.args.pass.now) (part c.mark.new.pass) c.mark.ensures.upkeep

pub returns-in-Scan-clause-none : goal.returns-in-Scan-clause-none
returns-in-Scan-clause-none g c = λ _. upkeep_none (part c.args.pass.now) (part c.scan.new.pass) c.scan.ensures.upkeep

pub returns-in-Mark-clause-rounds : goal.returns-in-Mark-clause-rounds
returns-in-Mark-clause-rounds g c = each_keeps (part c.args.pass.now) (part c.mark.new.pass) c.mark.result (upkeep_rounds (part c.args.pass.now) (part c.mark.new.pass) c.mark.ensures.upkeep)

pub returns-in-Scan-clause-rounds : goal.returns-in-Scan-clause-rounds
returns-in-Scan-clause-rounds g c = each_keeps (part c.args.pass.now) (part c.scan.new.pass) c.scan.result (upkeep_rounds (part c.args.pass.now) (part c.scan.new.pass) c.scan.ensures.upkeep)

pub returns-in-Chore-clause-rounds : goal.returns-in-Chore-clause-rounds
returns-in-Chore-clause-rounds g c = chore_keeps _ (part c.args.pass.now) (part c.chore.new.pass) c.chore.result c.chore.ensures.done
