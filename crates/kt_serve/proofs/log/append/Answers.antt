use Rattle.std.proofs.Common.{Err, refl, ap, ◌∙◌, arith}
use Rattle.kt_seatlock.specs.Passes.{number, seen, part}
use Rattle.kt_serve.proofs.Rests.{upkeep_same}
use Rattle.kt_serve.proofs.Stills.{still_self}
use Rattle.kt_serve.proofs.log.append.Goals as goal

pub returns-in-Ok-clause-appended : goal.returns-in-Ok-clause-appended
returns-in-Ok-clause-appended g c = (
  c.args.batch.journal,
  c.args.batch.records,
  c.requires.lent,
  record {
    usable = c.in-Ok.ensures.usable;
    count = c.in-Ok.ensures.count;
    reads = c.in-Ok.ensures.records;
    durable = c.in-Ok.ensures.durable;
    opens = c.append_batch.ensures.openable;
    others = λ told image left. let run = c.append_batch.ensures.elsewhere told in run.each (g.L.Disk.now c.append_batch.new.self.disk) image run.later (omega arith) left;
    later = c.append_batch.ensures.faults;
    moments = c.append_batch.ensures.any_moment;
  },
)

pub returns-in-Ok-clause-still : goal.returns-in-Ok-clause-still
returns-in-Ok-clause-still g c = still_self (number c.args.pass.now) (part c.args.pass.now) (seen c.args.pass.now)

pub returns-in-Ok-clause-upkeep : goal.returns-in-Ok-clause-upkeep
returns-in-Ok-clause-upkeep g c = upkeep_same _ _ refl

pub take_back-requires-clause-lent : goal.take_back-requires-clause-lent
take_back-requires-clause-lent g c = rw (c.append_batch.ensures.memory (c.in-Err-Memory.is ∙ ap Err c.in-Err-Memory.field-0-is)) c.requires.lent

pub take_broken-requires-clause-broken : goal.take_broken-requires-clause-broken
take_broken-requires-clause-broken g c = (
  c.args.batch.journal,
  c.args.batch.records,
  c.requires.lent,
  record {
    rose = c.append_batch.ensures.fault (c.in-Err-Fault.is ∙ ap Err c.in-Err-Fault.field-0-is);
    later = c.append_batch.ensures.faults;
    images = λ told image left. let run = c.append_batch.ensures.any_moment told in run.each (g.L.Disk.now c.append_batch.new.self.disk) image run.later (omega arith) left;
    opens = c.append_batch.ensures.openable;
    others = λ told image left. let run = c.append_batch.ensures.elsewhere told in run.each (g.L.Disk.now c.append_batch.new.self.disk) image run.later (omega arith) left;
    moments = c.append_batch.ensures.any_moment;
  },
)
