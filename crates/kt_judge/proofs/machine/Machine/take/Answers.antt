use Rattle.kt_judge.proofs.Taken.{rows_takes, ancient_takes, busy_takes, mark_takes, chore_takes, large_takes, end_takes, look_takes}
use Rattle.kt_judge.proofs.machine.Machine.take.Goals as goal

pub returns-in-End : goal.returns-in-End
returns-in-End c = end_takes c.answer.result c.args.self.now c.land.new.self c.answer.new.self c.args.event c.in-End.s c.in-End.i c.in-End.ts c.in-End.is c.land.ensures.flying c.land.ensures.rest c.answer.ensures.turns c.answer.ensures.rest

pub returns-in-Look : goal.returns-in-Look
returns-in-Look c = look_takes c.args.self.now c.look.new.self c.args.event c.in-Look.s c.in-Look.i c.in-Look.t c.in-Look.m c.in-Look.is c.look.ensures.turns c.look.ensures.rest

pub returns-in-Rows : goal.returns-in-Rows
returns-in-Rows c = rows_takes c.answer-in-Rows.result c.args.self.now c.answer-in-Rows.new.self c.args.event c.in-Rows.s c.in-Rows.i c.in-Rows.t c.max-self.result c.in-Rows.is c.max-self.ensures c.answer-in-Rows.ensures.turns c.answer-in-Rows.ensures.rest

pub returns-in-Mark : goal.returns-in-Mark
returns-in-Mark c = mark_takes c.answer-in-Mark.result c.args.self.now c.answer-in-Mark.new.self c.args.event c.in-Mark.s c.in-Mark.i c.in-Mark.a c.in-Mark.is c.answer-in-Mark.ensures.turns c.answer-in-Mark.ensures.rest

pub returns-in-Ancient : goal.returns-in-Ancient
returns-in-Ancient c = ancient_takes c.answer-in-Ancient.result c.args.self.now c.answer-in-Ancient.new.self c.args.event c.in-Ancient.s c.in-Ancient.i c.in-Ancient.t c.in-Ancient.a c.in-Ancient.is c.answer-in-Ancient.ensures.turns c.answer-in-Ancient.ensures.rest

pub returns-in-Busy : goal.returns-in-Busy
returns-in-Busy c = busy_takes c.answer-in-Busy.result c.args.self.now c.answer-in-Busy.new.self c.args.event c.in-Busy.s c.in-Busy.i c.in-Busy.t c.in-Busy.f c.in-Busy.is c.answer-in-Busy.ensures.turns c.answer-in-Busy.ensures.rest

pub returns-in-Chore : goal.returns-in-Chore
returns-in-Chore c = chore_takes c.answer-in-Chore.result c.args.self.now c.answer-in-Chore.new.self c.args.event c.in-Chore.s c.in-Chore.i c.in-Chore.is c.answer-in-Chore.ensures.turns c.answer-in-Chore.ensures.rest

pub returns-in-Large : goal.returns-in-Large
returns-in-Large c = large_takes c.answer-in-Large.result c.args.self.now c.answer-in-Large.new.self c.args.event c.in-Large.s c.in-Large.i c.in-Large.n c.in-Large.is c.answer-in-Large.ensures.turns c.answer-in-Large.ensures.rest
