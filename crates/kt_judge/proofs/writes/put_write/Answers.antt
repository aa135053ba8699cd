use Rattle.kt_judge.proofs.Shown.{shows_none}
use Rattle.kt_judge.proofs.writes.put_write.Goals as goal

pub returns-in-None-clause-rows : goal.returns-in-None-clause-rows
returns-in-None-clause-rows c = λ rows shows. rw c.in-None.is (shows_none c.args.ts c.args.entries.now.items rows shows)

pub returns-in-Some-clause-rows : goal.returns-in-Some-clause-rows
returns-in-Some-clause-rows c = rw c.in-Some.is c.put_ops.ensures.rows
