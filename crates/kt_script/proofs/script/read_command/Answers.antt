use Rattle.kt_script.proofs.script.read_command.Goals as goal

pub returns-in-Chore : goal.returns-in-Chore
returns-in-Chore c = rw c.in-Chore.is (c.read_chore.ensures c.args.schema.now c.args.first.now c.args.op.now)
