use Rattle.std.proofs.Common.{arith}
use Rattle.kt_baseset.proofs.Each.{no_count, columns_stop, columns_found, columns_each}
use Rattle.kt_baseset.proofs.columns.read_columns.Goals as goal

pub returns-in-Err-clause-only : goal.returns-in-Err-clause-only
returns-in-Err-clause-only c = no_count c.in-Err.stop c.args.rows c.args.bytes.now c.in-Err.ensures

pub returns-in-Ok-read_each-clause-found : goal.returns-in-Ok-read_each-clause-found
returns-in-Ok-read_each-clause-found c = columns_found c.args.rows c.args.bytes.now c.in-Ok.read.0 c.in-Ok.read.1.now c.in-Ok-read_each.read.0.items c.in-Ok-read_each.read.1.now (λ i. omega (arith, c.type_inv.bytes i)) c.in-Ok.ensures c.in-Ok-read_each.ensures.found

pub returns-in-Ok-read_each-clause-only : goal.returns-in-Ok-read_each-clause-only
returns-in-Ok-read_each-clause-only c = λ cs last r. c.in-Ok-read_each.ensures.only cs last (columns_each c.args.rows c.args.bytes.now c.in-Ok.read.0 c.in-Ok.read.1.now c.in-Ok.ensures cs last r)

pub returns-in-Err-read_each-clause-only : goal.returns-in-Err-read_each-clause-only
returns-in-Err-read_each-clause-only c = λ cs last r. c.in-Err-read_each.ensures.only cs last (columns_each c.args.rows c.args.bytes.now c.in-Ok.read.0 c.in-Ok.read.1.now c.in-Ok.ensures cs last r)

pub returns-in-Err-read_each-clause-stop : goal.returns-in-Err-read_each-clause-stop
returns-in-Err-read_each-clause-stop c = columns_stop c.in-Err-read_each.stop c.args.rows c.args.bytes.now c.in-Ok.read.0 c.in-Ok.read.1.now c.in-Ok.ensures c.in-Err-read_each.ensures.stop
