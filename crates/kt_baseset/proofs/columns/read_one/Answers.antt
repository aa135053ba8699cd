use Rattle.std.proofs.Common.{arith}
use Rattle.kt_baseset.proofs.Each.{no_shape, no_blocks, no_one, one_found, one_only, id_room}
use Rattle.kt_baseset.proofs.columns.read_one.Goals as goal

pub returns-in-Err-clause-only : goal.returns-in-Err-clause-only
returns-in-Err-clause-only c = no_shape c.in-Err.stop c.args.rows c.args.least c.args.more c.args.bytes.now c.in-Err.ensures

pub after-requires : goal.after-requires
after-requires c = c.in-Ok-blocks_at.ensures.found.1.within

pub returns-in-Ok-blocks_at-clause-found : goal.returns-in-Ok-blocks_at-clause-found
returns-in-Ok-blocks_at-clause-found c = rw c.after.ensures (one_found c.args.rows c.args.least c.args.more c.args.bytes.now c.in-Ok.read.0 c.in-Ok.read.1.now c.in-Ok-blocks_at.column c.in-Ok-blocks_at.used (λ i. omega (arith, c.type_inv.bytes i)) c.in-Ok.ensures c.in-Ok-blocks_at.ensures.found.0 c.in-Ok-blocks_at.ensures.found.1)

pub returns-in-Ok-blocks_at-clause-only : goal.returns-in-Ok-blocks_at-clause-only
returns-in-Ok-blocks_at-clause-only c = rw c.after.ensures (one_only c.args.rows c.args.least c.args.more c.args.bytes.now c.in-Ok.read.0 c.in-Ok.read.1.now c.in-Ok-blocks_at.column c.in-Ok-blocks_at.used c.in-Ok.ensures c.in-Ok-blocks_at.ensures.only)

pub returns-in-Err-blocks_at-clause-only : goal.returns-in-Err-blocks_at-clause-only
returns-in-Err-blocks_at-clause-only c = no_one c.in-Err-blocks_at.stop c.args.rows c.args.least c.args.more c.args.bytes.now c.in-Ok.read.0 c.in-Ok.read.1.now c.in-Ok.ensures c.in-Err-blocks_at.ensures.only

pub returns-in-Err-blocks_at-clause-stop : goal.returns-in-Err-blocks_at-clause-stop
returns-in-Err-blocks_at-clause-stop c = no_blocks c.in-Err-blocks_at.stop c.args.rows c.args.least c.args.more c.args.bytes.now c.in-Ok.read.0 c.in-Ok.read.1.now c.in-Ok.ensures c.in-Err-blocks_at.ensures.stop

pub returns-in-Ok-blocks_at-clause-room : goal.returns-in-Ok-blocks_at-clause-room
returns-in-Ok-blocks_at-clause-room c = id_room c.args.least c.args.more c.args.bytes.now c.in-Ok.read.0 c.in-Ok.read.1.now (λ i. omega (arith, c.type_inv.bytes i)) c.in-Ok.ensures
