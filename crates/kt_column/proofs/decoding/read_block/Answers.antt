use Rattle.kt_column.proofs.Faulty.{found_block, body_stop}
use Rattle.kt_column.proofs.Heads.{no_head_stop, block_head, body_of}
use Rattle.kt_column.proofs.decoding.read_block.Goals as goal

pub returns-in-Ok-body-clause-found : goal.returns-in-Ok-body-clause-found
returns-in-Ok-body-clause-found c = found_block c.args.form c.in-Ok.head.encoding c.args.n c.in-Ok.head.len c.args.bytes.now c.in-Ok.head.rest.now c.in-Ok-body.block.cells c.in-Ok.ensures.found c.in-Ok-body.ensures.found

pub returns-in-Err-body-clause-stop : goal.returns-in-Err-body-clause-stop
returns-in-Err-body-clause-stop c = body_stop c.args.form c.args.n c.args.bytes.now c.in-Err-body.stop (record { encoding = c.in-Ok.head.encoding; len = c.in-Ok.head.len; rest = c.in-Ok.head.rest.now; front = c.in-Ok.ensures.found; body = c.in-Err-body.ensures.stop })

pub returns-in-Err-clause-only : goal.returns-in-Err-clause-only
returns-in-Err-clause-only c cs front rest b len is =
    absurd (no_head_stop c.args.form c.args.bytes.now b.block.encoding _ _ c.in-Err.stop (block_head c.args.form cs front rest c.args.bytes.now b is) c.in-Err.ensures.stop)

pub returns-in-Ok-body-clause-only : goal.returns-in-Ok-body-clause-only
returns-in-Ok-body-clause-only c cs front rest b len is =
    let body = body_of c.args.form cs front rest c.args.bytes.now c.args.n c.in-Ok.head.encoding c.in-Ok.head.len c.in-Ok.head.rest.now b len is c.in-Ok.ensures.found in
    (c.in-Ok-body.ensures.only cs body.0, body.1)

pub returns-in-Err-body-clause-only : goal.returns-in-Err-body-clause-only
returns-in-Err-body-clause-only c cs front rest b len is =
    let body = body_of c.args.form cs front rest c.args.bytes.now c.args.n c.in-Ok.head.encoding c.in-Ok.head.len c.in-Ok.head.rest.now b len is c.in-Ok.ensures.found in
    c.in-Err-body.ensures.only cs body.0
