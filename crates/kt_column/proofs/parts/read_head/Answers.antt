use Rattle.std.proofs.Common.{refl, arith}
use Rattle.kt_column.proofs.Heads.{head_read}
use Rattle.kt_column.proofs.parts.read_head.Goals as goal

pub returns-clause-found : goal.returns-clause-found
returns-clause-found c =
    head_read c.args.form c.args.bytes.now _ c.split_at.result.0.now c.split_at.result.1.now c.in-Some.encoding c.from_le_bytes-len.result c.in-len1-up.len_at_least refl c.in-Some.ensures c.split_at.ensures.front c.split_at.ensures.back c.if-after-lt4.false (λ i. omega (arith, c.type_inv.bytes i)) c.from_le_bytes-len.ensures (omega arith)
