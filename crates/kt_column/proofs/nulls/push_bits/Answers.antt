use Rattle.std.proofs.Common.{◌+◌, ◌≡◌, ◌∙◌, length, length-append, ap, arith}
use Rattle.kt_column.proofs.NullBits.{bit_step}
use Rattle.kt_column.proofs.nulls.push_bits.Goals as goal

pub bits-preserved : goal.bits-preserved
bits-preserved c =
    let len : length c.push.new.self ≡ length c.bits.nulls + 1 = ap length c.in-Ok.ensures ∙ length-append c.bits.nulls _ in
    record {
      bits = bit_step c.bits.nulls _ _ c.args.n c.bits.i c.bits.left (omega arith) c.bits.invariant.bits c.in-Ok.ensures;
      len = omega (arith, len);
    }
