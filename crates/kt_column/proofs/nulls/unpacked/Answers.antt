use Rattle.std.proofs.Common.{◌-◌, arith, refl}
use Rattle.kt_column.proofs.NullBits.{byte_step, len_step}
use Rattle.kt_column.proofs.nulls.unpacked.Goals as goal

pub bytes-preserved : goal.bytes-preserved
bytes-preserved c =
    record {
      bits = byte_step c.bytes.nulls _ _ c.bytes.left c.min-here.result (c.bytes.left - c.min-here.result) c.bytes.byte-index _ c.args.bytes.now (omega arith) refl c.min-here.ensures refl c.bytes.invariant.bits c.in-Ok-push_bits.ensures;
      len = len_step c.bytes.nulls _ c.bytes.left c.min-here.result (c.bytes.left - c.min-here.result) _ c.args.n c.min-here.ensures refl c.bytes.invariant.len c.in-Ok-push_bits.ensures;
    }
