use Rattle.kt_lookup.proofs.BitSets.{bit_set}
use Rattle.kt_lookup.proofs.bits.set_bit.Goals as goal

pub returns : goal.returns
returns c = bit_set c.args.bytes.now c.args.k c.requires
