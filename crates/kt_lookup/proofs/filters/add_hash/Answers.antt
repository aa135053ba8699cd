use Rattle.std.proofs.Common.{◌*◌, length}
use Rattle.kt_lookup.specs.Filter.{HasBit}
use Rattle.kt_lookup.proofs.BitSets.{bits_more}
use Rattle.kt_lookup.proofs.filters.add_hash.Goals as goal

pub loop-i-preserved : goal.loop-i-preserved
loop-i-preserved c = λ j.
    bits_more (HasBit c.args.filter.now j) (HasBit c.loop-i.filter j) (HasBit c.set_bit.new.bytes j) (8 * length c.args.filter.now) c.args.hash c.loop-i.i c.nth_bit.result j (c.set_bit.ensures j) c.nth_bit.ensures.of (c.loop-i.invariant j)
