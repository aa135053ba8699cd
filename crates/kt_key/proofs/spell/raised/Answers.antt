use Rattle.std.proofs.Common.{arith}
use Rattle.std.proofs.lemmas.Int.{ints}
use Rattle.kt_key.proofs.Numbers.{range_bounds}
use Rattle.kt_key.proofs.spell.raised.Goals as goal

pub overflow_cast-result : goal.overflow_cast-result
overflow_cast-result c = let b = range_bounds c.args.half c.args.number c.requires.range in (omega (arith, ints), omega (arith, ints))
