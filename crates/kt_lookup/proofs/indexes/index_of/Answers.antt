use Rattle.std.proofs.Common.{arith}
use Rattle.kt_lookup.proofs.Search.{is_index}
use Rattle.kt_lookup.proofs.indexes.index_of.Goals as goal

pub returns : goal.returns
returns c = is_index c.args.keys.now c.loop-j.index (omega (arith, c.loop-j.invariant.len, c.div_ceil-j-end.ensures, c.len.ensures)) (λ k lt. c.loop-j.invariant.each k (omega (arith, c.loop-j.invariant.len)))
