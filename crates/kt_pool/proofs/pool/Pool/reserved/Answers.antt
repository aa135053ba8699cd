use Rattle.std.proofs.Common.{arith}
use Rattle.kt_pool.proofs.Padded.{free_is}
use Rattle.kt_pool.proofs.pool.Pool.reserved.Goals as goal

pub returns-clause-free : goal.returns-clause-free
returns-clause-free c = let f = free_is _ _ _ _ _ _ c.self.invariant in let p = c.self.invariant.promised in rw (← c.self.view_is) (omega arith)
