use Rattle.kt_pool.proofs.Padded.{size_is}
use Rattle.kt_pool.proofs.pool.Pool.size.Goals as goal

pub returns : goal.returns
returns c = let i = c.self.inside in rw (← c.self.view_is) (size_is _ _ _ _ _ _ c.self.invariant)
