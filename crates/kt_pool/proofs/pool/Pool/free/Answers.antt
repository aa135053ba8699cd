use Rattle.std.proofs.Common.{arith, ◌≡◌, length}
use Rattle.kt_pool.proofs.Padded.{free_is, free_and_used}
use Rattle.kt_pool.proofs.pool.Pool.free.Goals as goal

pub returns-clause-free : goal.returns-clause-free
returns-clause-free c =
    let i = c.self.inside in
    let n : c.len.result ≡ length i.cells.items = omega (arith, c.len.ensures, i.cells.ok) in
    rw (← c.self.view_is) (let f = free_is _ _ _ _ _ _ c.self.invariant in omega arith)

pub returns-clause-all : goal.returns-clause-all
returns-clause-all c =
    let i = c.self.inside in
    let n : c.len.result ≡ length i.cells.items = omega (arith, c.len.ensures, i.cells.ok) in
    rw (← c.self.view_is) (let f = free_and_used _ _ _ _ _ _ c.self.invariant in omega arith)
