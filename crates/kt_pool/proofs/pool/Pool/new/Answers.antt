use Rattle.std.proofs.Common.{arith, sym, subst, List}
use Rattle.std.specs.Vec.{vec_capacity}
use Rattle.kt_pool.specs.Sound.{IsPool}
use Rattle.kt_pool.specs.declared.cells.Cell.{Cell}
use Rattle.kt_pool.proofs.Fresh.{no_cells}
use Rattle.kt_pool.proofs.pool.Pool.new.Goals as goal

pub invariant_of-result : goal.invariant_of-result
invariant_of-result c =
    let v = c.in_ok-with_capacity in
    let e = v.ensures.items in
    let r = v.ensures.capacity in
    subst (λ (l : List Cell). IsPool l 0 0 c.args.cells (vec_capacity v.field-0) 0) (sym e) (record {
      sound = no_cells;
      used = omega arith;
      room = omega arith;
      small = omega arith;
      promised = omega arith;
    })
