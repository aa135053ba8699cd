use Rattle.std.proofs.Common.{◌++◌, arith, ap, ◌∙◌}
use Rattle.kt_pool.specs.Cells.{content}
use Rattle.kt_pool.proofs.Along.{rest_chain, appended, appended_last}
use Rattle.kt_pool.proofs.cells.append.Goals as goal

pub loop-left-preserved : goal.loop-left-preserved
loop-left-preserved c =
    let l = c.loop-left in
    let all = c.reserve.new.self.items ++ content c.args.cells.now c.args.first c.args.len in (
      rest_chain c.args.cells.now l.at l.left l.invariant.0 c.requires.full c.loop-left-test.true,
      appended c.args.cells.now l.at l.left l.invariant.0 c.requires.full l.out.items c.extend_from_slice.new.self.items all c.loop-left-test.true c.in_ok-extend_from_slice.ensures.items l.invariant.1,
      omega (arith, c.in_ok-extend_from_slice.ensures.len, c.requires.full l.at (l.invariant.0.inside 0 (omega arith))),
    )

pub returns-clause-items : goal.returns-clause-items
returns-clause-items c =
    let l = c.loop-left in
    let all = c.reserve.new.self.items ++ content c.args.cells.now c.args.first c.args.len in
    appended_last c.args.cells.now l.at l.left l.invariant.0 c.requires.full l.out.items c.extend_from_slice-2.new.self.items all (omega arith) c.in_ok-extend_from_slice-2.ensures.items l.invariant.1 ∙ ap (λ xs. xs ++ content c.args.cells.now c.args.first c.args.len) c.reserve.ensures.items
