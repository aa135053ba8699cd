use Rattle.std.proofs.Common.{arith}
use Rattle.kt_history.proofs.Merging.{sets_one, sets_over}
use Rattle.kt_history.proofs.row_ref.put_rising.Goals as goal

pub returns-then-id-least-clause-some : goal.returns-then-id-least-clause-some
returns-then-id-least-clause-some c = sets_over c.args.more c.cells.rest c.args.cells.now.items c.cells.cells.items c.cells.from c.cells.least c.cells.invariant

pub cells-preserved : goal.cells-preserved
cells-preserved c =
    rw c.from-id.ensures (sets_one c.args.more c.cells.rest c.in-Some.others c.args.cells.now.items c.cells.cells.items c.put_behind.new.cells.items c.cells.from c.cells.least c.in_ok-at.at c.in-Some.cell.0 c.in-Some.cell.1 c.cells.invariant (omega (arith, c.from-id.ensures, c.if-id-least.false)) c.in-Some.ensures.some c.in_ok-at.ensures.put c.in_ok-at.ensures.bound c.in_ok-at.ensures.below)

pub returns-clause-some : goal.returns-clause-some
returns-clause-some c = sets_over c.args.more c.cells.rest c.args.cells.now.items c.cells.cells.items c.cells.from c.cells.least c.cells.invariant
