use Rattle.std.proofs.Common.{◌≡◌, false, true, drop, arith, ◌+◌}
use Rattle.std.specs.Prelude.{nat_lt}
use Rattle.std.proofs.lemmas.Bool.{OnTrue_from, ltb-true}
use Rattle.kt_cells.specs.Borrowed.{cells_in_ref}
use Rattle.kt_history.specs.AsBytes.{change_with}
use Rattle.kt_joblaws.specs.Apart.{AreInTime}
use Rattle.kt_engine.proofs.TableCells.{other_key, next_there, later}
use Rattle.kt_engine.proofs.filled.goes_up.Goals as goal

pub returns-then-not-goes_on : goal.returns-then-not-goes_on
returns-then-not-goes_on c = other_key c.args.changes.now c.args.at (λ same. (let on : c.goes_on.result ≡ true = c.goes_on.ensures.1 same in let off : c.goes_on.result ≡ false = c.if-not-goes_on.true in cc))

pub overflow_add-at : goal.overflow_add-at
overflow_add-at c = omega arith

pub at-requires-2 : goal.at-requires-2
at-requires-2 c = next_there c.args.changes.now c.args.at c.requires.inside (c.goes_on.ensures.0 c.if-not-goes_on.false)

pub returns : goal.returns
returns c =
    let list = c.args.changes.now in
    let at = c.args.at in
    let one = c.at.result in
    let two = c.at-2.result in
    OnTrue_from (nat_lt one.ts two.ts) (AreInTime (drop (at + 1) list) → AreInTime (drop at list))
    (λ is. later list at one.ts two.ts (change_with one.kind (cells_in_ref one.cells)) (change_with two.kind (cells_in_ref two.cells)) c.at.ensures c.at-2.ensures (ltb-true one.ts two.ts is))
