use Rattle.std.proofs.Common.{◌<◌, length, get_or, arith}
use Rattle.std.proofs.lemmas.Bool.{OnTrue_at}
use Rattle.kt_base.specs.declared.cell_ref.CellRef.TheVariants as ref
use Rattle.kt_merge.proofs.FitFiles.{itself_at}
use Rattle.kt_engine.proofs.TableCells.{stands_there}
use Rattle.kt_engine.proofs.fitting.behind.Goals as goal

pub returns-then-stands_under-clause-part : goal.returns-then-stands_under-clause-part
returns-then-stands_under-clause-part c = λ columns.
    let cells = c.args.cells.now in
    let at = c.args.at in
    let low : at < length cells = omega (arith, c.requires, c.if-at-cells.false) in
    stands_there c.args.column columns cells at (get_or cells at (0, ref.Null)) low (itself_at cells at (0, ref.Null) low) (OnTrue_at c.if-stands_under.true c.stands_under.ensures)
