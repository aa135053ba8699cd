use Rattle.std.proofs.Common.{length, get_or, false}
use Rattle.std.specs.Prelude.{◌==◌}
use Rattle.std.proofs.lemmas.Bool.{OnTrue_from, eqb-true}
use Rattle.kt_base.specs.declared.cell.Kind.TheVariants as kinds
use Rattle.kt_cells.specs.Borrowed.{cells_in}
use Rattle.kt_baseset.specs.declared.schema.ColumnShape.{ColumnShape}
use Rattle.kt_joblaws.specs.Apart.{ArePart}
use Rattle.kt_merge.proofs.FitFiles.{itself_at}
use Rattle.kt_engine.proofs.TableCells.{part_on, part_over}
use Rattle.kt_engine.proofs.fitting.are_part.Goals as goal

abbrev none : ColumnShape
none = record { id = 0; kind = kinds.Bool; nullable = false }

pub columns-preserved : goal.columns-preserved
columns-preserved c =
    let columns = c.args.columns.now in
    let cells = c.args.cells.now in
    let i = c.columns.column-index in
    record {
      inside = c.behind-at.ensures.inside;
      on = part_on columns (cells_in cells) i c.columns.at c.behind-at.result (get_or columns i none) (ArePart columns (cells_in cells)) c.columns-test.true (itself_at columns i none c.columns-test.true) c.behind-at.ensures.part c.columns.invariant.on;
    }

pub returns : goal.returns
returns c = OnTrue_from (c.columns.at == length c.args.cells.now) (ArePart c.args.columns.now (cells_in c.args.cells.now))
    (λ is. part_over c.args.columns.now c.args.cells.now c.columns.column-index c.columns.at (ArePart c.args.columns.now (cells_in c.args.cells.now)) (eqb-true c.columns.at (length c.args.cells.now) is) c.columns.invariant.on)
