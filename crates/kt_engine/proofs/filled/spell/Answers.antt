use Rattle.std.proofs.Common.{[]}
use Rattle.kt_base.specs.declared.cell_ref.CellRef.TheVariants as ref
use Rattle.kt_engine.proofs.TableCells.{ref_fits, spelled_more}
use Rattle.kt_engine.proofs.filled.spell.Goals as goal

pub put_listed_cell-requires : goal.put_listed_cell-requires
put_listed_cell-requires c = ref_fits c.args.cells.now [] c.cells.cell-index (0, ref.Null) c.cells-test.true c.requires.each

pub cells-preserved : goal.cells-preserved
cells-preserved c =
    spelled_more c.args.cells.now c.cells.cell-index (0, ref.Null) c.extend.new.self.added c.cells.bytes.added c.put_listed_cell.new.out.added c.cells-test.true c.cells.invariant c.in_ok-put_listed_cell.ensures.ok
