use Rattle.std.proofs.Common.{◌≡◌, ◌≤◌, ◌+◌, arith, length}
use Rattle.std.specs.List.{concat}
use Rattle.kt_column.specs.Blocks.{cell_len}
use Rattle.kt_column.proofs.Weaving.{few_bytes_at, text_step, text_len}
use Rattle.kt_column.proofs.block.texts_of.Goals as goal

pub push_text-requires : goal.push_text-requires
push_text-requires c =
    let few : cell_len c.cell-item.result ≤ 65536 = few_bytes_at c.args.form c.args.cells.now c.loop-cell.cell-index c.cell-item.result c.requires c.loop-cell-test.true c.cell-item.is in
    omega (arith, few, c.requires.few)

pub loop-cell-preserved : goal.loop-cell-preserved
loop-cell-preserved c =
    let few : cell_len c.cell-item.result ≤ 65536 = few_bytes_at c.args.form c.args.cells.now c.loop-cell.cell-index c.cell-item.result c.requires c.loop-cell-test.true c.cell-item.is in
    let len : length (concat c.push_text.new.texts) ≡ length (concat c.loop-cell.texts) + cell_len c.cell-item.result = text_len c.cell-item.result c.loop-cell.texts _ c.in-Ok.ensures in
    record {
      so_far = text_step c.args.cells.now c.loop-cell.cell-index c.cell-item.result c.loop-cell.texts _ _ c.loop-cell-test.true c.cell-item.is c.in-Ok.ensures c.loop-cell.invariant.so_far;
      small = omega (arith, few, len);
    }
