use Rattle.std.proofs.Common.{◌∙◌, ap, arith}
use Rattle.kt_dict.specs.Spelling.{with_entry}
use Rattle.kt_dict.proofs.Words.{nows}
use Rattle.kt_dict.proofs.Short.{one_more}
use Rattle.kt_dict.proofs.writing.use_items.Goals as goal

pub loop-i-preserved : goal.loop-i-preserved
loop-i-preserved c =
    let keys = nows c.loop-i.table.keys in
    one_more c.args.cells.now keys (nows c.use_item.new.entries.keys) _ c.loop-i.i (omega arith) c.loop-i.invariant (c.in-Ok.ensures.entries ∙ ap (with_entry keys) c.get.ensures)
