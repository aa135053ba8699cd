use Rattle.std.proofs.Common.{arith, sym}
use Rattle.kt_files.proofs.Names.{rowsets_named}
use Rattle.kt_files.proofs.removing.names_of.Goals as goal

pub rowsets-preserved : goal.rowsets-preserved
rowsets-preserved c =
    rowsets_named c.rowsets.named.keys c.add_rowset.new.named.keys c.args.rowsets.now c.rowsets.rowset-index c.rowset-item.result (omega arith) (sym c.rowset-item.is) c.rowsets.invariant c.in_ok-add_rowset.ensures
