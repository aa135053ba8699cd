use Rattle.kt_memrowset.proofs.RowStores.{takes_share, more_had}
use Rattle.kt_memrowset.proofs.row_store.MemRowSetRowStore.apply_reserved.Goals as goal

pub returns-clause-takes : goal.returns-clause-takes
returns-clause-takes c = takes_share c.args.op.now _ _ _ c.apply_reserved.ensures.joins.takes c.requires.reserved

pub returns-clause-more : goal.returns-clause-more
returns-clause-more c = more_had _ _ _ _ c.args.op.now c.args.ts c.args.change c.apply_reserved.ensures.joins
