use Rattle.kt_memrowset.proofs.row_store.MemRowSetRowStore.placed_law.Goals as goal

pub returns : goal.returns
returns c = c.placed_law.ensures
