use Rattle.kt_memrowset.proofs.row_store.MemRowSetChangeStore.grown_law.Goals as goal

pub returns : goal.returns
returns c = c.grown_law.ensures
