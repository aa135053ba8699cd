use Rattle.kt_memrowset.proofs.row_store.MemRowSetRowStore.frame_law.Goals as goal

pub returns : goal.returns
returns c = λ s old new here same. let so = c.frame_law.ensures s old new here same in (so.stands, so.same, so.had, so.owns)
