use Rattle.kt_history.proofs.row_ref.RowRef.lay_over.Goals as goal

pub returns : goal.returns
returns c = rw (← c.self.view_is) (rw (c.deref.ensures.value, c.swap.ensures.y_after) at c.lay.ensures)
