use Rattle.kt_history.proofs.row_ref.RowRef.set_asked_last.Goals as goal

pub returns : goal.returns
returns c = rw (← c.self.view_is) c.in_ok-put_asked_last.ensures
