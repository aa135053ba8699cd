use Rattle.kt_history.proofs.row_ref.RowRef.set_asked.Goals as goal

pub returns-clause-under : goal.returns-clause-under
returns-clause-under c = rw (← c.self.view_is) c.in_ok-all.ensures.under

pub returns-clause-all : goal.returns-clause-all
returns-clause-all c = rw (← c.self.view_is) c.in_ok-all.ensures.all
