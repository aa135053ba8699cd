use Rattle.kt_engine.proofs.telling.told.Goals as goal

pub returns-clause-table : goal.returns-clause-table
returns-clause-table c = c.telling_law.ensures c.args.columns.now c.in_ok-folded.folded c.requires.rise c.in_ok-check_rowset.ensures c.in_ok-folded.ensures.order
