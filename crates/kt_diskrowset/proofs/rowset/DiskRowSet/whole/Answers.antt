use Rattle.std.proofs.Common.{sym, subst}
use Rattle.kt_diskrowset.specs.declared.data.RowSetData.{RowSetData}
use Rattle.kt_diskrowset.specs.Rows.{UndosLeadBack}
use Rattle.kt_diskrowset.proofs.Reading.{same_files}
use Rattle.kt_diskrowset.proofs.Wholes.{told_whole}
use Rattle.kt_diskrowset.proofs.rowset.DiskRowSet.whole.Goals as goal

pub returns-clause-store : goal.returns-clause-store
returns-clause-store c =
    let s = c.args.self.now in
    let d : RowSetData = record { number = s.number; base = c.in_ok-base.base; undo = c.in_ok-undo.undo; redo = c.in_ok-redo.redo; fresh = c.in_ok-fresh.fresh } in
    told_whole s c.args.pool.now d
    (same_files s.number s.base c.in_ok-base.base s.undo s.redo c.in_ok-undo.undo c.in_ok-redo.redo c.in_ok-base.ensures.2 c.in_ok-undo.ensures c.in_ok-redo.ensures) c.in_ok-fresh.ensures.rows

pub returns-clause-lead : goal.returns-clause-lead
returns-clause-lead c =
    let s = c.args.self.now in
    subst UndosLeadBack (sym (same_files s.number s.base c.in_ok-base.base s.undo s.redo c.in_ok-undo.undo c.in_ok-redo.redo c.in_ok-base.ensures.2 c.in_ok-undo.ensures c.in_ok-redo.ensures)) c.requires.lead
