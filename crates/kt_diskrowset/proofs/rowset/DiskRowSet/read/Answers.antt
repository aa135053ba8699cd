use Rattle.std.proofs.Common.{sym, subst}
use Rattle.kt_diskrowset.specs.declared.data.RowSetData.{RowSetData}
use Rattle.kt_diskrowset.specs.Rows.{UndosLeadBack}
use Rattle.kt_diskrowset.specs.Rowset.{store_of}
use Rattle.kt_views.specs.Told.{TellsUpTo}
use Rattle.kt_diskrowset.specs.Page.{row_told}
use Rattle.kt_diskrowset.proofs.Reading.{same_files, tells_upto}
use Rattle.kt_diskrowset.proofs.rowset.DiskRowSet.read.Goals as goal

pub of-requires-clause-lead : goal.of-requires-clause-lead
of-requires-clause-lead c =
    let s = c.args.self.now in
    subst UndosLeadBack (sym (same_files s.number s.base c.in_ok-base.base s.undo s.redo c.in_ok-undo.undo c.in_ok-redo.redo c.in_ok-base.ensures.2 c.in_ok-undo.ensures c.in_ok-redo.ensures)) c.requires.lead

pub returns : goal.returns
returns c =
    let s = c.args.self.now in
    let d : RowSetData = record { number = s.number; base = c.in_ok-base.base; undo = c.in_ok-undo.undo; redo = c.in_ok-redo.redo; fresh = c.in_ok-fresh.fresh } in
    subst (TellsUpTo row_told c.args.upto (store_of s c.args.pool.now)) (sym c.of.ensures)
    (tells_upto s c.args.pool.now c.args.upto d
    (same_files s.number s.base c.in_ok-base.base s.undo s.redo c.in_ok-undo.undo c.in_ok-redo.redo c.in_ok-base.ensures.2 c.in_ok-undo.ensures c.in_ok-redo.ensures) c.in_ok-fresh.ensures.rows)
