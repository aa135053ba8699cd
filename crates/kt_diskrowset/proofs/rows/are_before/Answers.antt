use Rattle.std.proofs.Common.{subst}
use Rattle.std.proofs.lemmas.List.{take_all}
use Rattle.kt_deltafile.specs.File.{FileView}
use Rattle.kt_deltafile.specs.Order.{AreUpTo}
use Rattle.kt_diskrowset.proofs.NoneAbove.{AllUpTo, one_more, none_taken}
use Rattle.kt_diskrowset.proofs.rows.are_before.Goals as goal

pub files-preserved : goal.files-preserved
files-preserved c =
    one_more c.args.t c.newest.result c.files.file-index c.args.files.now c.file-item.result c.files-test.true c.file-item.is c.if-newest-t.false (subst (λ (f : FileView). AreUpTo c.newest.result f.list) c.deref.ensures c.newest.ensures) c.files.invariant

pub returns : goal.returns
returns c is n row =
    none_taken c.args.t n c.args.files.now row (subst (AllUpTo c.args.t) (take_all c.files.file-index c.args.files.now c.files-test.false) c.files.invariant)
