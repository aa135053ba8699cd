use Rattle.std.proofs.Common.{◌∙◌, Some, sym, ap}
use Rattle.std.proofs.lemmas.Result.{IfOk-weaker}
use Rattle.kt_baseset.specs.Tables.{cells_in}
use Rattle.kt_history.specs.Rows.{Row}
use Rattle.kt_history.specs.Stores.{Hist}
use Rattle.kt_histlaws.specs.Disks.{before_all}
use Rattle.kt_rowfiles.specs.Files.{records_in, falling}
use Rattle.kt_diskrowset.specs.Files.{lists_of}
use Rattle.kt_diskrowset.specs.Rowset.{files_of, fresh_of}
use Rattle.kt_diskrowset.proofs.Replaying.{never_there, first_is}
use Rattle.kt_diskrowset.proofs.rowset.DiskRowSet.first.Goals as goal

pub returns-in_default : goal.returns-in_default
returns-in_default c = λ pool. sym (ap (λ (h : Hist). h.first) (never_there (files_of c.args.self.now) (fresh_of c.args.self.now pool) c.args.key.now c.in_default.ensures.row))

pub returns : goal.returns
returns c =
    let s = c.args.self.now in
    let ordinal = c.in-Some.ordinal in
    IfOk-weaker c.first_row.result _ _
    (λ row e pool.
    e ∙ ap (λ (base : Row). before_all (falling (records_in ordinal (lists_of s.undo))) (Some base)) c.in_ok-base.ensures
    ∙ first_is (files_of s) (fresh_of s pool) c.args.key.now (ordinal, cells_in s.base.set.value.rows ordinal) c.in-Some.ensures.row.1)
    c.first_row.ensures
