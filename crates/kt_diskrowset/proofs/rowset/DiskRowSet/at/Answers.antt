use Rattle.std.proofs.Common.{◌∙◌, sym, ap}
use Rattle.std.proofs.lemmas.Result.{IfOk-weaker}
use Rattle.kt_history.specs.Stores.{row_of}
use Rattle.kt_diskrowset.specs.Rows.{hist_found}
use Rattle.kt_diskrowset.specs.Rowset.{files_of, fresh_of}
use Rattle.kt_diskrowset.proofs.Histories.{hist_is}
use Rattle.kt_diskrowset.proofs.rowset.DiskRowSet.at.Goals as goal

pub returns-in-None : goal.returns-in-None
returns-in-None c =
    let files = files_of c.args.self.now in
    let fresh = fresh_of c.args.self.now c.args.pool.now in
    sym (ap (row_of c.args.t) (hist_is files fresh c.args.key.now ∙ ap (hist_found files fresh) c.in-None.ensures.row))

pub returns-in-Some : goal.returns-in-Some
returns-in-Some c =
    let files = files_of c.args.self.now in
    let fresh = fresh_of c.args.self.now c.args.pool.now in
    let is = hist_is files fresh c.args.key.now ∙ ap (hist_found files fresh) c.in-Some.ensures.row.1 in
    IfOk-weaker c.row_at.result _ _ (λ row told. told c.args.key.now c.in-Some.ensures.row.1 ∙ ap (row_of c.args.t) (sym is)) c.row_at.ensures
