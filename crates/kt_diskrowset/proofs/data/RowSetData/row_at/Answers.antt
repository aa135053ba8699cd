use Rattle.std.proofs.Common.{◌∙◌, ℕ, sym, ap}
use Rattle.std.proofs.lemmas.Result.{IfOk-weaker}
use Rattle.kt_history.specs.Rows.{Row}
use Rattle.kt_history.specs.Stores.{row_of}
use Rattle.kt_baseset.specs.Tables.{cells_in}
use Rattle.kt_diskrowset.specs.Rows.{hist_found}
use Rattle.kt_diskrowset.specs.Data.{files_in, fresh_in}
use Rattle.kt_diskrowset.proofs.Histories.{hist_is}
use Rattle.kt_diskrowset.proofs.Rowsets.{row_is}
use Rattle.kt_diskrowset.proofs.data.RowSetData.row_at.Goals as goal

pub returns-in-None : goal.returns-in-None
returns-in-None c =
    let files = files_in c.args.self.now in
    let fresh = fresh_in c.args.self.now in
    sym (ap (row_of c.args.t) (hist_is files fresh c.args.key.now ∙ ap (hist_found files fresh) c.in-None.ensures.row))

pub returns-in-Some : goal.returns-in-Some
returns-in-Some c =
    let files = files_in c.args.self.now in
    let fresh = fresh_in c.args.self.now in
    let is = hist_is files fresh c.args.key.now ∙ ap (hist_found files fresh) c.in-Some.ensures.row.1 in
    let found : ℕ × Row = (c.in-Some.ordinal, cells_in c.args.self.now.base.set.value.rows c.in-Some.ordinal) in
    IfOk-weaker c.row.result _ _ (λ row told. told ∙ sym (row_is files fresh c.args.key.now found c.args.t c.requires.lead c.in-Some.ensures.row.1) ∙ ap (row_of c.args.t) (sym is)) c.row.ensures
