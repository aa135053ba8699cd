use Rattle.std.proofs.Common.{◌∙◌, ◌++◌, sym, ap}
use Rattle.std.proofs.lemmas.List.{append-nil}
use Rattle.std.proofs.lemmas.Result.{IfOk-weaker}
use Rattle.kt_history.specs.Stores.{Hist, row_of}
use Rattle.kt_rowfiles.specs.Reading.{steps_in}
use Rattle.kt_rowfiles.specs.Taking.{spanned}
use Rattle.kt_diskrowset.specs.Rows.{hist_found}
use Rattle.kt_diskrowset.specs.Data.{files_in, fresh_in}
use Rattle.kt_diskrowset.proofs.Histories.{hist_is}
use Rattle.kt_diskrowset.proofs.data.RowSetData.take_key.Goals as goal

pub returns-in-None-clause-row : goal.returns-in-None-clause-row
returns-in-None-clause-row c =
    let files = files_in c.args.self.now in
    let fresh = fresh_in c.args.self.now in
    sym (ap (row_of c.args.span.mark) (hist_is files fresh c.args.key.now ∙ ap (hist_found files fresh) c.in-None.ensures.row))

pub returns-in-None-clause-steps : goal.returns-in-None-clause-steps
returns-in-None-clause-steps c =
    let files = files_in c.args.self.now in
    let fresh = fresh_in c.args.self.now in
    let is = hist_is files fresh c.args.key.now ∙ ap (hist_found files fresh) c.in-None.ensures.row in
    sym (ap (λ (h : Hist). steps_in c.args.steps.now.items ++ spanned c.args.span h.steps) is ∙ append-nil (steps_in c.args.steps.now.items))

pub returns-in-Some-clause-row : goal.returns-in-Some-clause-row
returns-in-Some-clause-row c =
    let files = files_in c.args.self.now in
    let fresh = fresh_in c.args.self.now in
    let is = hist_is files fresh c.args.key.now ∙ ap (hist_found files fresh) c.in-Some.ensures.row.1 in
    IfOk-weaker c.take_row.result _ _ (λ row told. told c.args.key.now c.in-Some.ensures.row.1 ∙ sym (ap (row_of c.args.span.mark) is)) c.take_row.ensures.row

pub returns-in-Some-clause-steps : goal.returns-in-Some-clause-steps
returns-in-Some-clause-steps c =
    let files = files_in c.args.self.now in
    let fresh = fresh_in c.args.self.now in
    let is = hist_is files fresh c.args.key.now ∙ ap (hist_found files fresh) c.in-Some.ensures.row.1 in
    IfOk-weaker c.take_row.result _ _ (λ row told. told c.args.key.now c.in-Some.ensures.row.1 ∙ sym (ap (λ (h : Hist). steps_in c.args.steps.now.items ++ spanned c.args.span h.steps) is)) c.take_row.ensures.steps
