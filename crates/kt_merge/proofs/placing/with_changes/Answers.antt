use Rattle.std.proofs.Common.{◌∙◌, ℕ, List, map, sym, ap}
use Rattle.std.proofs.lemmas.Result.{IfOk-weaker}
use Rattle.kt_history.specs.Stores.{hist_in}
use Rattle.kt_rowfiles.specs.Files.{rising}
use Rattle.kt_diskrowset.specs.declared.data.RowSetData.{RowSetData}
use Rattle.kt_merge.specs.Changes.{hist_in_changes}
use Rattle.kt_merge.specs.Late.{late_of, TellsChanges}
use Rattle.kt_merge.specs.Rewriting.{IsRewritten}
use Rattle.kt_merge.proofs.LateTold.{none_told, late_told}
use Rattle.kt_merge.proofs.placing.with_changes.Goals as goal

pub returns-clause-tells : goal.returns-clause-tells
returns-clause-tells c =
    let output = c.args.output in
    let late = λ (q : List ℕ). late_of c.args.bound (map (hist_in_changes q) c.args.lists.now) in
    let fresh : RowSetData = record output { fresh = c.in_ok-late.late.list } in
    IfOk-weaker c.with_redo.result (IsRewritten fresh) (TellsChanges c.args.bound c.args.lists.now output)
    (λ d is q.
    sym (none_told d q is.fresh) ∙ ap (hist_in q) is.store
    ∙ late_told fresh q (late q) (λ found there. c.in_ok-late.ensures.rows found.0 ∙ ap rising (c.in_ok-files.ensures q found there)))
    c.with_redo.ensures.same
