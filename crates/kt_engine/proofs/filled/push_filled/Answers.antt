use Rattle.std.proofs.Common.{◌∙◌, ◌++◌, ℕ, List, ap}
use Rattle.std.proofs.lemmas.Result.{on_ok_weaker}
use Rattle.kt_cells.specs.Reading.{cells_behind}
use Rattle.kt_history.specs.AsBytes.{change_with}
use Rattle.kt_history.specs.declared.changes.KeyChange.{KeyChange}
use Rattle.kt_engine.proofs.TableCells.{made_so}
use Rattle.kt_engine.proofs.filled.push_filled.Goals as goal

pub returns-in-Some-clause-filled : goal.returns-in-Some-clause-filled
returns-in-Some-clause-filled c =
    let r = c.at-change.result in
    on_ok_weaker c.push.result
    (λ is. is ∙ ap (λ (l : List KeyChange). c.args.out.now ++ l)
    (made_so c.args.fill.now c.args.changes.now c.args.at r c.in-Some.key.now (change_with r.kind (cells_behind c.added.result.now)) c.requires.inside c.at-change.ensures c.in-Some.ensures
    (ap (λ (b : List ℕ). change_with r.kind (cells_behind b)) c.added.ensures ∙ c.in_ok-spell_change.ensures.filled)))
    c.push.ensures.ok
