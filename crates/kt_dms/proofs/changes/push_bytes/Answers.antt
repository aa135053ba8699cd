use Rattle.std.proofs.Common.{◌∙◌, ◌++◌, ◌∷◌, [], ℕ, List, drop, ap}
use Rattle.std.proofs.lemmas.Result.{on_ok_weaker}
use Rattle.std.specs.Prelude.{slice_index}
use Rattle.kt_cells.specs.Reading.{cells_behind}
use Rattle.kt_history.specs.declared.change.Change.{Change}
use Rattle.kt_history.specs.declared.changes.KeyChange.{KeyChange}
use Rattle.kt_history.specs.declared.target.Kindly.{Kindly}
use Rattle.kt_history.specs.AsBytes.{change_with}
use Rattle.kt_history.specs.Stores.{key_change}
use Rattle.kt_dms.proofs.Missed.{with_is}
use Rattle.kt_dms.proofs.changes.push_bytes.Goals as goal

pub returns : goal.returns
returns c =
    let cells = cells_behind (drop 1 c.args.bytes.now) in
    on_ok_weaker c.push.result
    (λ e.
    e
    ∙ ap (λ (bytes : List ℕ). c.args.list.now ++ key_change c.args.key.now (c.args.ts, change_with c.kind_in.result (cells_behind bytes)) ∷ []) c.spelled_in.ensures
    ∙ ap (λ (kind : Kindly). c.args.list.now ++ key_change c.args.key.now (c.args.ts, change_with kind cells) ∷ []) c.kind_in.ensures
    ∙ ap (λ (change : Change). c.args.list.now ++ key_change c.args.key.now (c.args.ts, change) ∷ []) (with_is _ cells))
    c.push.ensures.ok
