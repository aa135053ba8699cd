use Rattle.std.proofs.Common.{◌∙◌}
use Rattle.std.proofs.lemmas.Result.{on_ok_weaker, on_err_weaker}
use Rattle.kt_history.proofs.AsBytes.{with_key}
use Rattle.kt_history.proofs.change_list.ChangeList.push.Goals as goal

pub returns-clause-ok : goal.returns-clause-ok
returns-clause-ok c =
    let same = rw c.deref.ensures.value at c.in_ok-at.ensures.same in
    on_ok_weaker c.add.result (with_key c.place_of.new.bytes.items c.self.inside.heads.items c.in_ok-at.at c.args.ts c.args.kind c.args.key.now c.args.cells.now c.args.self.now _ (same ∙ c.self.view_is) c.in_ok-at.ensures.known.1) c.add.ensures.ok

pub returns-clause-err : goal.returns-clause-err
returns-clause-err c =
    let same = rw c.deref.ensures.value at c.in_ok-at.ensures.same in
    on_err_weaker c.add.result (λ e. e ∙ same ∙ c.self.view_is) c.add.ensures.err
