use Rattle.std.proofs.Common.{◌∙◌, drop}
use Rattle.kt_pool.specs.Contents.{bytes_at}
use Rattle.std.proofs.lemmas.Result.{on_ok_weaker, on_err_weaker}
use Rattle.kt_history.proofs.AsBytes.{with_key}
use Rattle.kt_history.proofs.change_list.ChangeList.push_placed.Goals as goal

pub returns-clause-ok : goal.returns-clause-ok
returns-clause-ok c =
    let same = rw c.deref.ensures.value at c.in_ok-at.ensures.same in
    on_ok_weaker c.add_placed.result (with_key c.place_of.new.bytes.items c.self.inside.heads.items c.in_ok-at.at c.args.ts c.args.kind c.args.key.now (drop c.args.front (bytes_at c.args.pool.now c.args.place.cell)) c.args.self.now _ (same ∙ c.self.view_is) c.in_ok-at.ensures.known.1) c.add_placed.ensures.ok

pub returns-clause-err : goal.returns-clause-err
returns-clause-err c =
    let same = rw c.deref.ensures.value at c.in_ok-at.ensures.same in
    on_err_weaker c.add_placed.result (λ e. e ∙ same ∙ c.self.view_is) c.add_placed.ensures.err
