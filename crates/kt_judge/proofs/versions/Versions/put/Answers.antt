use Rattle.std.proofs.Common.{sym, ap, ◌∙◌, subst}
use Rattle.kt_history.specs.Rows.{apply}
use Rattle.kt_judge.specs.Tables.{Versions}
use Rattle.kt_judge.proofs.Dated.{IsChanged, changed_update, changed_whole}
use Rattle.kt_judge.proofs.versions.Versions.put.Goals as goal

pub returns-then-bytes-self-clause-rows : goal.returns-then-bytes-self-clause-rows
returns-then-bytes-self-clause-rows c = changed_update c.args.ts c.args.change.now _ _ c.args.self.now c.self.inside.list.items c.push.new.self.items c.in-Upd.is c.in_ok-copy.ensures c.self.view_is c.in_ok-push.ensures.items

pub returns-clause-rows : goal.returns-clause-rows
returns-clause-rows c =
    subst (λ (vs : Versions). IsChanged c.args.ts c.args.change.now c.args.self.now vs) (sym c.in_ok-put_whole.ensures)
    (changed_whole c.args.ts c.args.change.now c.args.self.now c.apply.new.row c.requires.later (c.in_ok-apply.ensures.ok ∙ ap (apply c.args.change.now) c.in_ok-row.ensures))
