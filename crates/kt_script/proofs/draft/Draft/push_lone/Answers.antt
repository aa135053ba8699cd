use Rattle.std.proofs.Common.{map, ap, ◌∙◌}
use Rattle.kt_script.specs.Drafts.{command_in}
use Rattle.kt_script.proofs.Drafts.{on_err, same_view, pushed_view, front_of, lone_is}
use Rattle.kt_script.proofs.draft.Draft.push_lone.Goals as goal

pub returns-in_err-push-2-clause-err : goal.returns-in_err-push-2-clause-err
returns-in_err-push-2-clause-err c =
    let old = c.self.inside.ops in
    let new = c.push.new.self in
    let front = front_of old new c.args.op.now c.in_ok-push.ensures.ok in
    on_err c.from_residual-in_err-push-2.result (ap (map (command_in new)) c.in_err-push-2.ensures.items ∙ same_view old new front c.self.inside.entries.items c.args.self.now c.self.invariant c.self.view_is)

pub returns-clause-ok : goal.returns-clause-ok
returns-clause-ok c =
    let old = c.self.inside.ops in
    let new = c.push.new.self in
    let front = front_of old new c.args.op.now c.in_ok-push.ensures.ok in
    ap (map (command_in new)) c.in_ok-push-2.ensures.items
    ∙ pushed_view old new front c.self.inside.entries.items _ _ c.args.self.now c.self.invariant c.self.view_is (lone_is old new c.args.op.now _ c.len-first.ensures c.in_ok-push.ensures.ok)
