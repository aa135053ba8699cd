use Rattle.std.proofs.Common.{map, ap, ◌∙◌}
use Rattle.kt_script.specs.Drafts.{command_in}
use Rattle.kt_script.proofs.Drafts.{on_err, same_view, pushed_view}
use Rattle.kt_script.proofs.draft.Draft.push.Goals as goal

pub returns-in_err-entry-clause-err : goal.returns-in_err-entry-clause-err
returns-in_err-entry-clause-err c =
    on_err c.from_residual.result (same_view c.self.inside.ops c.entry_of.new.ops c.entry_of.ensures.front c.self.inside.entries.items c.args.self.now c.self.invariant c.self.view_is)

pub returns-in_err-push-clause-err : goal.returns-in_err-push-clause-err
returns-in_err-push-clause-err c =
    on_err c.from_residual-in_err-push.result
    (ap (map (command_in c.entry_of.new.ops)) c.in_err-push.ensures.items ∙ same_view c.self.inside.ops c.entry_of.new.ops c.entry_of.ensures.front c.self.inside.entries.items c.args.self.now c.self.invariant c.self.view_is)

pub returns-clause-ok : goal.returns-clause-ok
returns-clause-ok c =
    ap (map (command_in c.entry_of.new.ops)) c.in_ok-push.ensures.items
    ∙ pushed_view c.self.inside.ops c.entry_of.new.ops c.entry_of.ensures.front c.self.inside.entries.items c.in_ok-entry.entry c.args.command c.args.self.now c.self.invariant c.self.view_is c.in_ok-entry.ensures.command
