use Rattle.std.proofs.Common.{◌≡◌, ◌++◌, ◌∷◌, [], ap, sym, ◌∙◌}
use Rattle.kt_history.specs.declared.command.Command.{Command}
use Rattle.kt_history.specs.declared.command.Command.TheVariants as command
use Rattle.kt_script.specs.Scripts.{push_last}
use Rattle.kt_key.proofs.Escapes.{on_ok}
use Rattle.kt_script.proofs.Bodies.{push_is}
use Rattle.kt_script.proofs.sessions.Sessions.push_lone.Goals as goal

pub returns : goal.returns
returns c =
    let ended = c.self.inside.ended.items in
    let last = c.in-Some.last in
    let write : Command = command.Write (record { ops = c.args.op.now ∷ [] }) in
    let whole : ended ++ last ∷ [] ≡ c.args.self.now = rw c.in-Some.is at c.self.view_is in
    on_ok c.push_lone.result c.push_lone.ensures.ok (λ more. ap (λ items. ended ++ items ∷ []) more ∙ (sym (push_is write ended last) ∙ ap (push_last write) whole))
