use Rattle.std.proofs.Common.{◌≡◌, ◌++◌, ◌∷◌, [], ap, sym, ◌∙◌}
use Rattle.kt_script.specs.Scripts.{push_last}
use Rattle.kt_key.proofs.Escapes.{on_ok}
use Rattle.kt_script.proofs.Bodies.{push_is}
use Rattle.kt_script.proofs.sessions.Sessions.push.Goals as goal

pub returns : goal.returns
returns c =
    let ended = c.self.inside.ended.items in
    let last = c.in-Some.last in
    let whole : ended ++ last ∷ [] ≡ c.args.self.now = rw c.in-Some.is at c.self.view_is in
    on_ok c.push.result c.push.ensures.ok (λ more. ap (λ items. ended ++ items ∷ []) more ∙ (sym (push_is c.args.command ended last) ∙ ap (push_last c.args.command) whole))
