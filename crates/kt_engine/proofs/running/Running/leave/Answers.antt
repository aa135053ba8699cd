use Rattle.std.proofs.Common.{◌≡◌, ◌==◌, ◌∙◌, ap, not, rules}
use Rattle.std.specs.List.{filter}
use Rattle.std.proofs.lemmas.Fn.{filter_same}
use Rattle.kt_engine.proofs.running.Running.leave.Goals as goal

pub returns : goal.returns
returns c =
    let kept : c.retain.new.self.items ≡ filter (λ k. not (k == c.args.number)) c.self.inside.numbers.items = filter_same _ _ _ (λ x b f' k. search rules) _ _ c.retain.ensures.filtered in
    kept ∙ ap (filter (λ k. not (k == c.args.number))) c.self.view_is
