use Rattle.std.proofs.Common.{[], ◌∷◌, ◌++◌, cond, sym, ap, ◌∙◌}
use Rattle.std.specs.Prelude.{not}
use Rattle.std.proofs.lemmas.List.{append-nil}
use Rattle.kt_scan.proofs.asked.push_other.Goals as goal

pub returns-then-has_id : goal.returns-then-has_id
returns-then-has_id c = sym (append-nil c.args.ids.now.items) ∙ ap (λ b. c.args.ids.now.items ++ cond (not b) (c.args.id ∷ []) []) (sym (sym c.has_id.ensures ∙ c.if-has_id.true))

pub returns : goal.returns
returns c = c.in_ok-push.ensures.items ∙ ap (λ b. c.args.ids.now.items ++ cond (not b) (c.args.id ∷ []) []) (sym (sym c.has_id.ensures ∙ c.if-has_id.false))
