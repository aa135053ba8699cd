use Rattle.std.proofs.Common.{sym, ap, ◌∙◌}
use Rattle.std.specs.Option.{option_copied}
use Rattle.kt_history.specs.Views.{key_above}
use Rattle.kt_judge.specs.Tables.{keys_in}
use Rattle.kt_judge.proofs.Viewed.{key_first, key_above_at}
use Rattle.kt_judge.proofs.view.least_above.Goals as goal

pub returns-in_ok-key_at-in-None : goal.returns-in_ok-key_at-in-None
returns-in_ok-key_at-in-None c = c.in_ok-key_at-in-None.ensures ∙ key_first c.args.entries.now ∙ ap (λ o. key_above (option_copied o) (keys_in c.args.entries.now)) (sym c.in-None.is)

pub returns-in_ok-key_at-in-Some : goal.returns-in_ok-key_at-in-Some
returns-in_ok-key_at-in-Some c = c.in_ok-key_at-in-Some.ensures
    ∙ key_above_at c.in-Some.after.now c.args.entries.now c.count_not_above.result c.count_not_above.ensures.bound c.count_not_above.ensures.parts.0 c.count_not_above.ensures.parts.1
    ∙ ap (λ o. key_above (option_copied o) (keys_in c.args.entries.now)) (sym c.in-Some.is)
