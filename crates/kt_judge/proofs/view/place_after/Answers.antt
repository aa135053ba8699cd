use Rattle.std.proofs.Common.{sym, ap, ◌∙◌}
use Rattle.std.specs.Option.{option_copied}
use Rattle.kt_history.specs.Views.{key_above}
use Rattle.kt_judge.specs.Tables.{keys_in}
use Rattle.kt_judge.proofs.Viewed.{key_first, key_above_at}
use Rattle.kt_judge.proofs.view.place_after.Goals as goal

pub returns-in-None : goal.returns-in-None
returns-in-None c = key_first c.args.entries.now ∙ ap (λ o. key_above (option_copied o) (keys_in c.args.entries.now)) (sym c.in-None.is)

pub returns-in-Some : goal.returns-in-Some
returns-in-Some c =
    key_above_at c.in-Some.after.now c.args.entries.now c.count_from.result c.count_from.ensures.bound c.count_from.ensures.parts.0 c.count_from.ensures.parts.1
    ∙ ap (λ o. key_above (option_copied o) (keys_in c.args.entries.now)) (sym c.in-Some.is)
