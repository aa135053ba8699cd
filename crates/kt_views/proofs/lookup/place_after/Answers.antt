use Rattle.std.proofs.Common.{sym, ap, ◌∙◌}
use Rattle.std.specs.Option.{option_copied}
use Rattle.kt_history.specs.Views.{key_above}
use Rattle.kt_views.specs.Keys.{keys_under}
use Rattle.kt_views.proofs.Places.{key_first, key_above_at}
use Rattle.kt_views.proofs.lookup.place_after.Goals as goal

pub returns-in-None : goal.returns-in-None
returns-in-None c = key_first c.args.rows.now ∙ ap (λ o. key_above (option_copied o) (keys_under c.args.rows.now)) (sym c.in-None.is)

pub returns-in-Some : goal.returns-in-Some
returns-in-Some c =
    key_above_at c.in-Some.after.now c.args.rows.now c.count_from.result c.count_from.ensures.bound c.count_from.ensures.parts.0 c.count_from.ensures.parts.1
    ∙ ap (λ o. key_above (option_copied o) (keys_under c.args.rows.now)) (sym c.in-Some.is)
