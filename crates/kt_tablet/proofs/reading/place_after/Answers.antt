use Rattle.std.proofs.Common.{sym, ap, ◌∙◌}
use Rattle.std.specs.Option.{option_copied}
use Rattle.kt_history.specs.Views.{key_above}
use Rattle.kt_tablet.specs.Snaps.{keys_in}
use Rattle.kt_tablet.proofs.Snaps.{above_none, above_some}
use Rattle.kt_tablet.proofs.reading.place_after.Goals as goal

pub returns-in-None : goal.returns-in-None
returns-in-None c = above_none c.args.changes.now ∙ ap (λ o. key_above (option_copied o) (keys_in c.args.changes.now)) (sym c.in-None.is)

pub returns-in-Some : goal.returns-in-Some
returns-in-Some c = above_some c.args.changes.now c.in-Some.after.now c.place_above.result c.place_above.ensures.parts ∙ ap (λ o. key_above (option_copied o) (keys_in c.args.changes.now)) (sym c.in-Some.is)
