use Rattle.std.proofs.Common.{sym, ap, ◌∙◌}
use Rattle.std.specs.Option.{option_copied}
use Rattle.kt_history.specs.Views.{key_above}
use Rattle.kt_merge.specs.Changes.{keys_in}
use Rattle.kt_merge.proofs.KeyChanges.{above_none, above_some, parts_not_above}
use Rattle.kt_merge.proofs.changes.key_after.Goals as goal

pub count_not_above-requires : goal.count_not_above-requires
count_not_above-requires c = parts_not_above c.args.changes.now c.in-Some.after.now c.requires

pub returns-in-None : goal.returns-in-None
returns-in-None c = c.key.ensures ∙ above_none c.args.changes.now ∙ ap (λ o. key_above (option_copied o) (keys_in c.args.changes.now)) (sym c.in-None.is)

pub returns-in-Some : goal.returns-in-Some
returns-in-Some c = c.key-in-Some.ensures ∙ above_some c.args.changes.now c.in-Some.after.now c.count_not_above.result c.count_not_above.ensures.parts ∙ ap (λ o. key_above (option_copied o) (keys_in c.args.changes.now)) (sym c.in-Some.is)
