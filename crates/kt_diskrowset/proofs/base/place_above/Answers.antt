use Rattle.std.proofs.Common.{◌∙◌, List, Option, sym, ap}
use Rattle.std.specs.List.{filter}
use Rattle.std.specs.Option.{option_copied}
use Rattle.kt_baseset.specs.Rows.{keys_in}
use Rattle.kt_history.specs.Views.{is_above, key_above}
use Rattle.kt_diskrowset.proofs.Histories.{are_rising}
use Rattle.kt_diskrowset.proofs.Pages.{behind_is, all_behind}
use Rattle.kt_diskrowset.proofs.Plain.{first_above_is, first_is}
use Rattle.kt_diskrowset.proofs.base.place_above.Goals as goal

pub returns-in-Some-clause-rise : goal.returns-in-Some-clause-rise
returns-in-Some-clause-rise c = are_rising (keys_in c.args.set.now.rows) c.rows-rows.ensures.base.keys.rise

pub returns-in-None-clause-rise : goal.returns-in-None-clause-rise
returns-in-None-clause-rise c = are_rising (keys_in c.args.set.now.rows) c.rows-rows.ensures.base.keys.rise

pub returns-in-Some-clause-behind : goal.returns-in-Some-clause-behind
returns-in-Some-clause-behind c =
    behind_is c.args.set.now.rows c.in-Some.key.now c.first_above.result c.first_above.ensures.within c.first_above.ensures.before c.first_above.ensures.above
    ∙ ap (λ a. filter (is_above (option_copied a)) (keys_in c.args.set.now.rows)) (sym c.in-Some.is)

pub returns-in-None-clause-behind : goal.returns-in-None-clause-behind
returns-in-None-clause-behind c = all_behind (keys_in c.args.set.now.rows) ∙ ap (λ a. filter (is_above (option_copied a)) (keys_in c.args.set.now.rows)) (sym c.in-None.is)

pub returns-in-Some-clause-first : goal.returns-in-Some-clause-first
returns-in-Some-clause-first c =
    first_above_is c.args.set.now.rows c.in-Some.key.now c.first_above.result c.first_above.ensures.within c.first_above.ensures.before c.first_above.ensures.above
    ∙ ap (λ a. key_above (option_copied a) (keys_in c.args.set.now.rows)) (sym c.in-Some.is)

pub returns-in-None-clause-first : goal.returns-in-None-clause-first
returns-in-None-clause-first c = first_is c.args.set.now.rows ∙ ap (λ a. key_above (option_copied a) (keys_in c.args.set.now.rows)) (sym c.in-None.is)
