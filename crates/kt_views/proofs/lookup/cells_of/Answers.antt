use Rattle.std.proofs.Common.{sym, ap, ◌∙◌}
use Rattle.std.specs.Option.{option_copied}
use Rattle.kt_views.proofs.Places.{tells_at, never_none, missing_at}
use Rattle.kt_views.proofs.lookup.cells_of.Goals as goal

pub returns-in-Some : goal.returns-in-Some
returns-in-Some c = tells_at c.args.key.now c.args.rows.now c.place_from.result c.in-Ok.at _ c.requires c.place_from.ensures c.in-Ok.is (sym c.entry_at.ensures ∙ ap option_copied c.in-Some.is)

pub returns-in-None : goal.returns-in-None
returns-in-None c = absurd (never_none c.args.key.now c.args.rows.now c.place_from.result c.in-Ok.at c.requires c.place_from.ensures c.in-Ok.is (sym c.entry_at.ensures ∙ ap option_copied c.in-None.is))

pub returns-in-Err : goal.returns-in-Err
returns-in-Err c = sym (missing_at c.args.key.now c.args.rows.now c.place_from.result c.in-Err.field-0 c.requires c.place_from.ensures c.in-Err.is)
