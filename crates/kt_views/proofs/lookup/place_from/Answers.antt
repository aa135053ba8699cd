use Rattle.std.proofs.Common.{sym, ◌∙◌}
use Rattle.kt_views.proofs.Places.{place_known, place_is_gap}
use Rattle.kt_views.proofs.lookup.place_from.Goals as goal

pub returns-then-is_at : goal.returns-then-is_at
returns-then-is_at c = sym (place_known c.args.key.now c.args.rows.now c.args.hint c.requires (sym c.is_at.ensures ∙ c.if-is_at.true))

pub returns-then-is_gap : goal.returns-then-is_gap
returns-then-is_gap c = sym (place_is_gap c.args.key.now c.args.rows.now c.args.hint (c.is_gap.ensures c.if-is_gap.true))
