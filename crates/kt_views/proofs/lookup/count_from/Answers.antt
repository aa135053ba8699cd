use Rattle.std.proofs.Common.{sym, ◌∙◌}
use Rattle.kt_views.proofs.Places.{parts_behind, parts_gap}
use Rattle.kt_views.proofs.lookup.count_from.Goals as goal

pub returns-then-is_at : goal.returns-then-is_at
returns-then-is_at c =
    let behind = parts_behind c.args.key.now c.args.rows.now c.args.hint c.requires (sym c.is_at.ensures ∙ c.if-is_at.true) in
    record { bound = behind.0; parts = behind.1 }

pub returns-then-is_gap : goal.returns-then-is_gap
returns-then-is_gap c =
    let gap = c.is_gap.ensures c.if-is_gap.true in
    record { bound = gap.within; parts = parts_gap c.args.key.now c.args.rows.now c.args.hint gap }
