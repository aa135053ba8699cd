use Rattle.std.proofs.Common.{Err, sym, ap, ◌∙◌, arith}
use Rattle.std.specs.Ordering.{is_eq}
use Rattle.kt_history.specs.Rows.{key_cmp}
use Rattle.kt_views.proofs.Places.{place_end, place_here, place_gap}
use Rattle.kt_views.proofs.lookup.place.Goals as goal

pub returns-then-at-rows : goal.returns-then-at-rows
returns-then-at-rows c = ap Err c.if-at-rows.true ∙ sym (place_end c.args.key.now c.args.rows.now (λ k d below. c.count_below-at.ensures.parts.0 k d (omega arith) (omega arith)))

pub returns-then-is_eq : goal.returns-then-is_eq
returns-then-is_eq c =
    let at = c.count_below-at.ensures in
    sym (place_here c.args.key.now c.args.rows.now c.count_below-at.result c.index-rows-at.result (omega arith) (λ k d below. at.parts.0 k d (omega arith) below)
    (ap is_eq (sym (c.cmp.ensures ∙ ap (key_cmp c.args.key.now) c.as_slice.ensures)) ∙ sym c.is_eq.ensures ∙ c.if-is_eq.true))

pub returns-else-is_eq : goal.returns-else-is_eq
returns-else-is_eq c =
    let at = c.count_below-at.ensures in
    sym (place_gap c.args.key.now c.args.rows.now c.count_below-at.result c.index-rows-at.result (omega arith) (λ k d below. at.parts.0 k d (omega arith) below)
    (at.parts.1 c.count_below-at.result c.index-rows-at.result (omega arith) (omega arith))
    (ap is_eq (sym (c.cmp.ensures ∙ ap (key_cmp c.args.key.now) c.as_slice.ensures)) ∙ sym c.is_eq.ensures ∙ c.if-is_eq.false))
