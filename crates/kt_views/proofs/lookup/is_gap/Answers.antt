use Rattle.std.proofs.Common.{◌≡◌, true, sym, ◌∙◌, arith, subst, ap, ℕ}
use Rattle.std.specs.Prelude.{slice_get}
use Rattle.kt_views.specs.Keys.{IsGap, is_below}
use Rattle.kt_views.proofs.Places.{gap_first, gap_behind}
use Rattle.kt_views.proofs.lookup.is_gap.Goals as goal

pub returns-then-at-eq0 : goal.returns-then-at-eq0
returns-then-at-eq0 c = λ is.
    let at = c.if-at-eq0.true in
    let low : is_below c.args.key.now (slice_get c.args.rows.now 0) ≡ true = ap (λ (n : ℕ). is_below c.args.key.now (slice_get c.args.rows.now n)) (sym at) ∙ sym c.is_below.ensures ∙ c.if-not-is_below.false in
    subst (λ (n : ℕ). IsGap c.args.key.now c.args.rows.now n) (sym at) (gap_first c.args.key.now c.args.rows.now c.requires low)

pub returns : goal.returns
returns c = λ is.
    gap_behind c.args.key.now c.args.rows.now c.args.at c.requires (omega (arith, c.if-at-eq0.false)) (sym c.is_above.ensures ∙ is) (sym c.is_below.ensures ∙ c.if-not-is_below.false)
