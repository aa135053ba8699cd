use Rattle.std.proofs.Common.{◌≡◌, ℕ, List, true, cond, get_or, ap, ◌∙◌, arith}
use Rattle.std.specs.Ordering.{eq_by_cmp}
use Rattle.kt_history.specs.Rows.{Row, key_cmp}
use Rattle.kt_opening.specs.Live.{has}
use Rattle.kt_opening.proofs.LiveLaws.{live_more}
use Rattle.kt_opening.proofs.live.Live.of.Goals as goal

pub loop-key-preserved : goal.loop-key-preserved
loop-key-preserved c =
    let rows = c.args.rows.now in
    let i = c.loop-key.key-index in
    let key : c.as_slice.result.now ≡ (get_or rows i c.loop-key-item.result).0 = c.as_slice.ensures ∙ ap (λ (e : List ℕ × Row). e.0) c.loop-key-item.is in
    live_more rows i c.loop-key-item.result c.loop-key.live c.add.new.self (omega arith) c.loop-key.invariant
    (λ q. c.in_ok-add.ensures q ∙ ap (λ k. cond (eq_by_cmp key_cmp q k) true (has c.loop-key.live q)) key)
