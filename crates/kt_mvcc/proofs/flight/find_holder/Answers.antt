use Rattle.std.proofs.Common.{◌≡◌, ◌+◌, drop, Some, sym, ap, ◌∙◌, arith}
use Rattle.kt_mvcc.specs.Flying.{holder, holds_one}
use Rattle.kt_mvcc.proofs.Least.{merged, holder_more, holder_less}
use Rattle.kt_mvcc.proofs.flight.find_holder.Goals as goal
use Rattle.kt_mvcc.proofs.flight.find_holder.Goals.{then-share_key, else-share_key}

pub loop-flier-preserved : goal.loop-flier-preserved
loop-flier-preserved c =
    let flying = c.args.flying.now in
    let keys = c.args.keys.now in
    let i = c.loop-flier.flier-index in
    let f = c.flier-item.result in
    let shares : c.share_key.result ≡ holds_one keys f = c.share_key.ensures in
    elim c.if-share_key.branch [
      | then-share_key w ↦ ap (λ o. merged o (holder keys (drop (i + 1) flying))) (w.found-is ∙ ap Some w.lesser.ensures)
          ∙ holder_more keys c.loop-flier.found flying i f (holder keys flying) (omega arith) c.flier-item.is (sym shares ∙ w.if-share_key.true) c.loop-flier.invariant
      | else-share_key w ↦ ap (λ o. merged o (holder keys (drop (i + 1) flying))) w.found-is
          ∙ holder_less keys c.loop-flier.found flying i f (holder keys flying) (omega arith) c.flier-item.is (sym shares ∙ w.if-share_key.false) c.loop-flier.invariant
    ]
