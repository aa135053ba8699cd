use Rattle.std.proofs.Common.{◌≡◌, ◌+◌, ◌++◌, ◌∷◌, [], ap, sym, ◌∙◌, arith}
use Rattle.kt_engine.proofs.Sessions.{number_more}
use Rattle.kt_engine.proofs.running.number_all.Goals as goal

pub loop-at-preserved : goal.loop-at-preserved
loop-at-preserved c = record {
  items =
      let e : c.loop-at.at + 1 ≡ 1 + c.loop-at.at = omega arith in
      c.push_reserved.ensures.items ∙ (λ k. c.loop-at.invariant.items k ++ e k ∷ []) ∙ sym (number_more 1 c.loop-at.at);
  len = c.push_reserved.ensures.len ∙ ap (λ n. n + 1) c.loop-at.invariant.len;
  room = c.push_reserved.ensures.capacity ∙ c.loop-at.invariant.room;
}
