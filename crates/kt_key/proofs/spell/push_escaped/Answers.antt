use Rattle.std.proofs.Common.{◌++◌, ◌∷◌, [], sym, ap, ◌∙◌, append_assoc}
use Rattle.kt_key.proofs.Escapes.{run_put, still_front, found_none, on_ok}
use Rattle.kt_key.proofs.spell.push_escaped.Goals as goal

pub loop-zero-preserved : goal.loop-zero-preserved
loop-zero-preserved c =
    let step = run_put c.loop-zero.out c.loop-zero.rest.now _ c.in-Some.zero c.in-Some.ensures c.loop-zero.invariant.0 in
    let front = still_front c.args.out.now _ (0 ∷ 1 ∷ []) (still_front c.args.out.now c.loop-zero.out c.split_at.result.0.now c.loop-zero.invariant.1) in
    (rw (c.in_ok-push_run.ensures.ok, c.split_at-in-Some.ensures.back, c.split_at.ensures.front, c.split_at.ensures.back) step, rw c.in_ok-push_run.ensures.ok front)

pub returns-clause-ok : goal.returns-clause-ok
returns-clause-ok c =
    let plain = found_none c.loop-zero.rest.now (rw c.in_default.is at c.memchr.ensures) in
    on_ok c.push_end.result c.push_end.ensures.ok (λ put. put ∙ append_assoc c.loop-zero.out c.loop-zero.rest.now (0 ∷ 0 ∷ []) ∙ ap (λ ys. c.loop-zero.out ++ ys) (sym plain) ∙ c.loop-zero.invariant.0)
