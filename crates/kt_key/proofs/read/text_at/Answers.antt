use Rattle.std.proofs.Common.{◌++◌, ◌∷◌, [], ap, ◌∙◌}
use Rattle.kt_key.proofs.Texts.{split_start, split_end, split_zero, split_bad, split_none}
use Rattle.kt_key.proofs.read.text_at.Goals as goal

pub loop-zero-init : goal.loop-zero-init
loop-zero-init c = split_start c.args.bytes.now c.new-text.result c.new-text.ensures

pub returns-in-End : goal.returns-in-End
returns-in-End c =
    split_end c.args.bytes.now c.loop-zero.text c.loop-zero.rest.now c.split_at.result.1.now c.extend.new.self c.in-Some.zero c.loop-zero.invariant c.in-Some.ensures c.split_at.ensures.back
    (c.in_ok-extend.ensures.ok ∙ ap (λ xs. c.loop-zero.text ++ xs) c.split_at.ensures.front) c.in-End.ensures.0 c.in-End.ensures.1

pub loop-zero-preserved : goal.loop-zero-preserved
loop-zero-preserved c =
    split_zero c.args.bytes.now c.loop-zero.text c.loop-zero.rest.now c.split_at.result.1.now c.split_at-in-Zero.result.1.now c.push.new.self c.in-Some.zero c.loop-zero.invariant c.in-Some.ensures c.split_at.ensures.back
    (c.in_ok-push-in-Zero.ensures.ok ∙ ap (λ ys. ys ++ 0 ∷ []) (c.in_ok-extend.ensures.ok ∙ ap (λ xs. c.loop-zero.text ++ xs) c.split_at.ensures.front)) c.split_at-in-Zero.ensures.back c.in-Zero.ensures.0 c.in-Zero.ensures.1

pub returns-in-Bad : goal.returns-in-Bad
returns-in-Bad c = split_bad c.args.bytes.now c.loop-zero.text c.loop-zero.rest.now c.split_at.result.1.now c.in-Some.zero c.loop-zero.invariant c.in-Some.ensures c.split_at.ensures.back c.in-Bad.ensures

pub returns : goal.returns
returns c = split_none c.args.bytes.now c.loop-zero.text c.loop-zero.rest.now c.loop-zero.invariant (rw c.in_default.is at c.memchr.ensures)
