use Rattle.std.proofs.Common.{◌++◌, ◌∷◌, [], ap, ◌∙◌}
use Rattle.kt_scan.proofs.KeyTexts.{split_start, split_end, split_zero, split_short, split_none}
use Rattle.kt_scan.proofs.key_cells.text_at.Goals as goal

pub loop-zero-init : goal.loop-zero-init
loop-zero-init c = split_start c.args.bytes.now c.new-text.result c.new-text.ensures

pub returns-in-End : goal.returns-in-End
returns-in-End c =
    split_end c.args.bytes.now c.loop-zero.text c.loop-zero.rest.now c.loop-zero.invariant c.split_at.result.1.now c.in-Some.zero c.in-Some.ensures c.split_at.ensures.back c.extend.new.self
    (c.in_ok-extend.ensures.ok ∙ ap (λ xs. c.loop-zero.text ++ xs) c.split_at.ensures.front) c.in-End.ensures.0 c.in-End.ensures.1

pub loop-zero-preserved : goal.loop-zero-preserved
loop-zero-preserved c =
    split_zero c.args.bytes.now c.loop-zero.text c.loop-zero.rest.now c.loop-zero.invariant c.split_at.result.1.now c.in-Some.zero c.in-Some.ensures c.split_at.ensures.back c.push.new.self c.split_at-in-Zero.result.1.now
    (c.in_ok-push-in-Zero.ensures.ok ∙ ap (λ ys. ys ++ 0 ∷ []) (c.in_ok-extend.ensures.ok ∙ ap (λ xs. c.loop-zero.text ++ xs) c.split_at.ensures.front)) c.split_at-in-Zero.ensures.back c.in-Zero.ensures.0 c.in-Zero.ensures.1

pub returns-in-Short : goal.returns-in-Short
returns-in-Short c =
    split_short c.args.bytes.now c.loop-zero.text c.loop-zero.rest.now c.loop-zero.invariant c.split_at.result.1.now c.in-Some.zero c.in-Some.ensures c.split_at.ensures.back c.extend.new.self
    (c.in_ok-extend.ensures.ok ∙ ap (λ xs. c.loop-zero.text ++ xs) c.split_at.ensures.front) c.in-Short.ensures

pub returns : goal.returns
returns c =
    split_none c.args.bytes.now c.loop-zero.text c.loop-zero.rest.now c.loop-zero.invariant c.extend-2.new.self (rw c.in_default.is at c.memchr.ensures)
    (c.in_ok-extend-2.ensures.ok ∙ ap (λ xs. c.loop-zero.text ++ xs) c.but_last.ensures)
