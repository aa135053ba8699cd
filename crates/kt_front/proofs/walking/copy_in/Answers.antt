use Rattle.std.proofs.Common.{◌≡◌, ◌∙◌, ◌+◌, ◌++◌, List, ℕ, [], take, ap, sym, arith}
use Rattle.kt_front.specs.Walking.{Fields, before_at}
use Rattle.kt_front.proofs.Walk.{block_start, block_step, no_cell, fields_are, before_next}
use Rattle.kt_front.proofs.Blocks.{item_step}
use Rattle.kt_front.proofs.walking.copy_in.Goals as goal

pub loop-init : goal.loop-init
loop-init c = λ items block lt. (block_start c.args.bytes.now items block, c.clear.ensures)

pub returns-in_default : goal.returns-in_default
returns-in_default c = λ items block lt.
    absurd (no_cell c.loop.rest.now _ c.in_default.ensures.read (block_step items c.loop.counter c.loop.rest.now block.fits (omega (arith, c.loop-test.true)) (c.loop.invariant items block lt).0))

pub loop-preserved : goal.loop-preserved
loop-preserved c = λ items block lt.
    let so_far = c.loop.invariant items block lt in
    let j : ℕ = c.loop.counter in
    let read = fields_are c.loop.rest.now _ _ c.in-Some.ensures.read (block_step items j c.loop.rest.now block.fits (omega (arith, c.loop-test.true)) so_far.0) in
    let new : c.extend.new.self ≡ take c.in-Some.cell.shared c.loop.out ++ c.in-Some.cell.rest.now = c.in_ok-extend.ensures.ok ∙ ap (λ (t : List ℕ). t ++ c.in-Some.cell.rest.now) c.truncate.ensures in
    (ap (λ (x : Fields). x.after) read, new ∙ (item_step items j c.in-Some.cell.shared c.in-Some.cell.rest.now c.loop.out (ap (λ (x : Fields). x.shared) read) (ap (λ (x : Fields). x.rest) read) so_far.1 ∙ sym (before_next j items)))

pub returns : goal.returns
returns c = λ items block lt.
    let at : c.loop.counter ≡ c.args.k + 1 = omega arith in
    (c.loop.invariant items block lt).1 ∙ (ap (λ (j : ℕ). before_at j [] items) at ∙ before_next c.args.k items)
