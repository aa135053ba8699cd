use Rattle.std.proofs.Common.{◌≡◌, ◌∙◌, ◌<◌, ◌+◌, ap, subst, sym, arith, List, ℕ, [], length, get_or}
use Rattle.kt_front.specs.Walking.{before_at, Fields, Meets, order}
use Rattle.kt_front.proofs.Walk.{block_start, block_step, no_cell, fields_are, meets_next, before_next}
use Rattle.kt_front.proofs.walking.order_in.Goals as goal

pub loop-init : goal.loop-init
loop-init c = record { within = c.meet-meeting.ensures.within; so_far = λ items block lt. (block_start c.args.bytes.now items block, record { alike = c.meet-meeting.ensures.alike; way_is = c.meet-meeting.ensures.way }) }

pub returns-in_default : goal.returns-in_default
returns-in_default c = λ items block lt. absurd (no_cell c.loop.rest.now _ c.in_default.ensures.read (block_step items c.loop.counter c.loop.rest.now block.fits (omega (arith, c.loop-test.true)) (c.loop.invariant.so_far items block lt).0))

pub loop-preserved : goal.loop-preserved
loop-preserved c = record {
  within = c.next-meeting.ensures.within;
  so_far = λ items block lt.
      let so_far = c.loop.invariant.so_far items block lt in
      let place : c.loop.counter < length items = omega (arith, c.loop-test.true) in
      let read = fields_are c.loop.rest.now _ _ c.in-Some.ensures.read (block_step items c.loop.counter c.loop.rest.now block.fits place so_far.0) in
      let met = meets_next c.loop.counter (before_at c.loop.counter [] items) (get_or items c.loop.counter []) c.args.key.now c.in-Some.cell.shared c.in-Some.cell.rest.now c.loop.meeting.matched c.next-meeting.result.matched c.loop.meeting.way c.next-meeting.result.way
      (ap (λ (x : Fields). x.shared) read) (ap (λ (x : Fields). x.rest) read) so_far.1 c.next-meeting.ensures.near_alike c.next-meeting.ensures.near_way c.next-meeting.ensures.far_alike c.next-meeting.ensures.far_way in
      (ap (λ (x : Fields). x.after) read, subst (λ (item : List ℕ). Meets c.next-meeting.result.matched c.next-meeting.result.way item c.args.key.now) (sym (before_next c.loop.counter items)) met);
}

pub returns : goal.returns
returns c = λ items block lt.
    let at : c.loop.counter ≡ c.args.k + 1 = omega arith in
    let item : before_at c.loop.counter [] items ≡ get_or items c.args.k [] = ap (λ (j : ℕ). before_at j [] items) at ∙ before_next c.args.k items in
    (c.loop.invariant.so_far items block lt).1.way_is ∙ ap (λ (t : List ℕ). order t c.args.key.now) item
