use Rattle.std.proofs.Common.{arith, sym, ◌∙◌, ap, nat_cmp, ◌≤◌, length}
use Rattle.std.specs.Cmp.Lexicographic.{slice_cmp}
use Rattle.std.specs.Ordering.{ordering_then}
use Rattle.std.specs.declared.cmp.Ordering.TheVariants.{Greater}
use Rattle.kt_pool.specs.Cells.{content}
use Rattle.kt_pool.proofs.Along.{cmp_more, rest_chain, last_bytes, differs, agrees}
use Rattle.kt_pool.proofs.cells.compare.Goals as goal
use Rattle.kt_pool.proofs.cells.compare.Goals.{then-loop-left-test+else-rest-gt-PAYLOAD, else-loop-left-test}

pub returns-then-ne : goal.returns-then-ne
returns-then-ne c =
    let l = c.loop-left in
    let s = c.split_at in
    differs c.args.cells.now l.at l.left l.invariant.0 c.requires.full l.rest.now s.result.0.now s.result.1.now c.cmp-order.result (slice_cmp nat_cmp (content c.args.cells.now c.args.first c.args.len) c.args.key.now) c.loop-left-test.true (omega arith) s.ensures.front s.ensures.back c.cmp-order.ensures c.if-ne.ensures l.invariant.1

pub loop-left-preserved : goal.loop-left-preserved
loop-left-preserved c =
    let l = c.loop-left in
    let s = c.split_at in (
      rest_chain c.args.cells.now l.at l.left l.invariant.0 c.requires.full c.loop-left-test.true,
      agrees c.args.cells.now l.at l.left l.invariant.0 c.requires.full l.rest.now s.result.0.now s.result.1.now c.cmp-order.result (slice_cmp nat_cmp (content c.args.cells.now c.args.first c.args.len) c.args.key.now) c.loop-left-test.true (omega arith) s.ensures.front s.ensures.back c.cmp-order.ensures c.if-ne.ensures l.invariant.1,
    )

pub returns-then-left-gt-PAYLOAD : goal.returns-then-left-gt-PAYLOAD
returns-then-left-gt-PAYLOAD c =
    let l = c.loop-left in
    let short : length l.rest.now ≤ 56 = elim c.loop-left-test.branch [ then-loop-left-test+else-rest-gt-PAYLOAD w ↦ omega arith | else-loop-left-test w ↦ omega arith ] in
    c.then.ensures ∙ ap (λ o. ordering_then o Greater) c.cmp.ensures ∙ sym (cmp_more c.args.cells.now l.at l.left l.invariant.0 c.requires.full l.rest.now c.if-left-gt-PAYLOAD.true short) ∙ l.invariant.1

pub returns-else-left-gt-PAYLOAD : goal.returns-else-left-gt-PAYLOAD
returns-else-left-gt-PAYLOAD c =
    let l = c.loop-left in
    c.cmp-else-left-gt-PAYLOAD.ensures ∙ ap (λ xs. slice_cmp nat_cmp xs l.rest.now) (sym (last_bytes c.args.cells.now l.at l.left l.invariant.0 c.requires.full (omega arith))) ∙ l.invariant.1
