use Rattle.std.proofs.Common.{ap, arith}
use Rattle.kt_front.specs.Walking.{Fields}
use Rattle.kt_front.proofs.Walk.{block_start, block_step, no_cell, fields_are}
use Rattle.kt_front.proofs.walking.behind.Goals as goal

pub loop-init : goal.loop-init
loop-init c = record { there = λ items block le. block_start c.args.bytes.now items block; within = omega arith }

pub returns-in_default-clause-there : goal.returns-in_default-clause-there
returns-in_default-clause-there c = λ items block le. absurd (no_cell c.loop.rest.now _ c.in_default.ensures.read (block_step items c.loop.counter c.loop.rest.now block.fits (omega (arith, c.loop-test.true)) (c.loop.invariant.there items block le)))

pub loop-preserved : goal.loop-preserved
loop-preserved c = record {
  there = λ items block le. ap (λ (x : Fields). x.after) (fields_are c.loop.rest.now _ _ c.in-Some.ensures.read (block_step items c.loop.counter c.loop.rest.now block.fits (omega (arith, c.loop-test.true)) (c.loop.invariant.there items block le)));
  within = omega (arith, c.in-Some.ensures.within);
}
