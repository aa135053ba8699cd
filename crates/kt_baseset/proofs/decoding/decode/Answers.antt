use Rattle.std.proofs.Common.{arith}
use Rattle.kt_baseset.specs.declared.errors.CodecNo.TheVariants as answers
use Rattle.kt_baseset.proofs.FrontFaults.{front_tells}
use Rattle.kt_baseset.proofs.decoding.decode.Goals as goal

pub returns-in-Err-Left-clause-place : goal.returns-in-Err-Left-clause-place
returns-in-Err-Left-clause-place c =
    let stop = rw c.in-Err-Left.field-0-is at c.in-Err-Left.ensures.stop in
    (c.in-Err-Left.left, stop, c.saturating_sub-offset.ensures)

pub returns-in-Err-Left-clause-front : goal.returns-in-Err-Left-clause-front
returns-in-Err-Left-clause-front c =
    let stop = rw c.in-Err-Left.field-0-is at c.in-Err-Left.ensures.stop in
    front_tells c.args.bytes.now (answers.Place c.saturating_sub-offset.result) (λ i. omega (arith, c.type_inv.bytes i)) (c.in-Err-Left.left, stop, c.saturating_sub-offset.ensures)
