use Rattle.std.proofs.Common.{◌≡◌, ◌<◌, ◌++◌, ◌∙◌, List, Ok, length, drop, subst, arith}
use Rattle.kt_history.specs.declared.operation.RowOp.{RowOp}
use Rattle.kt_history.specs.Spelled.{OpFits}
use Rattle.kt_records.specs.Spelling.{operation}
use Rattle.kt_records.specs.Reading.{operation_at}
use Rattle.kt_records.proofs.Records.{op_took}
use Rattle.kt_records.proofs.lists.operation_behind.Goals as goal

took : (c : goal.After-rises_to-rises) → length (drop c.args.first c.args.ops.now) < 256 → (c.args.bytes.now ≡ operation c.in_ok-op.op ++ c.in_ok-op.rest.now) × OpFits c.in_ok-op.op
took c few = op_took (drop c.args.first c.args.ops.now) c.args.bytes.now c.in_ok-op.op c.in_ok-op.rest.now few (λ i. omega (arith, c.type_inv.bytes i)) (subst (λ (front : List RowOp). operation_at front c.args.bytes.now ≡ Ok (c.in_ok-op.op, c.in_ok-op.rest.now)) (c.of-front.ensures ∙ c.behind.ensures) c.in_ok-op.ensures)

pub returns-clause-spelled : goal.returns-clause-spelled
returns-clause-spelled c = λ few. (took c few).0

pub returns-clause-fits : goal.returns-clause-fits
returns-clause-fits c = λ few. (took c few).1
