use Rattle.std.proofs.Common.{refl, arith}
use Rattle.kt_policy.proofs.Rows.{first_row}
use Rattle.kt_policy.proofs.filling.is_first_row.Goals as goal

pub returns : goal.returns
returns c = (λ _. first_row c.args.budget c.args.row.now (omega arith) (λ k lt. c.loop-sum.invariant k (omega arith)), λ _. refl)
