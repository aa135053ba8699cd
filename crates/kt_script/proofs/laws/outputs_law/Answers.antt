use Rattle.std.proofs.Common.{refl}
use Rattle.kt_script.proofs.Outputs.{one_output, given_again}
use Rattle.kt_script.proofs.PrintedRows.{printed_held}
use Rattle.kt_script.proofs.laws.outputs_law.Goals as goal

pub returns : goal.returns
returns c = record { one = one_output; printed = λ replies events end. refl; again = given_again; held = printed_held }
