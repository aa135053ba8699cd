use Rattle.std.proofs.Common.{arith}
use Rattle.kt_plain.proofs.NumbersFault.{fault_bit_among}
use Rattle.kt_plain.proofs.faults.fault_of_bits.Goals as goal

pub returns-in-Some : goal.returns-in-Some
returns-in-Some c =
    fault_bit_among c.args.n c.min.result c.args.bytes.now c.in-Some.at c.requires (omega arith) (omega arith) (λ i. omega (arith, c.type_inv.bytes i)) c.in-Some.ensures
