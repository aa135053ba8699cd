use Rattle.std.proofs.Common.{arith}
use Rattle.kt_plain.proofs.NumbersFault.{fault_short, fault_long, spelled_numbers}
use Rattle.kt_plain.proofs.faults.fault_of_len.Goals as goal

pub returns-then-bytes-whole : goal.returns-then-bytes-whole
returns-then-bytes-whole c =
    let lt = rw c.field_len.ensures at c.if-bytes-whole.true in
    fault_short c.args.width c.args.n c.args.bytes.now c.requires.count lt (λ i. omega (arith, c.type_inv.bytes i)) c.requires.bits

pub returns-then-whole-bytes : goal.returns-then-whole-bytes
returns-then-whole-bytes c =
    let lt = rw c.field_len.ensures at c.if-whole-bytes.true in
    rw c.field_len.ensures (fault_long c.args.width c.args.n c.args.bytes.now c.requires.count lt (λ i. omega (arith, c.type_inv.bytes i)) c.requires.bits)

pub returns-else-whole-bytes : goal.returns-else-whole-bytes
returns-else-whole-bytes c =
    let le = rw c.field_len.ensures at c.if-bytes-whole.false in
    let ge = rw c.field_len.ensures at c.if-whole-bytes.false in
    spelled_numbers c.args.width c.args.n c.args.bytes.now c.requires.count (omega arith) (λ i. omega (arith, c.type_inv.bytes i)) c.requires.bits
