use Rattle.std.proofs.Common.{◌/◌, bit_or, arith}
use Rattle.std.proofs.lemmas.Nat.{or_lt, mul-le}
use Rattle.kt_lookup.proofs.hashing.nth_bit.Goals as goal

pub overflow_mul-result : goal.overflow_mul-result
overflow_mul-result c =
    let high = or_lt 32 (c.args.hash / 4294967296) 1 (omega arith) (omega arith) in
    let most = mul-le c.args.i (bit_or (c.args.hash / 4294967296) 1) 5 4294967296 (omega arith) (omega (arith, high)) in
    omega (arith, most)

pub overflow_add-result : goal.overflow_add-result
overflow_add-result c =
    let high = or_lt 32 (c.args.hash / 4294967296) 1 (omega arith) (omega arith) in
    let most = mul-le c.args.i (bit_or (c.args.hash / 4294967296) 1) 5 4294967296 (omega arith) (omega (arith, high)) in
    omega (arith, most)
