use Rattle.std.proofs.Common.{◌≡◌, arith, take, sym, ◌∙◌, subst}
use Rattle.kt_column.specs.Nulls.{byte_len, bits_in, ReadsNulls}
use Rattle.kt_column.proofs.NullBits.{none_missing, none_spare, same_nulls, reads_nulls}
use Rattle.kt_column.proofs.nulls.read.Goals as goal

pub returns-then-bytes-len-clause-only : goal.returns-then-bytes-len-clause-only
returns-then-bytes-len-clause-only c nulls rest len e = absurd (let there = none_missing c.args.n nulls rest c.args.bytes.now len e in omega (arith, there))

pub returns-then-has_spare-clause-only : goal.returns-then-has_spare-clause-only
returns-then-has_spare-clause-only c nulls rest len e = absurd (let there = none_spare c.args.n nulls rest c.args.bytes.now len e c.if-has_spare.ensures.yes.0 in omega (arith, there, c.if-has_spare.ensures.yes.1))

pub returns-clause-found : goal.returns-clause-found
returns-clause-found c =
    let len : c.div_ceil-len.result ≡ byte_len c.args.n = omega arith in
    let bits : c.in_ok-unpacked.field-0 ≡ bits_in c.args.n (take (byte_len c.args.n) c.args.bytes.now) = subst (λ k. c.in_ok-unpacked.field-0 ≡ bits_in c.args.n (take k c.args.bytes.now)) len c.in_ok-unpacked.ensures in
    subst (λ ns. ReadsNulls c.args.n c.args.bytes.now ns) (sym bits) (reads_nulls c.args.n c.args.bytes.now (omega (arith, len)) (λ i. omega (arith, c.type_inv.bytes i)) c.if-has_spare.ensures.no)

pub returns-clause-only : goal.returns-clause-only
returns-clause-only c nulls rest count e =
    let len : c.div_ceil-len.result ≡ byte_len c.args.n = omega arith in
    let bits : c.in_ok-unpacked.field-0 ≡ bits_in c.args.n (take (byte_len c.args.n) c.args.bytes.now) = subst (λ k. c.in_ok-unpacked.field-0 ≡ bits_in c.args.n (take k c.args.bytes.now)) len c.in_ok-unpacked.ensures in
    bits ∙ same_nulls c.args.n nulls rest c.args.bytes.now count e
