use Rattle.std.proofs.Common.{◌≡◌, arith, length}
use Rattle.kt_plain.proofs.Fields.{held_len}
use Rattle.kt_plain.proofs.numbers.Numbers.len.Goals as goal

pub returns : goal.returns
returns c =
    let n = (held_len c.self.inside.width c.self.inside.bytes.items c.args.self.now c.self.invariant c.self.view_is).1 in
    let same : c.len.result ≡ length c.self.inside.bytes.items = omega arith in
    rw (c.field_len.ensures, same) n
