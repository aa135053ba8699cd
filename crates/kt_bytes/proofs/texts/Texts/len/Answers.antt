use Rattle.std.proofs.Common.{arith}
use Rattle.kt_bytes.proofs.Cuts.{count_is}
use Rattle.kt_bytes.proofs.texts.Texts.len.Goals as goal

pub returns : goal.returns
returns c = omega (arith, count_is c.self.inside.ends.items c.self.inside.bytes.items c.args.self.now c.self.view_is)
