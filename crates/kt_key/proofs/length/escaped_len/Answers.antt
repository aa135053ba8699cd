use Rattle.std.proofs.Common.{arith}
use Rattle.kt_key.proofs.Steps.{length-escaped}
use Rattle.kt_key.proofs.length.escaped_len.Goals as goal

pub returns : goal.returns
returns c = omega (arith, length-escaped c.args.text.now)
