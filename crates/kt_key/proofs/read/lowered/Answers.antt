use mir.Val.{SFits}
use mir.Syntax.{w64}
use Rattle.std.proofs.Common.{rules}
use Rattle.std.proofs.lemmas.Int.{to_z-of_z}
use Rattle.kt_key.proofs.Numbers.{lowered_is}
use Rattle.kt_key.proofs.read.lowered.Goals as goal

pub returns : goal.returns
returns c =
    let h = lowered_is c.args.half c.args.number c.requires.range in
    let fits : SFits w64 c.difference.result = search rules in
    rw (to_z-of_z w64 c.difference.result fits, c.difference.ensures) (record { range = h.0; value = h.1 })
