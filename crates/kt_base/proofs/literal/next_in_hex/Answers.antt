use Rattle.kt_base.proofs.Unquoting.{short_high}
use Rattle.kt_base.proofs.literal.next_in_hex.Goals as goal

pub returns-in_default : goal.returns-in_default
returns-in_default c = short_high c.args.text.now c.in_default.len_below
