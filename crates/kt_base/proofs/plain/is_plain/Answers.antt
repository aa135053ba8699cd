use Rattle.kt_base.proofs.Lanes.{plain_lanes}
use Rattle.kt_base.proofs.plain.is_plain.Goals as goal

pub returns : goal.returns
returns c = plain_lanes c.args.bytes.now c.args.at c.requires c.type_inv.bytes
