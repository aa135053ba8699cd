use Rattle.std.proofs.Common.{◌∙◌}
use Rattle.kt_dup.proofs.Lists.{first_found}
use Rattle.kt_dup.proofs.stores.DiskRowSetFirstAbove.first_above.Goals as goal

pub returns : goal.returns
returns c = c.first_above.ensures ∙ first_found c.args.above _
