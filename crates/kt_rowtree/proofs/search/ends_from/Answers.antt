use Rattle.std.proofs.Common.{◌∙◌, ap}
use Rattle.std.specs.Ordering.{is_ge}
use Rattle.kt_rowtree.proofs.Upto.{ge_upto}
use Rattle.kt_rowtree.proofs.search.ends_from.Goals as goal

pub returns : goal.returns
returns c = c.is_ge.ensures ∙ ap is_ge c.cmp.ensures ∙ rw c.as_slice.ensures (ge_upto c.args.range.now.greatest c.args.key.now)
