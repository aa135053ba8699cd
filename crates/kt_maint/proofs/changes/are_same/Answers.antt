use Rattle.std.proofs.Common.{◌∙◌, sym, arith}
use Rattle.std.proofs.lemmas.List.{take_all}
use Rattle.kt_maint.proofs.changes.are_same.Goals as goal

pub returns : goal.returns
returns c = sym (take_all c.deltas.at c.args.one.now (omega arith)) ∙ c.deltas.invariant ∙ take_all c.deltas.at c.args.other.now (omega arith)
